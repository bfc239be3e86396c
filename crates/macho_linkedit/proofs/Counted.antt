-- The sizes that are counted are those of the link.
--
-- Each is a sum over the same things: commands over libraries and paths, names over imports, entries over imports and own ones.
use Rattle.std.proofs.Common.{◌≡◌, ℕ, ◌+◌, ◌-◌, ◌*◌, ◌==◌, not, if◌then◌else◌, Bool, true, false, List, [], ◌∷◌, map, length, refl, ap, ◌∙◌, arith, Option, Some, None, is_some, Vec, Global, replicate}
use Rattle.std.specs.Prelude.{sum_by}
use Rattle.std.proofs.lemmas.List.{length-map, length-append, length-replicate}
use Rattle.std.proofs.lemmas.List.Sums.{sum_by-cons}
use Rattle.macho_bytes.specs.Numbers.{rounded_up}
use Rattle.macho_model.specs.declared.placed.Counts.{Counts}
use Rattle.macho_model.specs.Links.{Link}
use Rattle.macho_model.specs.Needs.{libraries_needed}
use Rattle.macho_model.specs.Faults.{last_part}
use Rattle.macho_model.specs.Fixups.{own_entries, import_entries_of, entries_have_addends, import_format}
use Rattle.macho_model.specs.Images.{import_entry_size}
use Rattle.macho_model.specs.Signature.{identifier_text}
use Rattle.macho_model.specs.Segments.{one_if}
use Rattle.macho_model.specs.HeadCommands.{DYLINKER, path_command_size, own_commands_size, versions_size}
use Rattle.macho_symbols.specs.declared.solved.Import.{Import}
use Rattle.macho_commands.proofs.LinkCommands.{length-link_commands}
use Rattle.macho_promise.specs.Sizes.{commands_size, padding_size, text_size, counts_with}
use Rattle.macho_linkedit.specs.declared.counting.SizesAsked.{SizesAsked}
use Rattle.macho_linkedit.specs.Imports.{texts, name_bytes}
use Rattle.macho_linkedit.specs.Counting.{AreArguments, AreAsked}
use Rattle.macho_linkedit.specs.steps.Counting.{own_asked, versions_asked, commands_asked, padding_asked}
use Rattle.macho_linkedit.proofs.LinkEntries.{entries_long, named}

-- sums over texts, and over their bytes
sum_texts : (f : List ℕ → ℕ) (xs : List (Vec ℕ Global)) → sum_by (λ x. f x.items) xs ≡ sum_by f (texts xs)
sum_texts f [] = refl
sum_texts f (x ∷ xs) = omega (arith, sum_by-cons (λ (y : Vec ℕ Global). f y.items) x xs, sum_by-cons f x.items (texts xs), sum_texts f xs)

pub sum_names : (xs : List Import) → name_bytes xs ≡ sum_by text_size (map (λ i. i.name.items) xs)
sum_names [] = refl
sum_names (x ∷ xs) =
    omega (
      arith,
      sum_by-cons (λ (i : Import). length i.name.items + 1) x xs,
      sum_by-cons text_size x.name.items
          (map (λ i. i.name.items) xs),
      sum_names xs,
    )

own_is : (l : Link) (a : SizesAsked) → AreArguments l a.arguments → own_asked a ≡ own_commands_size l
own_is l a here =
    ap (λ (b : Bool). if b then 24 + path_command_size 12 DYLINKER else path_command_size 24 a.arguments.install_name.now) here.executable
    ∙ ap (λ (n : List ℕ). if l.executable then 24 + path_command_size 12 DYLINKER else path_command_size 24 n) here.install_name

versions_is : (l : Link) (a : SizesAsked) → AreArguments l a.arguments → versions_asked a ≡ versions_size l.versions
versions_is l a here = ap (λ (b : Bool). if b then 24 + 8 else 0) here.versions ∙ by l.versions
  where
    by : (o : Option (ℕ × ℕ)) → (if is_some o then 24 + 8 else 0) ≡ versions_size o
    by None = refl
    by (Some v) = refl

commands_is : (l : Link) (a : SizesAsked) → AreAsked l a → commands_asked a ≡ commands_size l
unfolding commands_size
commands_is l a are =
    let libraries = sum_texts (path_command_size 24) a.libraries.now ∙ ap (sum_by (path_command_size 24)) are.libraries in
    let rpaths = sum_texts (path_command_size 12) a.arguments.rpaths.now ∙ ap (sum_by (path_command_size 12)) are.arguments.rpaths in
    omega (arith, own_is l a are.arguments, versions_is l a are.arguments, libraries, rpaths, length-link_commands l [] 0)

padding_is : (l : Link) (a : SizesAsked) → AreAsked l a → padding_asked a ≡ padding_size l
padding_is l a are = ap (λ (b : Bool). if b then inner a.arguments.executable else 0) are.arguments.headerpad ∙ ap
    (λ (b : Bool). if l.headerpad then inner b else 0) are.arguments.executable
    ∙ by l.headerpad l.executable
  where
    inner : Bool → ℕ
    inner b = if b then 1024 * (length a.libraries.now + length a.arguments.rpaths.now)
        else 1024 * (length a.libraries.now + length a.arguments.rpaths.now + 1)

    libraries : length a.libraries.now ≡ length (libraries_needed l)
    libraries = omega (arith, length-map a.libraries.now (λ (x : Vec ℕ Global). x.items), ap length are.libraries)

    rpaths : length a.arguments.rpaths.now ≡ length l.rpaths
    rpaths = omega (arith, length-map a.arguments.rpaths.now (λ (x : Vec ℕ Global). x.items), ap length are.arguments.rpaths)

    by : (b c : Bool) → (if b then inner c else 0) ≡
        (if b then 1024 * (length (libraries_needed l) + length l.rpaths + one_if (not c)) else 0)
    by false c = refl
    by true true = omega (arith, libraries, rpaths)
    by true false = omega (arith, libraries, rpaths)

-- the bytes of an entry, by how many own ones there are
abbrev pub entry_bytes : ℕ → ℕ
entry_bytes n = if n == 0 then 4 else 8

entry_size_is : (l : Link) (n : ℕ) → n ≡ length (own_entries l) → entry_bytes n ≡ import_entry_size (import_format l)
unfolding entries_have_addends
entry_size_is l n is = by (length (own_entries l) == 0) refl
  where
    by : (b : Bool) → (length (own_entries l) == 0) ≡ b → entry_bytes n ≡ import_entry_size (import_format l)
    by true e = let same : (n == 0) ≡ true = ap (λ (m : ℕ). m == 0) is ∙ e in rw (same, e) refl
    by false e = let same : (n == 0) ≡ false = ap (λ (m : ℕ). m == 0) is ∙ e in rw (same, e) refl

identifier_is : (name : List ℕ) → rounded_up 16 (length name + 1) ≡ length (identifier_text name)
identifier_is name =
    omega (
      arith,
      length-append name (replicate (rounded_up 16 (length name + 1) - length name) 0),
      length-replicate {A = ℕ}
          (rounded_up 16 (length name + 1) - length name) 0,
    )

-- THE sizes.
pub counted : (l : Link) (a : SizesAsked) (commands padding entry names identifier : ℕ) → AreAsked l a → commands ≡ commands_asked a
    → padding ≡ padding_asked a
    → entry ≡ entry_bytes a.own_entries → names ≡ name_bytes a.imports.now → identifier ≡ rounded_up 16 (length a.arguments.name.now + 1)
    → (let c : Counts = record {
      commands = commands;
      padding = padding;
      initializers = a.initializers;
      unwind = a.unwind;
      imports = length a.imports.now + a.own_entries;
      import_size = entry;
      name_bytes = names;
      trie = a.trie;
      symbols = a.symbols;
      strings = a.strings;
      identifier = identifier;
    } in c) ≡ counts_with l a.trie
unfolding counts_with
counted l a commands padding entry names identifier are c_is p_is e_is n_is i_is =
    let e1 = c_is ∙ commands_is l a are in
    let e2 = p_is ∙ padding_is l a are in
    let e3 = are.consumed.0 in
    let e4 = are.consumed.1 in
    let e5 : length a.imports.now + a.own_entries ≡ length (import_entries_of l) = omega
    (arith, are.imports.long, are.own, entries_long l) in
    let e6 = e_is ∙ entry_size_is l a.own_entries are.own in
    let e7 = n_is ∙ sum_names a.imports.now ∙ ap (sum_by text_size) (named l a.imports.now are.imports) in
    let e8 = are.symbols.0 in
    let e9 = are.symbols.1 in
    let e10 = i_is ∙ ap (λ (n : List ℕ). rounded_up 16 (length n + 1)) are.arguments.name ∙ identifier_is (last_part l.output) in
    cc (e1, e2, e3, e4, e5, e6, e7, e8, e9, e10)
