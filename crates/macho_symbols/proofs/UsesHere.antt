-- What a use notes, by the rows and by the link. A name leads to an import exactly where a library defines it, and to
-- nothing exactly where nothing does; its number is the next one exactly where it isn't noted.
use Rattle.std.proofs.Common.{◌≡◌, ℕ, ◌+◌, ◌<◌, ◌≤◌, ◌⊎◌, inl, inr, All, get_or, Bool, true, false, ◌&&◌, ◌||◌, ◌==◌, not, if◌then◌else◌, Option, Some, None, is_none, List, [], ◌∷◌, ◌++◌, length, map, refl, ap, subst, sym, ◌∙◌, arith, suc, IfOk, IfErr, Result, Ok, Err}
use Rattle.std.specs.Option.{unwrap_or}
use Rattle.std.specs.List.{position_or_len, list_any}
use Rattle.std.specs.Str.{bytes_eq}
use Rattle.std.proofs.lemmas.Bool.{cases_lt}
pub use Rattle.std.proofs.lemmas.Result.{on_ok_weaker as on_ok}
use Rattle.std.proofs.lemmas.List.{length-map, get_or-map, get_or_past}
use Rattle.std.proofs.lemmas.Bool.Decides.{nat_tests}
use Rattle.macho_records.specs.Symbols.{is_global}
use Rattle.macho_model.specs.declared.targets.Target.TheVariants as target
use Rattle.macho_model.specs.Links.{Link, Input, Object, Dylib, Stub, no_input, object_of}
use Rattle.macho_model.specs.Resolution.{SymbolId, ImageBase, entry_at, name_at, definition_of, library_of_input, library_name}
use Rattle.macho_model.specs.steps.Resolved.{DSO_HANDLE, is_library}
use Rattle.macho_model.specs.Needs.{is_imported}
use Rattle.macho_symbol_names.specs.declared.notes.Sort.{Sort}
use Rattle.macho_symbol_names.specs.declared.notes.Sort.TheVariants.{Section, Absolute, Common, Offered, Nowhere}
use Rattle.macho_symbol_names.specs.declared.fault.SymbolFault.{SymbolFault}
use Rattle.macho_symbol_names.specs.declared.fault.SymbolFault.TheVariants.{DuplicateSymbol, UndefinedSymbol, ExportListMissing, OutOfMemory}
use Rattle.macho_symbol_names.specs.Kept.{FileRows, kept_of, kept_name, row_of_symbol, no_file}
use Rattle.macho_symbols.specs.Kept.{ResolvedRows, IsResolved, HasSymbol, symbol_id, noted_of}
use Rattle.macho_symbols.specs.Told.{noting, IsDefined, IsUndefined, ImportsAre}
use Rattle.macho_symbols.specs.declared.solved.Import.{Import}
use Rattle.macho_symbol_names.specs.Events.{Event, event_at, events, best_of, library_text}
use Rattle.macho_symbols.specs.steps.Targets.{event_of, is_next, is_nothing, noting_in}
use Rattle.macho_symbols.specs.Targets.{defined_as, definition_by, lead_in, led_in, named_in}
use Rattle.macho_symbols.specs.steps.Solved.{IsFoundIn, IsUndefinedIn, IsImportIn, library_in}
use Rattle.macho_symbols.proofs.Defined.{definition_is}
use Rattle.macho_symbols.proofs.Targeted.{symbol_kept}
use Rattle.macho_symbols.proofs.Bridge.{file_at}

shifted : (k m : ℕ) → ((1 + k) == suc m) ≡ (k == m)
shifted k m = of (k == m) refl
  where
    of : (t : Bool) → (k == m) ≡ t → ((1 + k) == suc m) ≡ t
    of true e = grind (arith, nat_tests)
    of false e = grind (arith, nat_tests)

never : (m : ℕ) → (0 == suc m) ≡ false
never m = grind (arith, nat_tests)

-- a name's number is the next one where the name isn't noted
pub next_number : (test : List ℕ → Bool) (noted : List (List ℕ)) → (position_or_len test noted == length noted) ≡ not (list_any test noted)
next_number test [] = refl
next_number test (n ∷ ns) = of (test n) refl (next_number test ns)
  where
    of : (t : Bool) → test n ≡ t → (position_or_len test ns == length ns) ≡ not (list_any test ns)
        → (position_or_len test (n ∷ ns) == length (n ∷ ns)) ≡ not (test n || list_any test ns)
    of true is rest = rw is (never (length ns))
    of false is rest = rw is (shifted (position_or_len test ns) (length ns) ∙ rest)

pub nothing_by : (files : List FileRows) (noted : List (List ℕ)) (name : List ℕ) (o : Option Event)
    → is_nothing (led_in files noted name o) ≡ is_none (definition_by name o)
nothing_by files noted name None = of (bytes_eq name DSO_HANDLE)
  where
    of : (t : Bool) → is_nothing (if t then target.Base else target.None) ≡ is_none (if t then Some ImageBase else None)
    of true = refl
    of false = refl
nothing_by files noted name (Some e) = sorts e.row.sort
  where
    of : (t : Bool) → is_nothing (if t then target.Base else target.None) ≡ is_none (if t then Some ImageBase else None)
    of true = refl
    of false = refl

    sorts : (sort : Sort) → is_nothing (lead_in files noted name e sort) ≡ is_none (defined_as name sort e)
    sorts Section = refl
    sorts Absolute = refl
    sorts Common = refl
    sorts Offered = refl
    sorts Nowhere = of (bytes_eq name DSO_HANDLE)

next_by : (files : List FileRows) (noted : List (List ℕ)) (name : List ℕ) (o : Option Event)
    → is_next (length noted) (led_in files noted name o) ≡ (is_library (definition_by name o) && not (list_any (bytes_eq name) noted))
next_by files noted name None = of (bytes_eq name DSO_HANDLE)
  where
    of : (t : Bool)
        → is_next (length noted) (if t then target.Base else target.None) ≡
        (is_library (if t then Some ImageBase else None) && not (list_any (bytes_eq name) noted))
    of true = refl
    of false = refl
next_by files noted name (Some e) = sorts e.row.sort
  where
    of : (t : Bool)
        → is_next (length noted) (if t then target.Base else target.None) ≡
        (is_library (if t then Some ImageBase else None) && not (list_any (bytes_eq name) noted))
    of true = refl
    of false = refl

    sorts : (sort : Sort)
        → is_next (length noted) (lead_in files noted name e sort) ≡
        (is_library (defined_as name sort e) && not (list_any (bytes_eq name) noted))
    sorts Section = refl
    sorts Absolute = refl
    sorts Common = refl
    sorts Offered = next_number (bytes_eq name) noted
    sorts Nowhere = of (bytes_eq name DSO_HANDLE)

-- the same by the link
pub nothing_is : (l : Link) (noted : List (List ℕ)) (name : List ℕ)
    → is_nothing (named_in (map kept_of l.inputs) noted name) ≡ is_none (definition_of l name)
unfolding named_in
nothing_is l noted name = nothing_by (map kept_of l.inputs) noted name (best_of name (events (map kept_of l.inputs)))
    ∙ ap is_none (sym (definition_is l name))

pub next_is : (l : Link) (noted : List (List ℕ)) (name : List ℕ)
    → is_next (length noted) (named_in (map kept_of l.inputs) noted name) ≡ (is_imported l name && not (list_any (bytes_eq name) noted))
unfolding named_in
next_is l noted name =
    next_by (map kept_of l.inputs) noted name (best_of name (events (map kept_of l.inputs)))
    ∙ ap (λ d. is_library d && not (list_any (bytes_eq name) noted)) (sym (definition_is l name))

noting_is : (l : Link) (noted : List (List ℕ)) (s : SymbolId) → noting_in (map kept_of l.inputs) noted (event_of l s) ≡ noting l noted s
unfolding row_of_symbol
noting_is l noted s = of (is_global (entry_at l s)) refl
  where
    of : (t : Bool) → is_global (entry_at l s) ≡ t → noting_in (map kept_of l.inputs) noted (event_of l s) ≡ noting l noted s
    of true global = rw global (ap (λ t. if t then noted ++ name_at l s ∷ [] else noted) (next_is l noted (name_at l s)))
    of false local = rw local refl

pub noted_here : (l : Link) (noted : List (List ℕ)) (r q : ResolvedRows) (file symbol : ℕ) → IsResolved l noted r
    → HasSymbol r file symbol → q.files ≡ r.files
    → q.noted ≡ noting_in r.files r.noted (event_at r.files file symbol) → IsResolved l (noting l noted (symbol_id file symbol)) q
noted_here l noted r q file symbol is there files notes = record {
  keeps = files ∙ is.keeps;
  notes =
      notes ∙ ap (noting_in r.files r.noted) (symbol_kept l noted r file symbol is there)
      ∙ ap (λ fs. noting_in fs r.noted (event_of l (symbol_id file symbol))) is.keeps
      ∙ ap (λ ns. noting_in (map kept_of l.inputs) ns (event_of l (symbol_id file symbol))) is.notes
      ∙ noting_is l noted (symbol_id file symbol);
}

-- what an answer says, said in other words
pub same_ok : {X E : Type 0} (r : Result X E) (a b : X) → a ≡ b → IfOk r (λ t. t ≡ a) → IfOk r (λ t. t ≡ b)
same_ok (Ok x) a b e p = p ∙ e
same_ok (Err y) a b e p = tt

pub both_ok : {X E : Type 0} (r : Result X E) (P Q R : X → Type 0) → ((x : X) → P x → Q x → R x) → IfOk r P → IfOk r Q → IfOk r R
both_ok (Ok x) P Q R f p q = f x p q
both_ok (Err e) P Q R f p q = tt

nothing_here : (l : Link) (noted : List (List ℕ)) (r : ResolvedRows) (s : SymbolId) → IsResolved l noted r → is_global (entry_at l s) ≡ true
    → is_nothing (named_in r.files r.noted (event_of l s).row.name) ≡ is_none (definition_of l (name_at l s))
unfolding row_of_symbol
nothing_here l noted r s is global =
    let named : kept_name (object_of l s.file) s.symbol ≡ name_at l s = rw global refl in
    ap (λ n. is_nothing (named_in r.files r.noted n)) named ∙ ap (λ fs. is_nothing (named_in fs r.noted (name_at l s))) is.keeps
    ∙ nothing_is l r.noted (name_at l s)

global_here : (l : Link) (s : SymbolId) → (event_of l s).row.global ≡ is_global (entry_at l s)
unfolding row_of_symbol
global_here l s = refl

name_here : (l : Link) (s : SymbolId) → is_global (entry_at l s) ≡ true → (event_of l s).row.name ≡ name_at l s
unfolding row_of_symbol
name_here l s global = rw global refl

pub found_here : (l : Link) (noted : List (List ℕ)) (r : ResolvedRows) (file symbol : ℕ) → IsResolved l noted r → HasSymbol r file symbol
    → IsFoundIn r.files r.noted (event_at r.files file symbol) → IsDefined l (symbol_id file symbol)
found_here l noted r file symbol is there found global =
    let s = symbol_id file symbol in
    let found_row = subst (IsFoundIn r.files r.noted) (symbol_kept l noted r file symbol is there) found in
    sym (nothing_here l noted r s is global) ∙ found_row (global_here l s ∙ global)

pub undefined_here : (l : Link) (noted : List (List ℕ)) (r : ResolvedRows) (file symbol : ℕ) → IsResolved l noted r
    → HasSymbol r file symbol
    → (fault : SymbolFault) → IsUndefinedIn r.files r.noted (event_at r.files file symbol) fault
    → IsUndefined l (symbol_id file symbol) fault
undefined_here l noted r file symbol is there OutOfMemory told = tt
undefined_here l noted r file symbol is there (DuplicateSymbol name first second) told = told
undefined_here l noted r file symbol is there (ExportListMissing name) told = told
undefined_here l noted r file symbol is there (UndefinedSymbol name undefined) told =
    let s = symbol_id file symbol in
    let kept = symbol_kept l noted r file symbol is there in
    let global : is_global (entry_at l s) ≡ true = sym (global_here l s) ∙ sym (ap (λ e. e.row.global) kept) ∙ told.0 in (
      global,
      sym (nothing_here l noted r s is global) ∙ sym (ap (λ e. is_nothing (named_in r.files r.noted e.row.name)) kept) ∙ told.1,
      told.2 ∙ ap (λ e. e.row.name) kept ∙ name_here l s global,
      told.3,
    )

-- the imports by the link
library_here : (l : Link) (file : ℕ) → library_in (map kept_of l.inputs) file ≡ library_name l file
library_here l file = of (cases_lt file (length l.inputs))
  where
    by : (x : Input) → library_text (kept_of x).library ≡ unwrap_or (library_of_input x) []
    by (Object b) = refl
    by (Dylib b) = refl
    by (Stub text says) = refl

    of : (file < length l.inputs) ⊎ (length l.inputs ≤ file) → library_in (map kept_of l.inputs) file ≡ library_name l file
    of (inl within) = ap (λ f. library_text f.library) (file_at l.inputs file within) ∙ by (get_or l.inputs file no_input)
    of (inr past) =
        ap (λ f. library_text f.library)
        (get_or_past (map kept_of l.inputs) file no_file (omega (arith, past, length-map l.inputs kept_of)))
        ∙ ap (λ (x : Input). unwrap_or (library_of_input x) []) (sym (get_or_past l.inputs file no_input past))

pub imports_here : (l : Link) (noted : List (List ℕ)) (r : ResolvedRows) (imports : List Import) → IsResolved l noted r
    → noted_of imports ≡ r.noted → All (IsImportIn r.files) imports
    → ImportsAre l noted imports
imports_here l noted r imports is names all = record {
  long = sym (length-map imports (λ i. i.name.items)) ∙ ap length (names ∙ is.notes);
  each = λ k d h.
      let i = get_or imports k d in
      let named : i.name.items ≡ get_or noted k [] = sym (get_or-map (λ i. i.name.items) imports k d [] h)
      ∙ ap (λ ns. get_or ns k []) (names ∙ is.notes) in
      let bound = all k d h in (
        named,
        ap (definition_of l) (sym named) ∙ definition_is l i.name.items
            ∙ sym (ap (λ fs. definition_by i.name.items (best_of i.name.items (events fs))) is.keeps) ∙ bound.0,
        bound.1 ∙ ap (λ fs. library_in fs i.file) is.keeps ∙ library_here l i.file,
      );
}
