-- What a word on the chains leads to.
--
-- The file has one word at an address, so a line and what is asked of the word speak of the same one: a word that binds isn't one that
-- moves, two values of one word are equal, and so are the imports that it names, in the one table of the image. What is asked is then a
-- comparison of numbers and names. A value is known modulo 2 ^ 64 and is below it, as is the sum of both addends, so equal remainders are
-- equal numbers. The imports of the image are the entries of its one table, in order: the entry of a number is the list's at that number.
use Rattle.std.proofs.Common.{◌≡◌, ℕ, ◌+◌, ◌-◌, ◌%◌, ◌^◌, ◌*◌, ◌<◌, ◌≤◌, true, false, List, [], ◌∷◌, map, length, get_or, refl, sym, subst, ap, ◌∙◌, arith, ℤ}
use Rattle.std.specs.List.{Contains, flat_map, range_with_len}
use Rattle.std.specs.FinMap.{empty}
use Rattle.std.specs.Int.{w64, cast_signed, cast_unsigned}
use Rattle.std.proofs.lemmas.Int.{of_z-to_z}
use Rattle.std.proofs.lemmas.List.{append-nil, get_or_default}
use Rattle.std.proofs.lemmas.List.Concat.{flat_map-cons}
use Rattle.std.proofs.lemmas.List.FromFn.{get_or-map-range_with_len, length-map-range_with_len}
use Rattle.macho_model.specs.declared.targets.Target.{Target}
use Rattle.macho_model.specs.declared.targets.Target.TheVariants as target
use Rattle.macho_model.specs.Links.{Link}
use Rattle.macho_model.specs.Needs.{imports_of, import_library}
use Rattle.macho_model.specs.Images.{base_of, Table, tables_of, fixups_header, import_entry, import_name}
use Rattle.macho_model.specs.Loader.{IsAccepted, is_bind, ordinal_of}
use Rattle.macho_model.specs.Meaning.{Same}
use Rattle.macho_model.specs.Memory.{rebase_target, rebase_high, bind_addend}
use Rattle.macho_model.specs.Placement.{Placed}
use Rattle.macho_model.specs.ReadBack.{SaysRebase}
use Rattle.macho_model.specs.Stands.{IsAt}
use Rattle.macho_loader.specs.Lists.{Import, import_at, imports_of_image, SaysImport, SaysKind}
use Rattle.macho_loader.specs.declared.chain_list.FixupLine.{FixupLine}
use Rattle.macho_loader.specs.declared.chain_list.LineKind.TheVariants.{Rebase, Bind}
use Rattle.macho_verify_laws.specs.InFile.{WordLeads}
use Rattle.macho_verify_laws.proofs.OneMemory.{one_word}
use Rattle.macho_image_rules.specs.Words.{is_import, IsLineOf, AreImportsOf, IsPlacedAt, IsImportNamed}
use Rattle.macho_image_rules.specs.steps.Entries.{no_import, IsEntry}

-- what is asked of a word where the target is no symbol of a library
abbrev LeadsByValue : Link → List ℕ → Placed → ℕ → Target → ℕ → Type 0
LeadsByValue l b p a t addend = (value : ℕ) × (x : ℕ) × SaysRebase b a value × IsAt l p 0 empty t x × Same value (x + addend)

to_leads : (l : Link) (b : List ℕ) (p : Placed) (a : ℕ) (t : Target) (addend : ℕ) → is_import t ≡ false → LeadsByValue l b p a t addend
    → WordLeads l b p a t addend
to_leads l b p a (target.Section file section offset) addend own h = h
to_leads l b p a (target.Common id) addend own h = h
to_leads l b p a (target.Import id) addend own h = absurd (let e : true ≡ false = own in cc)
to_leads l b p a target.Base addend own h = h
to_leads l b p a (target.Absolute value) addend own h = h
to_leads l b p a target.None addend own h = h

from_leads : (l : Link) (b : List ℕ) (p : Placed) (a : ℕ) (t : Target) (addend : ℕ) → is_import t ≡ false → WordLeads l b p a t addend
    → LeadsByValue l b p a t addend
from_leads l b p a (target.Section file section offset) addend own h = h
from_leads l b p a (target.Common id) addend own h = h
from_leads l b p a (target.Import id) addend own h = absurd (let e : true ≡ false = own in cc)
from_leads l b p a target.Base addend own h = h
from_leads l b p a (target.Absolute value) addend own h = h
from_leads l b p a target.None addend own h = h

-- what a line of a kind says
says_value : (b : List ℕ) (line : FixupLine) (value : ℕ) → IsLineOf b line → line.kind ≡ Rebase value → SaysRebase b line.address value
says_value b line value h kind = subst (SaysKind b line.address) kind h.says

says_import : (b : List ℕ) (line : FixupLine) (import : ℕ) (addend : ℤ) → IsLineOf b line → line.kind ≡ Bind import addend
    → SaysImport b line.address import (cast_unsigned w64 addend)
says_import b line import addend h kind = subst (SaysKind b line.address) kind h.says

-- a word that moves with the image leads to what is at its value, less the addend
pub value_leads : (l : Link) (b : List ℕ) (p : Placed) (t : Target) (line : FixupLine) (value x addend : ℕ) → IsLineOf b line
    → IsPlacedAt l p t x → line.kind ≡ Rebase value → value ≡ (x + addend) % 2 ^ 64 → WordLeads l b p line.address t addend
value_leads l b p t line value x addend of at kind is =
    to_leads l b p line.address t addend at.own
    (value, at.place, says_value b line value of kind, at.at, omega (arith, is, at.each at.place at.at))

pub leads_value : (l : Link) (b : List ℕ) (p : Placed) (t : Target) (line : FixupLine) (value x addend : ℕ) → IsLineOf b line
    → IsPlacedAt l p t x → line.kind ≡ Rebase value → WordLeads l b p line.address t addend → value ≡ (x + addend) % 2 ^ 64
leads_value l b p t line value x addend of at kind leads =
    let says = says_value b line value of kind in
    let asked = from_leads l b p line.address t addend at.own leads in
    let word = one_word b line.address says.word asked.2.word of.accepted says.stands asked.2.stands in
    let value_of : ℕ → ℕ = λ w. (rebase_target w + rebase_high w * 2 ^ 56 + base_of b) % 2 ^ 64 in
    let same : value ≡ asked.0 = says.is ∙ ap value_of word ∙ sym asked.2.is in
    let small : asked.0 % 2 ^ 64 ≡ asked.0 = omega (arith, asked.2.is) in
    omega (arith, same, small, asked.4, at.each asked.1 asked.3)

-- a word that binds leads to no such target
pub bind_leads_not : (l : Link) (b : List ℕ) (p : Placed) (t : Target) (line : FixupLine) (import : ℕ) (sum : ℤ) (x addend : ℕ)
    → IsLineOf b line → IsPlacedAt l p t x → line.kind ≡ Bind import sum → WordLeads l b p line.address t addend → ⊥
bind_leads_not l b p t line import sum x addend of at kind leads =
    let says = says_import b line import sum of kind in
    let asked = from_leads l b p line.address t addend at.own leads in
    let word = one_word b line.address says.word asked.2.word of.accepted says.stands asked.2.stands in
    let e : true ≡ false = sym says.binds ∙ ap is_bind word ∙ asked.2.rebases in
    cc

-- a word that moves with the image leads to no import
pub value_leads_not : (l : Link) (b : List ℕ) (p : Placed) (id : ℕ) (line : FixupLine) (value addend : ℕ) → IsLineOf b line
    → line.kind ≡ Rebase value → WordLeads l b p line.address (target.Import id) addend → ⊥
value_leads_not l b p id line value addend of kind leads =
    let says = says_value b line value of kind in
    let asked = leads.2 in
    let word = one_word b line.address says.word asked.word of.accepted says.stands asked.stands in
    let e : true ≡ false = sym asked.binds ∙ sym (ap is_bind word) ∙ says.rebases in
    cc

-- a list of one element at most has one
one_table : (ts : List Table) (t u : Table) → length ts ≤ 1 → Contains ts t → Contains ts u → t ≡ u
one_table ts t u short (i, low_i, at_i) (j, low_j, at_j) =
    let same : i ≡ j = omega (arith, short, low_i, low_j) in
    sym at_i ∙ get_or_default ts i t u low_i ∙ ap (λ (k : ℕ). get_or ts k u) same ∙ at_j

one_list : (f : Table → List Import) (ts : List Table) (t : Table) → length ts ≤ 1 → Contains ts t → flat_map f ts ≡ f t
one_list f [] t short (i, low, at) = absurd (omega (arith, low))
one_list f (u ∷ []) t short has =
    flat_map-cons f u [] ∙ append-nil (f u) ∙ ap f (one_table (u ∷ []) u t short (0, omega arith, refl) has)
one_list f (u ∷ v ∷ ts) t short has = absurd (omega (arith, short))

-- the imports of an image are the entries of its table
imports_in : (b : List ℕ) (t : Table) → IsAccepted b → Contains (tables_of b) t
    → imports_of_image b ≡ map (import_at b t) (range_with_len 0 (fixups_header b t).imports_count)
unfolding imports_of_image
imports_in b t accepted has =
    one_list (λ u. map (import_at b u) (range_with_len 0 (fixups_header b u).imports_count)) (tables_of b) t accepted.l8.0 has

entry_of : (b : List ℕ) (imports : List Import) (libraries : List (List ℕ)) (t : Table) (k : ℕ) → IsAccepted b
    → AreImportsOf b imports libraries → Contains (tables_of b) t → k < (fixups_header b t).imports_count
    → (k < length imports) × (get_or imports k no_import ≡ import_at b t k)
entry_of b imports libraries t k accepted are has low =
    let count = (fixups_header b t).imports_count in
    let e = are.imports_are ∙ imports_in b t accepted has in
    let long : length imports ≡ count = ap (λ (xs : List Import). length xs) e ∙ length-map-range_with_len (import_at b t) 0 count in (
      omega (arith, long, low),
      ap (λ (xs : List Import). get_or xs k no_import) e
          ∙ get_or-map-range_with_len (import_at b t) 0 count k k no_import low (omega arith),
    )

-- a word that binds the import of a number leads to the import of these names, if the entry has them and the addends are the same
pub import_leads : (l : Link) (b : List ℕ) (p : Placed) (id : ℕ) (line : FixupLine) (import : ℕ) (sum : ℤ) (addend : ℕ)
    (imports : List Import) (libraries : List (List ℕ)) (library name : List ℕ) → IsLineOf b line → AreImportsOf b imports libraries
    → IsImportNamed l id library name → line.kind ≡ Bind import sum → cast_unsigned w64 sum ≡ addend
    → IsEntry imports libraries import library name → WordLeads l b p line.address (target.Import id) addend
import_leads l b p id line import sum addend imports libraries library name of are named kind same entry =
    let says = says_import b line import sum of kind in
    let t = says.table in
    let at = (entry_of b imports libraries t import of.accepted are says.one says.among).1 in
    let number : (get_or imports import no_import).library ≡ (import_entry b t import).library = ap (λ (i : Import). i.library) at in
    let text : (get_or imports import no_import).name ≡ import_name b t (import_entry b t import) = ap (λ (i : Import). i.name) at in (
      (import_entry b t import).library,
      cast_unsigned w64 sum,
      record {
        on = says.on;
        word = says.word;
        stands = says.stands;
        binds = says.binds;
        table = t;
        one = says.one;
        import = subst (λ k. k < (fixups_header b t).imports_count) says.is says.among;
        library_is = ap (λ k. (import_entry b t k).library) says.is;
        name_is = named.name_is ∙ sym entry.name_is ∙ text ∙ ap (λ k. import_name b t (import_entry b t k)) says.is;
        addend_is = says.addend_is ∙ ap (λ k. ((import_entry b t k).addend + bind_addend says.word) % 2 ^ 64) says.is;
      },
      ap (λ (ls : List (List ℕ)). get_or ls ((import_entry b t import).library - 1) []) (sym are.libraries_are)
          ∙ ap (λ k. get_or libraries (k - 1) []) (sym number) ∙ entry.library_is ∙ sym named.library_is
          ∙ ap (import_library l) (sym named.name_is),
      ap (λ k. k % 2 ^ 64) same,
    )

-- What follows where the word leads there.
pub record HasBoth (imports : List Import) (libraries : List (List ℕ)) (import sum addend : ℕ) (library name : List ℕ) : Type 0 where
  pub entry : IsEntry imports libraries import library name
  pub same : sum ≡ addend

pub leads_import : (l : Link) (b : List ℕ) (p : Placed) (id : ℕ) (line : FixupLine) (import : ℕ) (sum : ℤ) (addend : ℕ)
    (imports : List Import) (libraries : List (List ℕ)) (library name : List ℕ) → IsLineOf b line → AreImportsOf b imports libraries
    → IsImportNamed l id library name → line.kind ≡ Bind import sum → addend < 2 ^ 64
    → WordLeads l b p line.address (target.Import id) addend → HasBoth imports libraries import (cast_unsigned w64 sum) addend library name
leads_import l b p id line import sum addend imports libraries library name of are named kind small leads =
    let says = says_import b line import sum of kind in
    let asked = leads.2 in
    let t = says.table in
    let word = one_word b line.address says.word asked.word of.accepted says.stands asked.stands in
    let table : t ≡ asked.table = one_table (tables_of b) t asked.table of.accepted.l8.0 says.one asked.one in
    let k : import ≡ ordinal_of asked.word = says.is ∙ ap ordinal_of word in
    let found = entry_of b imports libraries t import of.accepted are says.one says.among in
    let number : (get_or imports import no_import).library ≡ leads.0
    = ap (λ (i : Import). i.library) found.1 ∙ ap (λ (u : Table). (import_entry b u import).library) table
    ∙ ap (λ j. (import_entry b asked.table j).library) k ∙ sym asked.library_is in
    let text : (get_or imports import no_import).name ≡ get_or (imports_of l) id []
    = ap (λ (i : Import). i.name) found.1 ∙ ap (λ (u : Table). import_name b u (import_entry b u import)) table
    ∙ ap (λ j. import_name b asked.table (import_entry b asked.table j)) k ∙ sym asked.name_is in
    let total : cast_unsigned w64 sum ≡ leads.1
    = says.addend_is ∙ ap (λ (u : Table). ((import_entry b u import).addend + bind_addend says.word) % 2 ^ 64) table
    ∙ ap (λ j. ((import_entry b asked.table j).addend + bind_addend says.word) % 2 ^ 64) k
    ∙ ap (λ w. ((import_entry b asked.table (ordinal_of asked.word)).addend + bind_addend w) % 2 ^ 64) word ∙ sym asked.addend_is in
    record {
      entry = record {
        among = found.0;
        library_is = ap (λ j. get_or libraries (j - 1) []) number
            ∙ ap (λ (ls : List (List ℕ)). get_or ls (leads.0 - 1) []) are.libraries_are
            ∙ leads.3 ∙ ap (import_library l) named.name_is ∙ named.library_is;
        name_is = text ∙ named.name_is;
      };
      same = total ∙ (let below : leads.1 % 2 ^ 64 ≡ leads.1 = omega (arith, asked.addend_is) in omega (arith, below, leads.4));
    }

-- a signed number that a line has, read as an unsigned one
pub read_unsigned : (b : List ℕ) (line : FixupLine) (import : ℕ) (sum : ℤ) (n : ℕ) → IsLineOf b line → line.kind ≡ Bind import sum
    → n ≡ cast_unsigned w64 (cast_signed w64 (cast_unsigned w64 sum)) → n ≡ cast_unsigned w64 sum
read_unsigned b line import sum n of kind is =
    let says = says_import b line import sum of kind in
    is ∙ of_z-to_z w64 (cast_unsigned w64 sum) (omega (arith, says.addend_is))
