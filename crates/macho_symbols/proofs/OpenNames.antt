-- Which names may be exported, by the table: a name's best row is that of its entry, so its sort decides. A name has the
-- number of an import exactly where it is noted.
use Rattle.std.proofs.Common.{◌≡◌, ℕ, ◌&&◌, ◌==◌, not, Bool, true, false, Option, Some, is_some, List, get_or, refl, ap, sym, ◌∙◌, arith, eq-eqb}
use Rattle.std.proofs.lemmas.Bool.{not-true, not-false, eqb-true, eqb-false, ne_eqb, and_left}
use Rattle.std.specs.List.{list_any}
use Rattle.std.specs.Str.{bytes_eq}
use Rattle.macho_export_lists.specs.Entries.{ListEntries}
use Rattle.macho_symbol_names.specs.declared.notes.Sort.{Sort}
use Rattle.macho_symbol_names.specs.declared.notes.Sort.TheVariants.{Section, Absolute, Common, Offered, Nowhere}
use Rattle.macho_symbols.specs.declared.solved.Solved.{Solved}
use Rattle.macho_symbols.specs.declared.solved.TheConstants.{UNNUMBERED}
use Rattle.macho_symbol_names.specs.declared.table.Entry.{Entry}
use Rattle.macho_symbol_names.specs.Events.{Event, row_at, event_at}
use Rattle.macho_symbols.specs.steps.Exporting.{open_by, open_of, is_open_in, is_exported_in, is_listed_in, weak_of, weak_in}
use Rattle.macho_symbols.specs.steps.Solved.{IsSolved, IsNumbered}
use Rattle.macho_symbols.specs.Kept.{noted_of}
use Rattle.macho_symbol_names.specs.Tables.{IsEntryOf, IsNowhere, names_of, no_entry}
use Rattle.macho_symbols.specs.steps.Targets.{is_of_object}
use Rattle.macho_symbol_names.specs.Kept.{FileRows}
use Rattle.macho_symbols.proofs.Leading.{entry_best}
use Rattle.macho_symbols.proofs.UsesHere.{next_number}

-- a noted name has a number
pub numbered_is : (noted : List (List ℕ)) (name : List ℕ) (n : ℕ) → IsNumbered noted name n
    → not (n == UNNUMBERED) ≡ list_any (bytes_eq name) noted
numbered_is noted name n is = of (n == UNNUMBERED) refl
  where
    of : (t : Bool) → (n == UNNUMBERED) ≡ t → not (n == UNNUMBERED) ≡ list_any (bytes_eq name) noted
    of true none =
        let new : not (list_any (bytes_eq name) noted) ≡ true =
        sym (next_number (bytes_eq name) noted) ∙ eq-eqb _ _ (is.fresh (eqb-true n UNNUMBERED none)) in
        ap not none ∙ sym (not-true (list_any (bytes_eq name) noted) new)
    of false some =
        let number = λ (e : n ≡ UNNUMBERED). eqb-false n UNNUMBERED some e in
        let old : not (list_any (bytes_eq name) noted) ≡ false =
        sym (next_number (bytes_eq name) noted) ∙ ne_eqb _ _ (λ e. absurd (omega (arith, e, is.old number, is.there number))) in
        ap not some ∙ sym (not-false (list_any (bytes_eq name) noted) old)

-- what lets a name be exported, by its entry
pub open_is : (s : Solved) (lists : Bool) (name : List ℕ) (j : ℕ) (e : Entry) (sort : Sort) → IsSolved s
    → IsEntryOf s.files.items s.table.entries.items name j
    → e ≡ get_or s.table.entries.items j no_entry → sort ≡ (row_at s.files.items e.file e.row).sort
    → is_open_in s.files.items (noted_of s.imports.items) lists name ≡ open_by (noted_of s.imports.items) lists name
    (event_at s.files.items e.file e.row) sort
unfolding is_open_in
open_is s lists name j e sort is of_name entry same =
    ap (open_of (noted_of s.imports.items) lists name)
    (entry_best s name j is of_name ∙ ap (λ x. Some (event_at s.files.items x.file x.row)) (sym entry))
    ∙ ap (open_by (noted_of s.imports.items) lists name (event_at s.files.items e.file e.row)) (sym same)

pub open_shown : (noted : List (List ℕ)) (lists : Bool) (name : List ℕ) (e : Event) (sort : Sort) → (sort ≡ Offered → ⊥)
    → (sort ≡ Nowhere → ⊥)
    → open_by noted lists name e sort ≡ not e.row.hidden
open_shown noted lists name e Section offered nowhere = refl
open_shown noted lists name e Absolute offered nowhere = refl
open_shown noted lists name e Common offered nowhere = refl
open_shown noted lists name e Offered offered nowhere = absurd (offered refl)
open_shown noted lists name e Nowhere offered nowhere = absurd (nowhere refl)

-- whether its definition is weak
pub weak_is : (s : Solved) (name : List ℕ) (j : ℕ) (e : Entry) (sort : Sort) (weak : Bool) → IsSolved s
    → IsEntryOf s.files.items s.table.entries.items name j
    → e ≡ get_or s.table.entries.items j no_entry → sort ≡ (row_at s.files.items e.file e.row).sort
    → weak ≡ (row_at s.files.items e.file e.row).weak
    → (is_of_object sort && weak) ≡ weak_in s.files.items name
unfolding weak_in
weak_is s name j e sort weak is of_name entry same both =
    ap (λ x. is_of_object x && weak) same ∙ ap (λ t. is_of_object (row_at s.files.items e.file e.row).sort && t) both
    ∙ sym (ap weak_of (entry_best s name j is of_name ∙ ap (λ x. Some (event_at s.files.items x.file x.row)) (sym entry)))

-- whether it is exported
pub exported_then : (files : List FileRows) (noted : List (List ℕ)) (list : Option ListEntries) (name : List ℕ) (some shown : Bool)
    → some ≡ is_some list
    → shown ≡ is_open_in files noted some name → shown ≡ true → is_listed_in list name ≡ is_exported_in files noted list name
unfolding is_exported_in
exported_then files noted list name some shown lists is yes_open =
    ap (λ t. t && is_listed_in list name) (sym yes_open ∙ is ∙ ap (λ t. is_open_in files noted t name) lists)

pub exported_else : (files : List FileRows) (noted : List (List ℕ)) (list : Option ListEntries) (name : List ℕ) (some shown : Bool)
    → some ≡ is_some list
    → shown ≡ is_open_in files noted some name → shown ≡ false → shown ≡ is_exported_in files noted list name
unfolding is_exported_in
exported_else files noted list name some shown lists is not_open =
    not_open ∙ sym (and_left _ _ (ap (λ t. is_open_in files noted t name) (sym lists) ∙ sym is ∙ not_open))

-- what has no entry isn't exported
pub nowhere_closed : (s : Solved) (list : Option ListEntries) (name : List ℕ) → IsSolved s
    → IsNowhere name (names_of s.files.items s.table.entries.items)
    → is_exported_in s.files.items (noted_of s.imports.items) list name ≡ false
unfolding is_exported_in is_open_in
nowhere_closed s list name is nowhere =
    and_left _ _ (ap (open_of (noted_of s.imports.items) (is_some list) name) (is.known.knows.rest name nowhere))
