-- An import noted. Its name gets the number that comes next, and no other name's number changes: names that are noted stay
-- where they are, and names that aren't have the length as their number, before and after.
use Rattle.std.proofs.Common.{◌≡◌, ℕ, ◌+◌, ◌<◌, ◌≢◌, inl, inr, Bool, true, false, cond, Some, List, [], ◌∷◌, ◌++◌, length, get_or, set, refl, ap, sym, ◌∙◌, arith, length-append, length-set, eqb, if◌then◌else◌}
use Rattle.std.specs.Str.{bytes_eq}
use Rattle.std.proofs.lemmas.Bool.Decides.{nat_tests}
use Rattle.std.proofs.lemmas.List.{get_or-set_same, get_or-set_other}
use Rattle.std.proofs.lemmas.List.Folds.{position_or_len_push}
use Rattle.std.specs.List.{position_or_len}
use Rattle.macho_stub_lines.proofs.Bind.{bytes_same, bytes_differ}
use Rattle.macho_model.specs.declared.targets.Target.TheVariants as target
use Rattle.macho_model.specs.Resolution.{Library}
use Rattle.macho_model.specs.steps.Resolved.{DSO_HANDLE}
use Rattle.macho_symbol_names.specs.declared.notes.Sort.{Sort}
use Rattle.macho_symbol_names.specs.declared.notes.Sort.TheVariants.{Section, Absolute, Common as CommonSort, Offered, Nowhere}
use Rattle.macho_symbols.specs.declared.solved.Solved.{Solved}
use Rattle.macho_symbols.specs.declared.solved.TheConstants.{UNNUMBERED}
use Rattle.macho_symbol_names.specs.Kept.{FileRows}
use Rattle.macho_symbol_names.specs.Events.{Event, events, best_of}
use Rattle.macho_symbol_names.specs.Tables.{IsEntryOf, IsNowhere, names_of, no_entry}
use Rattle.macho_symbols.specs.Targets.{named_in, lead_in, image_base, definition_by, defined_as}
use Rattle.macho_symbols.specs.steps.Solved.{IsSolved, IsNumbered}
use Rattle.macho_symbols.specs.Kept.{noted_of}
use Rattle.macho_symbols.proofs.Leading.{entry_best, leads_nowhere}
use Rattle.macho_bytes.proofs.Comparing.{same_or_not}

-- the number of a name among the noted ones, with one more
number_more : (noted : List (List ℕ)) (name other : List ℕ) (n : ℕ) → position_or_len (bytes_eq other) noted ≡ n → n < length noted
    → position_or_len (bytes_eq other) (noted ++ name ∷ []) ≡ n
number_more noted name other n is there =
    position_or_len_push (bytes_eq other) noted name
    ∙ ap (λ k. cond (eqb k (length noted)) (length noted + cond (bytes_eq other name) 0 1) k) is ∙ by (eqb n (length noted)) refl
  where
    by : (t : Bool) → eqb n (length noted) ≡ t → cond t (length noted + cond (bytes_eq other name) 0 1) n ≡ n
    by true e = let same : n ≡ length noted = grind (arith, nat_tests) in absurd (omega (arith, same, there))
    by false e = refl

number_new : (noted : List (List ℕ)) (name other : List ℕ) (t : Bool) → position_or_len (bytes_eq other) noted ≡ length noted
    → bytes_eq other name ≡ t
    → position_or_len (bytes_eq other) (noted ++ name ∷ []) ≡ length noted + cond t 0 1
number_new noted name other t is same =
    position_or_len_push (bytes_eq other) noted name
    ∙ ap (λ k. cond (eqb k (length noted)) (length noted + cond (bytes_eq other name) 0 1) k) is
    ∙ ap (λ u. cond u (length noted + cond (bytes_eq other name) 0 1) (length noted)) itself ∙ ap (λ u. length noted + cond u 0 1) same
  where
    itself : eqb (length noted) (length noted) ≡ true
    itself = grind (arith, nat_tests)

-- numbers of other names stay, and the new one has its own
numbered_other : (noted : List (List ℕ)) (name other : List ℕ) (n : ℕ) → IsNumbered noted other n → (other ≡ name → ⊥)
    → IsNumbered (noted ++ name ∷ []) other n
numbered_other noted name other n is apart = record {
  fresh = λ e. number_new noted name other false (is.fresh e) (bytes_differ other name apart) ∙ sym (length-append noted (name ∷ []));
  old = λ e. sym (number_more noted name other n (sym (is.old e)) (is.there e));
  there = λ e. omega (arith, is.there e, length-append noted (name ∷ []));
}

numbered_new : (noted : List (List ℕ)) (name : List ℕ) (n : ℕ) → position_or_len (bytes_eq name) noted ≡ length noted → n ≡ length noted
    → length noted < UNNUMBERED
    → IsNumbered (noted ++ name ∷ []) name n
numbered_new noted name n fresh is few = record {
  fresh = λ e. absurd (omega (arith, e, is, few));
  old = λ e. is ∙ sym (number_new noted name name true fresh (bytes_same name name refl) ∙ omega arith);
  there = λ e. omega (arith, is, length-append noted (name ∷ []));
}

-- all numbers, with one set
pub numbers_more : (names : List (List ℕ)) (noted : List (List ℕ)) (numbers : List ℕ) (name : List ℕ) (number n : ℕ)
    → ((j : ℕ) → j < length numbers → IsNumbered noted (get_or names j []) (get_or numbers j 0)) → length numbers ≡ length names
    → number < length names → get_or names number [] ≡ name
    → ((j : ℕ) → j < length names → j ≢ number → get_or names j [] ≡ get_or names number [] → ⊥)
    → position_or_len (bytes_eq name) noted ≡ length noted → n ≡ length noted → length noted < UNNUMBERED
    → (j : ℕ) → j < length (set numbers number n) → IsNumbered (noted ++ name ∷ []) (get_or names j []) (get_or (set numbers number n) j 0)
numbers_more names noted numbers name number n all long within is apart fresh next few j h = elim (same_or_not j number) [
  | inl same ↦
      rw (
        ap (λ k. get_or names k []) same ∙ is,
        ap (λ k. get_or (set numbers number n) k 0) same
            ∙ get_or-set_same numbers number n 0 (omega (arith, within, long)),
      )
      (numbered_new noted name n fresh next few)
  | inr other ↦
      rw (get_or-set_other numbers number j n 0 other)
      (numbered_other noted name (get_or names j []) (get_or numbers j 0) (all j (omega (arith, h, length-set numbers number n)))
      (λ e. apart j (omega (arith, h, length-set numbers number n, long)) other (e ∙ sym is)))
]

-- a name that leads to an import is offered by a library
offered_sort : (files : List FileRows) (noted : List (List ℕ)) (name : List ℕ) (e : Event) (sort : Sort) (n : ℕ)
    → lead_in files noted name e sort ≡ target.Import n
    → (defined_as name sort e ≡ Some (Library e.file)) × (position_or_len (bytes_eq name) noted ≡ n)
offered_sort files noted name e Section n is = cc
offered_sort files noted name e Absolute n is = cc
offered_sort files noted name e CommonSort n is = cc
offered_sort files noted name e Offered n is = (refl, cc)
offered_sort files noted name e Nowhere n is = of (bytes_eq name DSO_HANDLE) is
  where
    of : (t : Bool) → (if t then target.Base else target.None) ≡ target.Import n → (image_base name ≡ Some (Library e.file))
        × (position_or_len (bytes_eq name) noted ≡ n)
    of true is = cc
    of false is = cc

pub import_offered : (s : Solved) (name : List ℕ) (j n : ℕ) → IsSolved s → IsEntryOf s.files.items s.table.entries.items name j
    → named_in s.files.items (noted_of s.imports.items) name ≡ target.Import n
    → (definition_by name (best_of name (events s.files.items)) ≡ Some (Library (get_or s.table.entries.items j no_entry).file))
    × (position_or_len (bytes_eq name) (noted_of s.imports.items) ≡ n)
unfolding named_in
import_offered s name j n is of_name import =
    let best = entry_best s name j is of_name in
    let lead = rw best at import in
    let offered = offered_sort s.files.items (noted_of s.imports.items) name _ _ n lead in
    (ap (definition_by name) best ∙ offered.0, offered.1)

pub import_known : (s : Solved) (name : List ℕ) (n : ℕ) → IsSolved s → IsNowhere name (names_of s.files.items s.table.entries.items)
    → named_in s.files.items (noted_of s.imports.items) name ≡ target.Import n → ⊥
import_known s name n is nowhere import = of (bytes_eq name DSO_HANDLE) (sym (leads_nowhere s name is nowhere) ∙ import)
  where
    of : (t : Bool) → (if t then target.Base else target.None) ≡ target.Import n → ⊥
    of true e = cc
    of false e = cc
