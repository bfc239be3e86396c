-- Numbering personality functions: ids are put in their place one by one.
--
-- Behind the lesser ids stands the id itself, or it is put there; so ids stay those of the entries so far, in order.
use Rattle.std.proofs.Common.{◌≡◌, ℕ, zero, suc, ◌+◌, ◌<◌, ◌≤◌, nat_lt, Option, None, Some, List, [], ◌∷◌, ◌++◌, length, take, drop, get_or, slice_index, refl, sym, ap, ◌∙◌, arith}
use Rattle.std.proofs.lemmas.List.{take-append-drop, take_more, append-nil}
use Rattle.std.proofs.lemmas.Bool.{eq-eqb, ne_eqb, lt-ltb, le-ltb}
use Rattle.macho_unwind_pages.specs.declared.entries.UnwindInput.{UnwindInput}
use Rattle.macho_unwind_pages.specs.Orders.{put_in_order, in_order}
use Rattle.macho_unwind_pages.specs.Entries.{ids_of}
use Rattle.macho_unwind_pages.specs.steps.Entries.{named_by, named_ids}
use Rattle.macho_unwind_pages.proofs.Orders.{nat_lt-strict, in_order-more, length-in_order}

-- an id that isn't there
pub put-new : (k : ℕ) (ys : List ℕ) (id : ℕ) → k ≤ length ys → ((j : ℕ) → j < k → slice_index ys j < id)
    → (k < length ys → id < slice_index ys k) → take k ys ++ id ∷ drop k ys ≡ put_in_order nat_lt id ys
unfolding put_in_order
put-new zero [] id within lesser next = refl
put-new zero (y ∷ ys) id within lesser next =
    let less : id < y = next (omega arith) in
    rw (ne_eqb id y (λ e. absurd (omega arith)), lt-ltb id y less) refl
put-new (suc k) [] id within lesser next = absurd (omega arith)
put-new (suc k) (y ∷ ys) id within lesser next =
    let less : y < id = lesser 0 (omega arith) in
    rw (ne_eqb id y (λ e. absurd (omega arith)), le-ltb id y (omega arith))
    (ap (λ l. y ∷ l) (put-new k ys id (omega arith) (λ j h. lesser (suc j) (omega arith)) (λ h. next (omega arith))))

-- an id that is there
pub put-there : (k : ℕ) (ys : List ℕ) (id : ℕ) → k < length ys → ((j : ℕ) → j < k → slice_index ys j < id)
    → slice_index ys k ≡ id → ys ≡ put_in_order nat_lt id ys
unfolding put_in_order
put-there k [] id within lesser here = absurd (omega arith)
put-there zero (y ∷ ys) id within lesser here = rw (eq-eqb id y (sym here)) refl
put-there (suc k) (y ∷ ys) id within lesser here =
    let less : y < id = lesser 0 (omega arith) in
    rw (ne_eqb id y (λ e. absurd (omega arith)), le-ltb id y (omega arith))
    (ap (λ l. y ∷ l) (put-there k ys id (omega arith) (λ j h. lesser (suc j) (omega arith)) here))

-- the ids that entries name
pub ids_of-none : ids_of [] ≡ []
unfolding named_ids in_order
ids_of-none = refl

named_ids-append : (xs ys : List UnwindInput) → named_ids (xs ++ ys) ≡ named_ids xs ++ named_ids ys
unfolding named_ids
named_ids-append [] ys = refl
named_ids-append (x ∷ xs) ys =
    ap (named_by x.personality) (named_ids-append xs ys)
    ∙ named_by-append x.personality (named_ids xs) (named_ids ys)
  where
    named_by-append : (p : Option ℕ) (is js : List ℕ) → named_by p (is ++ js) ≡ named_by p is ++ js
    named_by-append None is js = refl
    named_by-append (Some id) is js = refl

named_more : (entries : List UnwindInput) (i : ℕ) (d : UnwindInput) → i < length entries
    → named_ids (take (i + 1) entries) ≡ named_ids (take i entries) ++ named_by (get_or entries i d).personality []
unfolding named_ids
named_more entries i d within =
    ap named_ids (take_more entries i d within) ∙ named_ids-append (take i entries) (get_or entries i d ∷ [])

-- one entry more
pub ids_of-more : (entries : List UnwindInput) (i : ℕ) (d : UnwindInput) (id : ℕ) → i < length entries
    → (get_or entries i d).personality ≡ Some id
    → ids_of (take (i + 1) entries) ≡ put_in_order nat_lt id (ids_of (take i entries))
ids_of-more entries i d id within is =
    ap (in_order nat_lt) (named_more entries i d within ∙ ap (λ p. named_ids (take i entries) ++ named_by p []) is)
    ∙ in_order-more nat_lt (named_ids (take i entries)) id nat_lt-strict

-- an entry without an id leaves the ids as they are
pub ids_of-passed : (entries : List UnwindInput) (i : ℕ) (d : UnwindInput) → i < length entries → (get_or entries i d).personality ≡ None
    → ids_of (take (i + 1) entries) ≡ ids_of (take i entries)
ids_of-passed entries i d within is =
    ap (in_order nat_lt)
    (named_more entries i d within ∙ ap (λ p. named_ids (take i entries) ++ named_by p []) is ∙ append-nil (named_ids (take i entries)))

-- the first entries have no more ids than all
pub length-ids_of : (entries : List UnwindInput) (i : ℕ) → length (ids_of (take i entries)) ≤ length (ids_of entries)
length-ids_of entries i =
    let parts : named_ids entries ≡ named_ids (take i entries) ++ named_ids (drop i entries)
    = ap named_ids (sym (take-append-drop i entries)) ∙ named_ids-append (take i entries) (drop i entries) in
    omega (
      arith,
      length-in_order nat_lt (named_ids (take i entries)) (named_ids (drop i entries)) nat_lt-strict,
      ap (λ l. length (in_order nat_lt l)) parts,
    )

-- an id is put among those so far
pub put_more : (entries : List UnwindInput) (was now : List ℕ) (i : ℕ) (d : UnwindInput) (id : ℕ) → i < length entries
    → (get_or entries i d).personality ≡ Some id → was ≡ ids_of (take i entries) → now ≡ put_in_order nat_lt id was
    → now ≡ ids_of (take (i + 1) entries)
put_more entries was now i d id within is before after =
    after ∙ ap (put_in_order nat_lt id) before ∙ sym (ids_of-more entries i d id within is)

-- a fourth id
pub too_many : (entries : List UnwindInput) (was now : List ℕ) (i : ℕ) (d : UnwindInput) (id : ℕ) → i < length entries
    → (get_or entries i d).personality ≡ Some id → was ≡ ids_of (take i entries) → now ≡ put_in_order nat_lt id was
    → 3 < length now → 3 < length (ids_of entries)
too_many entries was now i d id within is before after many =
    omega (arith, ap length (put_more entries was now i d id within is before after), length-ids_of entries (i + 1))
