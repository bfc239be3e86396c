-- The starts of placed cells by their numbers, one cell more.
--
-- Where no two cells have one number, the cells before the new one have others: a write at the number of the new one leaves
-- theirs. The new one has what was written.
use Rattle.std.proofs.Common.{◌≡◌, ℕ, ◌+◌, ◌<◌, List, [], ◌∷◌, ◌++◌, length, take, get_or, set, AllPairs, All, Contains, inl, inr, refl, sym, ap, ◌∙◌, subst, arith}
use Rattle.std.proofs.lemmas.List.{get_or-set_same, get_or-set_other, length-set, take_more, length_push, get_or_append_left, get_or_push}
use Rattle.std.proofs.lemmas.List.Elements.{Contains-push_cases}
use Rattle.macho_stack.specs.declared.place.PlacedCell.{PlacedCell}
use Rattle.macho_stack.specs.Ranks.{HasStarts}

abbrev Distinct : List PlacedCell → Type 0
Distinct placed = AllPairs (λ a b. a.cell.number ≡ b.cell.number → ⊥) placed

-- pairs of a list with one element more: those before, and each with the last
pairs_before : (xs : List PlacedCell) (x : PlacedCell) → Distinct (xs ++ x ∷ []) → Distinct xs
pairs_before xs x h i j d before within =
    let a = get_or_append_left xs (x ∷ []) d i (omega arith) in
    let b = get_or_append_left xs (x ∷ []) d j within in
    λ same. h i j d before (omega (arith, length_push xs x)) (ap (λ (q : PlacedCell). q.cell.number) a ∙ same ∙ ap
    (λ (q : PlacedCell). q.cell.number) (sym b))

pairs_last : (xs : List PlacedCell) (x q : PlacedCell) → Distinct (xs ++ x ∷ []) → Contains xs q → q.cell.number ≡ x.cell.number → ⊥
pairs_last xs x q h (k, low, is) same =
    let a = get_or_append_left xs (x ∷ []) q k low in
    let b = get_or_push xs x q (length xs) refl in
    h k (length xs) q low (omega (arith, length_push xs x)) (ap (λ (p : PlacedCell). p.cell.number) (a ∙ is) ∙ same ∙ ap
    (λ (p : PlacedCell). p.cell.number) (sym b))

all_before : (xs : List PlacedCell) (x : PlacedCell) (n : ℕ) → All (λ (q : PlacedCell). q.cell.number ≡ n → ⊥) (xs ++ x ∷ []) → All
    (λ (q : PlacedCell). q.cell.number ≡ n → ⊥) xs
all_before xs x n none k d low = subst (λ (q : PlacedCell). q.cell.number ≡ n → ⊥) (get_or_append_left xs (x ∷ []) d k low)
    (none k d (omega (arith, length_push xs x)))

one_more : (count : ℕ) (xs : List PlacedCell) (x : PlacedCell) (starts : List ℕ) → x.cell.number < count → HasStarts count xs starts
    → HasStarts count (xs ++ x ∷ []) (set starts x.cell.number x.start)
one_more count xs x starts low h = record {
  many = length-set starts x.cell.number x.start ∙ h.many;
  each = λ apart q there. elim (Contains-push_cases xs x q there) [
    | inl before ↦
        get_or-set_other starts x.cell.number q.cell.number x.start 0 (pairs_last xs x q apart before) ∙ h.each
        (pairs_before xs x apart) q before
    | inr last ↦
        subst (λ (p : PlacedCell). get_or (set starts x.cell.number x.start) p.cell.number 0 ≡ p.start) last
        (get_or-set_same starts x.cell.number x.start 0 (omega (arith, h.many)))
  ];
  rest = λ n none.
      let last = none (length xs) x (omega (arith, length_push xs x)) in
      let other : x.cell.number ≡ n → ⊥ = subst (λ (q : PlacedCell). q.cell.number ≡ n → ⊥) (get_or_push xs x x (length xs) refl) last in
      get_or-set_other starts x.cell.number n x.start 0 (λ e. other (sym e)) ∙ h.rest n (all_before xs x n none);
}

pub starts_more : (count : ℕ) (placed : List PlacedCell) (starts : List ℕ) (i : ℕ) (d : PlacedCell) → i < length placed
    → All (λ q. q.cell.number < count) placed → HasStarts count (take i placed) starts
    → HasStarts count (take (i + 1) placed) (set starts (get_or placed i d).cell.number (get_or placed i d).start)
starts_more count placed starts i d low below h =
    subst (λ (qs : List PlacedCell). HasStarts count qs (set starts (get_or placed i d).cell.number (get_or placed i d).start))
    (sym (take_more placed i d low))
    (one_more count (take i placed) (get_or placed i d) starts (below i d low) h)
