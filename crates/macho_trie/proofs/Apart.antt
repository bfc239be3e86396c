-- Edges that may stand together, in any order.
--
-- Whether the first bytes of labels differ pairwise doesn't depend on the order of the edges, and bytes that rise differ.
use Rattle.std.proofs.Common.{◌≡◌, ◌≢◌, ℕ, ◌<◌, ◌==◌, List, [], ◌∷◌, length, map, slice_index, sym, subst, ◌∙◌, arith, Bool, true, false}
use Rattle.std.specs.Bool.{OnFalse}
use Rattle.std.specs.List.{AllPairs}
use Rattle.std.specs.List.Sorted.{IsPermutation}
use Rattle.std.proofs.lemmas.Bool.Decides.{nat_tests, Decides-eqb}
use Rattle.std.proofs.lemmas.List.{get_or-map, length-map}
use Rattle.std.proofs.lemmas.List.Sorted.{IsPermutation-map, IsPermutation-sym, All-permutation}
use Rattle.std.proofs.lemmas.Map.Keys.{IsDistinct-IsPermutation}
use Rattle.std.proofs.lemmas.Map.Made.{AllPairs-from_IsDistinct, IsDistinct-from_AllPairs}
use Rattle.macho_trie.specs.Nodes.{Edge}
use Rattle.macho_trie.specs.Walks.{AreApart}
use Rattle.macho_trie.specs.steps.Walking.{DoRise}

-- the first byte of a label
abbrev pub first_of_label : Edge → ℕ
first_of_label e = slice_index e.label 0

to_bytes : (es : List Edge) → AllPairs (λ e f. first_of_label e ≢ first_of_label f) es → AllPairs (λ x y. x ≢ y) (map first_of_label es)
to_bytes [] a i j d before within same = omega arith
to_bytes (x ∷ es) a i j d before within same =
    let long = length-map (x ∷ es) first_of_label in
    a i j x before (omega (arith, long))
    (sym (get_or-map first_of_label (x ∷ es) i x d (omega (arith, long))) ∙ same
    ∙ get_or-map first_of_label (x ∷ es) j x d (omega (arith, long)))

from_bytes : (es : List Edge) → AllPairs (λ x y. x ≢ y) (map first_of_label es) → AllPairs (λ e f. first_of_label e ≢ first_of_label f) es
from_bytes es a i j d before within same =
    a i j 0 before (omega (arith, length-map es first_of_label))
    (get_or-map first_of_label es i d 0 (omega arith) ∙ same ∙ sym (get_or-map first_of_label es j d 0 within))

pub apart_moved : (es fs : List Edge) → IsPermutation es fs → AreApart es → AreApart fs
apart_moved es fs moved a = record {
  some = All-permutation (λ (e : Edge). 0 < length e.label) es fs moved a.some;
  apart =
      from_bytes fs (AllPairs-from_IsDistinct Decides-eqb (map first_of_label fs)
      (IsDistinct-IsPermutation (λ x y. x == y) flips (map first_of_label es) (map first_of_label fs)
      (IsPermutation-map first_of_label es fs moved)
      (IsDistinct-from_AllPairs Decides-eqb (map first_of_label es) (to_bytes es a.apart))));
}
  where
    flips : (x y : ℕ) → (x == y) ≡ (y == x)
    flips x y = grind (arith, nat_tests)

pub apart_rising : (es fs : List Edge) → IsPermutation es fs → DoRise fs → AreApart es
apart_rising es fs moved r =
    apart_moved fs es (IsPermutation-sym es fs moved)
    (record { some = r.some; apart = λ i j d before within same. omega (arith, r.rise i j d before within) })

-- edges that may not stand together in one order don't in another
pub joined_before : (b : Bool) (es fs gs : List Edge) → IsPermutation es fs → gs ≡ fs → OnFalse b (AreApart gs → ⊥)
    → OnFalse b (AreApart es → ⊥)
joined_before true es fs gs moved same h = tt
joined_before false es fs gs moved same h = λ a.
    let A : List Edge → Type 0 = λ l. AreApart l in
    h (subst A (sym same) (apart_moved es fs moved a))
