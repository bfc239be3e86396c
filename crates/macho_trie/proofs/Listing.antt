-- Rising lists of children.
--
-- A child that is added stands behind all that are listed, so the list rises.
use Rattle.std.proofs.Common.{◌≡◌, ℕ, ◌+◌, ◌<◌, ◌≤◌, List, [], ◌∷◌, ◌++◌, length, ap, arith, length-append}
use Rattle.std.specs.List.{All}
use Rattle.std.proofs.lemmas.List.Elements.{All-push}
use Rattle.std.proofs.lemmas.List.Quantifiers.{all_pairs_push}
use Rattle.macho_trie.specs.steps.Layouts.{AreListed}

pub below_more : (k : ℕ) (xs : List ℕ) → All (λ i. i < k) xs → All (λ i. i < k + 1) xs
below_more k xs h = λ i d within. omega (arith, h i d within)

pub below_push : (k : ℕ) (xs : List ℕ) → All (λ i. i < k) xs → All (λ i. i < k + 1) (xs ++ k ∷ [])
below_push k xs h = All-push (λ i. i < k + 1) xs k (below_more k xs h) (omega arith)

pub listed_push : (count k : ℕ) (xs : List ℕ) → AreListed count xs → All (λ i. i < k) xs → 1 ≤ k → k < count
    → AreListed count (xs ++ k ∷ [])
listed_push count k xs listed front low high = record {
  child = All-push (λ i. (1 ≤ i) × (i < count)) xs k listed.child (low, high);
  rising = all_pairs_push (λ i j. i < j) xs k listed.rising front;
}

pub pushed_some : (xs : List ℕ) (x : ℕ) → xs ++ x ∷ [] ≡ [] → ⊥
pushed_some xs x e = absurd (omega (arith, length-append xs (x ∷ []), ap (λ (ys : List ℕ). length ys) e))
