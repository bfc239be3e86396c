-- The least widths.
--
-- Wider edges make no node smaller, so no place is less. If widths are at most any that are wide enough, each place under
-- them is at most that under those, so what it needs is at most what they give. So widths that are raised to what the
-- present places need stay at most any that are wide enough. They also stay at most what the present places need, since
-- places only grow. When no edge is too narrow, each width is what its place needs.
use Rattle.std.proofs.Common.{◌≡◌, ◌⊎◌, ℕ, zero, suc, ◌+◌, ◌*◌, ◌<◌, ◌≤◌, List, [], ◌∷◌, ◌++◌, length, take, sum, map, slice_index, replicate, Option, sym, ap, ◌∙◌, arith, inl, inr}
use Rattle.std.specs.List.{range_with_len}
use Rattle.std.proofs.lemmas.List.FromFn.{get_or-map-range_with_len, length-map-range_with_len}
use Rattle.macho_bytes.specs.Uleb.{uleb_of}
use Rattle.macho_bytes.proofs.Ulebs.{length-uleb_of, uleb_of-grows}
use Rattle.macho_trie.specs.Trees.{Edges, no_edge, edge, node_count}
use Rattle.macho_trie.specs.Encoding.{edges_size, node_sizes, place_of, total_of, AreWide, AreLeast}
use Rattle.macho_trie.proofs.Sizes.{length-node_sizes}
use Rattle.macho_trie.specs.steps.Layouts.{needed, AreLow}
use Rattle.macho_bytes.proofs.Maps.{sum-cons}

-- each number of a list is at most that of another one
abbrev pub AreAtMost : List ℕ → List ℕ → Type 0
AreAtMost [] ys = Unit {0}
AreAtMost (x ∷ xs) [] = ⊥
AreAtMost (x ∷ xs) (y ∷ ys) = (x ≤ y) × AreAtMost xs ys

at_most-append : (xs ys us vs : List ℕ) → length xs ≡ length ys → AreAtMost xs ys → AreAtMost us vs → AreAtMost (xs ++ us) (ys ++ vs)
at_most-append [] [] us vs same a b = b
at_most-append [] (y ∷ ys) us vs same a b = absurd (omega arith)
at_most-append (x ∷ xs) [] us vs same a b = absurd a
at_most-append (x ∷ xs) (y ∷ ys) us vs same a b = (a.0, at_most-append xs ys us vs (omega arith) a.1 b)

sum_take-at_most : (k : ℕ) (xs ys : List ℕ) → AreAtMost xs ys → sum (take k xs) ≤ sum (take k ys)
sum_take-at_most zero xs ys a = omega arith
sum_take-at_most (suc k) [] ys a = omega arith
sum_take-at_most (suc k) (x ∷ xs) [] a = absurd a
sum_take-at_most (suc k) (x ∷ xs) (y ∷ ys) a = omega (
  arith,
  a.0,
  sum_take-at_most k xs ys a.1,
  sum-cons x (take k xs),
  sum-cons y
      (take k ys),
)

pub sum-at_most : (xs ys : List ℕ) → AreAtMost xs ys → sum xs ≤ sum ys
sum-at_most [] ys a = omega arith
sum-at_most (x ∷ xs) [] a = absurd a
sum-at_most (x ∷ xs) (y ∷ ys) a = omega (arith, a.0, sum-at_most xs ys a.1, sum-cons x xs, sum-cons y ys)

-- wider edges make no node smaller
edges_size-grows : (w v : ℕ → ℕ) (i : ℕ) (es : Edges) → ((j : ℕ) → i ≤ j → j < i + node_count es → w j ≤ v j)
    → edges_size w i es ≤ edges_size v i es
edges_size-grows w v i no_edge h = omega arith
edges_size-grows w v i (edge label symbol below rest) h =
    omega (
      arith,
      h i (omega arith) (omega arith),
      edges_size-grows w v (i + (node_count below + 1)) rest (λ j a b. h j (omega arith)
          (omega arith)),
    )

pub node_sizes-grow : (size more : Option ℕ → ℕ) (w v : ℕ → ℕ) (i : ℕ) (es : Edges) → ((m : Option ℕ) → size m ≤ more m)
    → ((j : ℕ) → i + 1 ≤ j → j < i + node_count es → w j ≤ v j) → AreAtMost (node_sizes size w i es) (node_sizes more v i es)
node_sizes-grow size more w v i no_edge s h = tt
node_sizes-grow size more w v i (edge label symbol below rest) s h = (
  omega (arith, s symbol, edges_size-grows w v (i + 1) below (λ j a b. h j (omega arith) (omega arith))),
  at_most-append (node_sizes size w (i + 1) below) (node_sizes more v (i + 1) below) (node_sizes size w (i + (node_count below + 1)) rest)
      (node_sizes more v (i + (node_count below + 1)) rest) (length-node_sizes size w (i + 1) below ∙ sym
      (length-node_sizes more v (i + 1) below))
      (node_sizes-grow size more w v (i + 1) below s (λ j a b. h j (omega arith) (omega arith)))
      (node_sizes-grow size more w v (i + (node_count below + 1)) rest s (λ j a b. h j (omega arith) (omega arith))),
)

pub place-grows : (size more : Option ℕ → ℕ) (w v : ℕ → ℕ) (tree : Edges) (k : ℕ) → ((m : Option ℕ) → size m ≤ more m)
    → ((j : ℕ) → 1 ≤ j → j < node_count tree → w j ≤ v j) → place_of size w tree k ≤ place_of more v tree k
unfolding place_of
place-grows size more w v tree k s h =
    sum_take-at_most k (node_sizes size w 0 tree) (node_sizes more v 0 tree) (node_sizes-grow size more w v 0 tree s (λ j a b. h j
    (omega arith) (omega arith)))

pub total-grows : (size more : Option ℕ → ℕ) (w v : ℕ → ℕ) (tree : Edges) → ((m : Option ℕ) → size m ≤ more m)
    → ((j : ℕ) → 1 ≤ j → j < node_count tree → w j ≤ v j) → total_of size w tree ≤ total_of more v tree
unfolding total_of
total-grows size more w v tree s h =
    sum-at_most (node_sizes size w 0 tree) (node_sizes more v 0 tree) (node_sizes-grow size more w v 0 tree s (λ j a b. h j (omega
    arith) (omega arith)))

ones : (n k : ℕ) → slice_index (replicate n 1) k ≤ 1
ones zero k = omega arith
ones (suc n) zero = omega arith
ones (suc n) (suc k) = ones n k

pub low_first : (size : Option ℕ → ℕ) (tree : Edges) (n : ℕ) → AreLow size tree (replicate n 1)
low_first size tree n = record {
  few = λ k. omega (arith, ones n k);
  low = λ k some within. omega (arith, ones n k, (length-uleb_of (place_of size (slice_index (replicate n 1)) tree k)).0);
  least = λ other wide k some within. omega (arith, ones n k, (length-uleb_of (place_of size other tree k)).0, wide k some within);
}

-- One width is raised to what its child's place needs under the present widths.
pub low_raised : (size : Option ℕ → ℕ) (tree : Edges) (was now : List ℕ) (c : ℕ) → AreLow size tree was
    → ((k : ℕ) → (slice_index now k ≡ slice_index was k)
    ⊎ ((slice_index was k ≤ slice_index now k) × (k ≡ c) × (slice_index now k ≡ length (uleb_of (place_of size (slice_index was) tree c)))))
    → AreLow size tree now
low_raised size tree was now c l w = record { few = few; low = low; least = least }
  where
    few : (k : ℕ) → slice_index now k ≤ 10
    few k = elim (w k) [
      | inl same ↦ omega (arith, l.few k)
      | inr wider ↦ omega (arith, wider.2, (length-uleb_of (place_of size (slice_index was) tree c)).1)
    ]

    more : (k : ℕ) → slice_index was k ≤ slice_index now k
    more k = elim (w k) [ inl same ↦ omega arith | inr wider ↦ wider.0 ]

    grown : (k : ℕ) → length (uleb_of (place_of size (slice_index was) tree k)) ≤ length (uleb_of (place_of size (slice_index now) tree k))
    grown k = uleb_of-grows (place_of size (slice_index was) tree k) (place_of size (slice_index now) tree k)
        (place-grows size size (slice_index was) (slice_index now) tree k (λ m. omega arith) (λ j a b. more j))

    needs : (k : ℕ) → k ≡ c → slice_index now k ≡ length (uleb_of (place_of size (slice_index was) tree c))
        → slice_index now k ≡ length (uleb_of (place_of size (slice_index was) tree k))
    needs k here is = is ∙ ap (λ (n : ℕ). length (uleb_of (place_of size (slice_index was) tree n))) (sym here)

    low : (k : ℕ) → 1 ≤ k → k < node_count tree → slice_index now k ≤ length (uleb_of (place_of size (slice_index now) tree k))
    low k some within = elim (w k) [
      | inl same ↦ omega (arith, l.low k some within, grown k)
      | inr wider ↦ omega (arith, needs k wider.1 wider.2, grown k)
    ]

    least : (other : ℕ → ℕ) → AreWide size other tree → (k : ℕ) → 1 ≤ k → k < node_count tree → slice_index now k ≤ other k
    least other wide k some within = elim (w k) [
      | inl same ↦ omega (arith, l.least other wide k some within)
      | inr wider ↦
          let less = uleb_of-grows (place_of size (slice_index was) tree k) (place_of size other tree k)
          (place-grows size size (slice_index was) other tree k (λ m. omega arith) (λ j a b. l.least other wide j a b)) in
          omega (arith, needs k wider.1 wider.2, less, wide k some within)
    ]

-- no edge is too narrow
pub least_at_end : (size : Option ℕ → ℕ) (tree : Edges) (places widths : List ℕ) → AreLow size tree widths
    → ((k : ℕ) → k < node_count tree → slice_index places k ≡ place_of size (slice_index widths) tree k)
    → ((k : ℕ) → 1 ≤ k → k < node_count tree → needed places k ≤ slice_index widths k) → AreLeast size (slice_index widths) tree
least_at_end size tree places widths l at wide = record {
  consistent = λ k some within. omega (arith, l.low k some within, wide k some within, ap (λ (n : ℕ). length (uleb_of n)) (at k within));
  least = l.least;
}

-- greater terminal parts have no lesser widths, and no lesser size
pub least-grows : (size more : Option ℕ → ℕ) (w v : ℕ → ℕ) (tree : Edges) → ((m : Option ℕ) → size m ≤ more m) → AreLeast size w tree
    → AreLeast more v tree
    → (k : ℕ) → 1 ≤ k → k < node_count tree → w k ≤ v k
least-grows size more w v tree s a b =
    a.least v (λ k some within. omega (
      arith,
      b.consistent k some within,
      uleb_of-grows (place_of size v tree k) (place_of more v tree k) (place-grows size more v v tree k s (λ j x y. omega arith)),
    ))

-- the sum of small widths
pub sum_few : (widths : List ℕ) → ((k : ℕ) → slice_index widths k ≤ 10) → sum widths ≤ 10 * length widths
sum_few [] few = omega arith
sum_few (w ∷ widths) few = omega (arith, sum-cons w widths, few 0, sum_few widths (λ k. few (suc k)))

-- the places of a list, at the nodes
pub place_at : (f : ℕ → ℕ) (places : List ℕ) (n k : ℕ) → places ≡ map f (range_with_len 0 (n + 1)) → k < n + 1 → slice_index places k ≡ f k
place_at f places n k is within = ap (λ (xs : List ℕ). slice_index xs k) is ∙ get_or-map-range_with_len f 0 (n + 1) k k 0 within (omega
    arith)

pub length-places : (f : ℕ → ℕ) (places : List ℕ) (n : ℕ) → places ≡ map f (range_with_len 0 (n + 1)) → length places ≡ n + 1
length-places f places n is = ap length is ∙ length-map-range_with_len f 0 (n + 1)
