-- Least widths stand for each tree, whatever the sizes of its terminal parts.
--
-- Begin with no bytes for any edge. These widths are at most what the places under them need, and at most any that are wide
-- enough. What the places under such widths need are such widths again, and none of them is less, since wider edges move no
-- place back. If none is greater either, no edge is too narrow, and the widths are the least. Else their sum over the nodes has
-- risen; as no number needs more than ten bytes, it is at most ten for each node, so it rises only so often.
use Rattle.std.proofs.Common.{◌≡◌, ◌⊎◌, ℕ, zero, suc, ◌+◌, ◌*◌, ◌<◌, ◌≤◌, length, subst, arith, inl, inr}
use Rattle.std.specs.Prelude.{Option}
use Rattle.std.proofs.lemmas.Bool.{cases_lt}
use Rattle.macho_bytes.specs.Uleb.{uleb_of}
use Rattle.macho_bytes.proofs.Ulebs.{length-uleb_of, uleb_of-grows}
use Rattle.macho_trie.specs.Trees.{Edges, node_count}
use Rattle.macho_trie.specs.Encoding.{place_of, AreWide, AreLeast}
use Rattle.macho_trie.proofs.Widths.{place-grows}

-- the bytes that the place of a node needs under some widths
abbrev needs : (Option ℕ → ℕ) → Edges → (ℕ → ℕ) → ℕ → ℕ
needs size tree w k = length (uleb_of (place_of size w tree k))

-- Widths that are small, at most what places need under them, and at most any that are wide enough.
record AreLow (size : Option ℕ → ℕ) (tree : Edges) (w : ℕ → ℕ) : Type 0 where
  few : (k : ℕ) → w k ≤ 10
  low : (k : ℕ) → w k ≤ needs size tree w k
  least : (other : ℕ → ℕ) → AreWide size other tree → (k : ℕ) → 1 ≤ k → k < node_count tree → w k ≤ other k

low_none : (size : Option ℕ → ℕ) (tree : Edges) → AreLow size tree (λ k. 0)
low_none size tree = record {
  few = λ k. omega arith;
  low = λ k. omega arith;
  least = λ other wide k some within. omega arith;
}

low_next : (size : Option ℕ → ℕ) (tree : Edges) (w : ℕ → ℕ) → AreLow size tree w → AreLow size tree (needs size tree w)
low_next size tree w l = record {
  few = λ k. (length-uleb_of (place_of size w tree k)).1;
  low = λ k. uleb_of-grows (place_of size w tree k) (place_of size (needs size tree w) tree k)
      (place-grows size size w (needs size tree w) tree k (λ m. omega arith) (λ j some within. l.low j));
  least = λ other wide k some within.
      let less = uleb_of-grows (place_of size w tree k) (place_of size other tree k)
      (place-grows size size w other tree k (λ m. omega arith) (λ j first last. l.least other wide j first last)) in
      omega (arith, less, wide k some within);
}

-- the sum of the first widths
total : ℕ → (ℕ → ℕ) → ℕ
total zero w = 0
total (suc n) w = total n w + w n

total_few : (n : ℕ) (w : ℕ → ℕ) → ((k : ℕ) → w k ≤ 10) → total n w ≤ 10 * n
unfolding total
total_few zero w few = omega arith
total_few (suc n) w few = omega (arith, total_few n w few, few n)

total_grows : (n : ℕ) (w v : ℕ → ℕ) → ((k : ℕ) → w k ≤ v k) → total n w ≤ total n v
unfolding total
total_grows zero w v more = omega arith
total_grows (suc n) w v more = omega (arith, total_grows n w v more, more n)

-- the first widths stand still, or their sum rises
stand_or_rise : (n : ℕ) (w v : ℕ → ℕ) → ((k : ℕ) → w k ≤ v k) → ((k : ℕ) → k < n → v k ≤ w k) ⊎ (total n w < total n v)
unfolding total
stand_or_rise zero w v more = inl (λ k within. absurd (omega (arith, within)))
stand_or_rise (suc n) w v more = by (stand_or_rise n w v more) (cases_lt (w n) (v n))
  where
    each : ((k : ℕ) → k < n → v k ≤ w k) → v n ≤ w n → (k : ℕ) → k < suc n → v k ≤ w k
    each all last k within = elim (cases_lt k n) [
      | inl low ↦ all k low
      | inr high ↦
          let here : n ≡ k = omega (arith, within, high) in
          subst (λ (j : ℕ). v j ≤ w j) here last
    ]

    by : ((k : ℕ) → k < n → v k ≤ w k) ⊎ (total n w < total n v) → (w n < v n) ⊎ (v n ≤ w n)
        → ((k : ℕ) → k < suc n → v k ≤ w k) ⊎ (total n w + w n < total n v + v n)
    by rest (inl rises) = inr (omega (arith, total_grows n w v more, rises))
    by (inr rises) (inr last) = inr (omega (arith, rises, more n))
    by (inl all) (inr last) = inl (each all last)

-- no edge is too narrow
stands : (size : Option ℕ → ℕ) (tree : Edges) (w : ℕ → ℕ) → AreLow size tree w
    → ((k : ℕ) → k < node_count tree → needs size tree w k ≤ w k) → AreLeast size w tree
stands size tree w l still = record {
  consistent = λ k some within. omega (arith, l.low k, still k within);
  least = l.least;
}

climb : (fuel : ℕ) (size : Option ℕ → ℕ) (tree : Edges) (w : ℕ → ℕ) → AreLow size tree w
    → 10 * node_count tree ≤ fuel + total (node_count tree) w → (v : ℕ → ℕ) × AreLeast size v tree
climb zero size tree w l left = by (stand_or_rise (node_count tree) w (needs size tree w) l.low)
  where
    by : ((k : ℕ) → k < node_count tree → needs size tree w k ≤ w k)
        ⊎ (total (node_count tree) w < total (node_count tree) (needs size tree w)) → (v : ℕ → ℕ) × AreLeast size v tree
    by (inl still) = (w, stands size tree w l still)
    by (inr rises) = absurd (omega (arith, left, rises, total_few (node_count tree) (needs size tree w) (low_next size tree w l).few))
climb (suc fuel) size tree w l left = by (climb fuel size tree (needs size tree w) (low_next size tree w l))
    (stand_or_rise (node_count tree) w (needs size tree w) l.low)
  where
    by : (10 * node_count tree ≤ fuel + total (node_count tree) (needs size tree w) → (v : ℕ → ℕ) × AreLeast size v tree)
        → ((k : ℕ) → k < node_count tree → needs size tree w k ≤ w k)
        ⊎ (total (node_count tree) w < total (node_count tree) (needs size tree w)) → (v : ℕ → ℕ) × AreLeast size v tree
    by further (inl still) = (w, stands size tree w l still)
    by further (inr rises) = further (omega (arith, left, rises))

-- THE least widths
pub least_widths : (size : Option ℕ → ℕ) (tree : Edges) → (width : ℕ → ℕ) × AreLeast size width tree
least_widths size tree = climb (10 * node_count tree) size tree (λ k. 0) (low_none size tree) (omega arith)
