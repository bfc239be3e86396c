-- The looks over all edges, until none is too narrow.
--
-- A look has the places under the present widths. Where it finds no narrow edge, the widths are the least. Else they go on the
-- list, and the first of them grows. To work off the list keeps what is known of the widths, and their sum rises whenever one of
-- them grows. It is at most ten for each row. Where none grows, no place is another one, so the list comes out empty. So both come
-- to an end. Nothing is said of the edges that aren't on the list: that none is too narrow is seen by the last look.
use Rattle.std.proofs.Common.{◌≡◌, ◌⊎◌, ℕ, ◌+◌, ◌-◌, ◌*◌, ◌<◌, ◌≤◌, List, [], ◌∷◌, length, map, sum, slice_index, refl, sym, ap, subst, ◌∙◌, arith, inl, inr}
use Rattle.std.specs.List.{All, range_with_len}
use Rattle.macho_trie.specs.Trees.{node_count}
use Rattle.macho_trie.specs.Encoding.{place_of}
use Rattle.macho_trie.specs.steps.Layouts.{names_at, size_at, tree_at, ArePlaces, AreLaidOut, AreLow, AreLowWidths, AreListed, AreGrown, AreSizes, AreSums, IsNarrow, needed}
use Rattle.macho_trie.specs.declared.layout.Layout.{Layout}
use Rattle.macho_trie.proofs.Building.{node_count-rows}
use Rattle.macho_trie.proofs.Parents.{sums_are_places}
use Rattle.macho_trie.proofs.Widths.{least_at_end, sum_few, place_at, length-places}

-- the widths of a look, which the code has in several slices
pub record AreSeen (l : Layout) (widths seen placed : List ℕ) (places : List ℕ) : Type 0 where
  pub placed_is : placed ≡ places
  pub seen_is : seen ≡ widths
  pub under : ArePlaces l (slice_index widths) places

pub seen_by : (l : Layout) (widths sizes at seen placed places : List ℕ) → at ≡ sizes → seen ≡ widths → placed ≡ places
    → AreSizes l (slice_index widths) sizes → AreSums at places → AreSeen l widths seen placed places
seen_by l widths sizes at seen placed places at_is seen_is placed_is under sums =
    record {
      placed_is = placed_is;
      seen_is = seen_is;
      under = sums_are_places l (slice_index widths) at places (at_is ∙ under) sums;
    }

pub seen_short : (l : Layout) (widths seen placed places : List ℕ) → AreSeen l widths seen placed places → length widths ≡ length l.rows.now
    → length seen ≤ length placed
seen_short l widths seen placed places s long =
    omega (
      arith,
      ap length s.placed_is,
      ap length s.seen_is,
      length-places (place_of (size_at l) (slice_index widths) (tree_at l))
          places (length l.rows.now) s.under,
    )

seen_at : (l : Layout) (widths seen placed places : List ℕ) → AreSeen l widths seen placed places → (k : ℕ) → k < node_count (tree_at l)
    → slice_index places k ≡ place_of (size_at l) (slice_index widths) (tree_at l) k
seen_at l widths seen placed places s k within =
    place_at (place_of (size_at l) (slice_index widths) (tree_at l)) places (length l.rows.now) k s.under
    (omega (arith, node_count-rows (names_at l) l.rows.now))

pub none_narrow : (l : Layout) (widths seen placed places : List ℕ) → AreSeen l widths seen placed places
    → length widths ≡ length l.rows.now
    → AreLow (size_at l) (tree_at l) widths → ((k : ℕ) → 1 ≤ k → k < length seen → needed placed k ≤ slice_index seen k)
    → AreLaidOut l places
none_narrow l widths seen placed places s long low wide = record {
  width = slice_index widths;
  least = least_at_end (size_at l) (tree_at l) places widths low (seen_at l widths seen placed places s) each;
  placed = s.under;
}
  where
    each : (k : ℕ) → 1 ≤ k → k < node_count (tree_at l) → needed places k ≤ slice_index widths k
    each k some within =
        omega (
          arith,
          wide k some (omega (arith, ap length s.seen_is, node_count-rows (names_at l) l.rows.now)),
          ap (λ (xs : List ℕ). needed xs k) s.placed_is,
          ap (λ (xs : List ℕ). slice_index xs k) s.seen_is,
        )

pub fewer_left : (l : Layout) (widths now : List ℕ) → length now ≡ length l.rows.now → AreLow (size_at l) (tree_at l) now
    → sum widths < sum now
    → 10 * length l.rows.now - sum now < 10 * length l.rows.now - sum widths
fewer_left l widths now long low more =
    let bound = sum_few now low.few in
    let all : 10 * length now ≡ 10 * length l.rows.now = ap (λ (n : ℕ). 10 * n) long in
    omega (arith, bound, all)

-- what is left of a list counts once
abbrev pub rank : List ℕ → ℕ
rank [] = 0
rank (x ∷ xs) = 1

pub rank-some : (xs : List ℕ) → 1 ≤ length xs → rank xs ≡ 1
rank-some [] some = absurd (omega arith)
rank-some (x ∷ xs) some = refl

rank-low : (xs : List ℕ) → rank xs ≤ 1
rank-low [] = omega arith
rank-low (x ∷ xs) = omega arith

-- one round over the list
pub list_grows : (first was now places placed list seen : List ℕ) → ((was ≡ first) × IsNarrow places was (slice_index list 0))
    ⊎ (sum first < sum was)
    → placed ≡ places → seen ≡ list → 1 ≤ length list
    → (1 ≤ length seen → IsNarrow placed was (slice_index seen 0) → sum was < sum now) → AreGrown was now → sum first < sum now
list_grows first was now places placed list seen (inl same) placed_is seen_is some head grown =
    let N : List ℕ × List ℕ → Type 0 = λ p. IsNarrow p.0 was (slice_index p.1 0) in
    let both : (let p : List ℕ × List ℕ = (places, list) in p) ≡ (placed, seen) = cc in
    omega (arith, ap sum same.0, head (omega (arith, ap length seen_is)) (subst N both same.1))
list_grows first was now places placed list seen (inr more) placed_is seen_is some head grown =
    elim grown [ inl same ↦ omega (arith, more, ap sum same) | inr less ↦ omega (arith, more, less) ]

pub list_ends : (l : Layout) (was now places moved seen moved_seen list next : List ℕ) → AreLowWidths l now → 1 ≤ length list
    → ArePlaces l (slice_index was) places → ArePlaces l (slice_index now) moved → seen ≡ places → moved_seen ≡ moved
    → (seen ≡ moved_seen → next ≡ []) → AreGrown was now
    → 2 * (10 * length l.rows.now - sum now) + rank next < 2 * (10 * length l.rows.now - sum was) + rank list
list_ends l was now places moved seen moved_seen list next low some at to seen_is moved_is none (inl same) =
    let all : places ≡ moved = at ∙ ap (λ (ws : List ℕ). map (place_of (size_at l) (slice_index ws) (tree_at l))
    (range_with_len 0 (length l.rows.now + 1))) (sym same) ∙ sym to in
    omega (arith, ap sum same, ap rank (none (seen_is ∙ all ∙ sym moved_is)), rank-some list some)
list_ends l was now places moved seen moved_seen list next low some at to seen_is moved_is none (inr more) =
    omega (arith, fewer_left l was now low.long low.low more, rank-low next)

pub moved_listed : (l : Layout) (now moved seen list : List ℕ) → ArePlaces l (slice_index now) moved → seen ≡ moved
    → AreListed (length seen - 1) list
    → AreListed (length l.rows.now) list
moved_listed l now moved seen list to seen_is listed =
    let same : length seen - 1 ≡ length l.rows.now
    = omega (arith, ap length seen_is, length-places (place_of (size_at l) (slice_index now) (tree_at l)) moved (length l.rows.now) to) in
    let L : ℕ → Type 0 = λ n. AreListed n list in
    subst L same listed

-- places under some widths are as many as those under others
pub moved_long : (l : Layout) (was now places moved seen moved_seen : List ℕ) → ArePlaces l (slice_index was) places
    → ArePlaces l (slice_index now) moved → seen ≡ places → moved_seen ≡ moved → length seen ≡ length moved_seen
moved_long l was now places moved seen moved_seen at to seen_is moved_is =
    ap (λ (xs : List ℕ). length xs) seen_is
    ∙ length-places (place_of (size_at l) (slice_index was) (tree_at l)) places (length l.rows.now) at
    ∙ sym (length-places (place_of (size_at l) (slice_index now) (tree_at l)) moved (length l.rows.now) to)
    ∙ ap (λ (xs : List ℕ). length xs) (sym moved_is)
