-- Where a cell stands, by its number.
--
-- The cells have different numbers, so each placed one has its start at its number. A cell whose rank is below the ranks of the
-- rows is placed; so it stands behind the head, at a multiple of its alignment, in the segment of its rank, and apart from each other cell.
use Rattle.std.proofs.Common.{◌≡◌, ℕ, zero, suc, ◌+◌, ◌*◌, ◌%◌, ◌^◌, ◌<◌, ◌≤◌, ◌⊎◌, nat_lt, Bool, true, false, cond, List, [], ◌∷◌, ◌++◌, map, length, get_or, All, AllPairs, Contains, refl, sym, ap, ◌∙◌, subst, arith, inl, inr}
use Rattle.std.specs.List.{range_with_len}
use Rattle.std.proofs.lemmas.Bool.{cases_lt}
use Rattle.std.proofs.lemmas.List.{get_or_default}
use Rattle.std.proofs.lemmas.List.Elements.{All-append, All-weaker, All-contains}
use Rattle.std.proofs.lemmas.List.FromFn.{length-map-range_with_len, get_or-map-range_with_len}
use Rattle.macho_records.specs.declared.segments.SegmentName.{SegmentName}
use Rattle.macho_model.specs.declared.placed.PlacedSegment.{PlacedSegment}
use Rattle.macho_model.specs.declared.placed.Counts.{Counts}
use Rattle.macho_stack.specs.declared.members.Extent.{Extent}
use Rattle.macho_stack.specs.declared.place.Cell.{Cell}
use Rattle.macho_stack.specs.declared.place.PlacedCell.{PlacedCell}
use Rattle.macho_stack.specs.Stacks.{extent_at}
use Rattle.macho_stack.specs.Ranks.{HasStarts}
use Rattle.macho_layout.specs.Plans.{Planning}
use Rattle.macho_layout.specs.Cells.{merged_cell, cell_if, text_cell, made_cells, cells_of}
use Rattle.macho_layout.specs.Places.{number_at}
use Rattle.macho_stack.specs.Rows.{AreRows, segments_from}
use Rattle.macho_layout_laws.proofs.Lists.{pairs_append, pairs_weaker, flag_pairs}
use Rattle.macho_layout_laws.proofs.RowFacts.{RowsRise, rows_rise, rows_hold, InRow, end_of_cell, IsWholeCell, OtherNumbers, ranks_apart, ranks_have, ranks_sorted}
use Rattle.macho_bytes.proofs.Members.{map_contains}
use Rattle.macho_bytes.proofs.Pairs.{pairs_unmap}
use Rattle.macho_layout.proofs.Rooms.{if_small}

abbrev NumbersRise : Cell → Cell → Type 0
NumbersRise a b = a.number < b.number

-- numbers that rise in two lists, the second's from a number on that the first doesn't reach
rising : (m : ℕ) (xs ys : List Cell) → AllPairs NumbersRise xs → AllPairs NumbersRise ys → All (λ c. c.number < m) xs → All
    (λ c. m ≤ c.number) ys → AllPairs NumbersRise (xs ++ ys)
rising m xs ys one two below above =
    pairs_append NumbersRise xs ys one two
    (All-weaker (λ (x : Cell). x.number < m) (λ (x : Cell). All (NumbersRise x) ys)
    (λ x h. All-weaker (λ (y : Cell). m ≤ y.number) (NumbersRise x) (λ y k. omega (arith, h, k)) ys above) xs below)

-- no two cells have one number
pub cells_numbered_apart : (p : Planning) (counts : Counts) (names : List SegmentName) (extents : List Extent) → AllPairs OtherNumbers
    (cells_of p counts names extents)
unfolding cells_of
cells_numbered_apart p counts names extents =
    let n : ℕ = length extents in
    let a : Cell = text_cell (length extents + 0) 1 (4 * counts.initializers) in
    let b : Cell = text_cell (length extents + 1) 2 counts.unwind in
    let c : Cell = text_cell (length extents + 2) 3 (12 * length p.stubs) in
    let d : Cell = record { number = length extents + 3; rank = 12; exponent = 3; size = 8 * length p.slots } in
    let f : ℕ → Cell = λ number. merged_cell p names number (extent_at extents number) in
    let low : (m : ℕ) (x : Cell) → x.number < m → All (λ c. c.number < m) (cell_if x) = λ m x h. if_small (λ c. c.number < m) x h in
    let ab = rising (length extents + 1) (cell_if a) (cell_if b) (flag_pairs NumbersRise (nat_lt 0 a.size) a)
    (flag_pairs NumbersRise (nat_lt 0 b.size) b)
    (if_small (λ c. c.number < length extents + 1) a (omega arith)) (if_small (λ c. length extents + 1 ≤ c.number) b (omega arith)) in
    let abc = rising (length extents + 2) (cell_if a ++ cell_if b) (cell_if c) ab (flag_pairs NumbersRise (nat_lt 0 c.size) c)
    (All-append (λ c. c.number < length extents + 2) (cell_if a) (cell_if b) (if_small (λ c. c.number < length extents + 2) a (omega arith))
    (if_small (λ c. c.number < length extents + 2) b (omega arith)))
    (if_small (λ c. length extents + 2 ≤ c.number) c (omega arith)) in
    let abcd = rising (length extents + 3) (cell_if a ++ cell_if b ++ cell_if c) (cell_if d) abc
    (flag_pairs NumbersRise (nat_lt 0 d.size) d)
    (All-append (λ c. c.number < length extents + 3) (cell_if a ++ cell_if b) (cell_if c)
    (All-append (λ c. c.number < length extents + 3) (cell_if a) (cell_if b) (if_small (λ c. c.number < length extents + 3) a (omega arith))
    (if_small (λ c. c.number < length extents + 3) b (omega arith)))
    (if_small (λ c. c.number < length extents + 3) c (omega arith)))
    (if_small (λ c. length extents + 3 ≤ c.number) d (omega arith)) in
    let made_low : All (λ c. length extents ≤ c.number) (made_cells p counts (length extents))
    = All-append (λ c. length extents ≤ c.number) (cell_if a ++ cell_if b ++ cell_if c) (cell_if d)
    (All-append (λ c. length extents ≤ c.number) (cell_if a ++ cell_if b) (cell_if c)
    (All-append (λ c. length extents ≤ c.number) (cell_if a) (cell_if b) (if_small (λ c. length extents ≤ c.number) a (omega arith))
    (if_small (λ c. length extents ≤ c.number) b (omega arith)))
    (if_small (λ c. length extents ≤ c.number) c (omega arith))) (if_small (λ c. length extents ≤ c.number) d (omega arith)) in
    let long = length-map-range_with_len f 0 (length extents) in
    let merged : AllPairs NumbersRise (map (λ number. merged_cell p names number (extent_at extents number))
    (range_with_len 0 (length extents))) =
    λ i j e before within.
    let x = ap (λ (c : Cell). c.number) (get_or-map-range_with_len (λ number. merged_cell p names number (extent_at extents number)) 0
    (length extents) i i e (omega (arith, long)) (omega arith)) in
    let y = ap (λ (c : Cell). c.number) (get_or-map-range_with_len (λ number. merged_cell p names number (extent_at extents number)) 0
    (length extents) j j e (omega (arith, long)) (omega arith)) in
    omega (arith, x, y) in
    let merged_low : All (λ c. c.number < length extents) (map (λ number. merged_cell p names number (extent_at extents number))
    (range_with_len 0 (length extents))) =
    λ i e within.
    let x = ap (λ (c : Cell). c.number) (get_or-map-range_with_len (λ number. merged_cell p names number (extent_at extents number)) 0
    (length extents) i i e (omega (arith, long)) (omega arith)) in
    omega (arith, x, long) in
    pairs_weaker NumbersRise OtherNumbers (λ x y h e. omega (arith, h, e))
    (map (λ number. merged_cell p names number (extent_at extents number)) (range_with_len 0 (length extents)) ++ made_cells p counts
    (length extents))
    (rising (length extents) (map (λ number. merged_cell p names number (extent_at extents number)) (range_with_len 0 (length extents)))
    (made_cells p counts (length extents)) merged abcd merged_low made_low)

-- a cell at its start
abbrev pub at_start : List ℕ → Cell → PlacedCell
at_start starts c = record { cell = c; start = number_at starts c.number }

-- where a cell stands
pub record CellStands (base head address : ℕ) (segments : List PlacedSegment) (starts : List ℕ) (c : Cell) : Type 0 where
  pub low : base + head ≤ number_at starts c.number
  pub high : number_at starts c.number + c.size ≤ address
  pub whole : number_at starts c.number % 2 ^ c.exponent ≡ 0
  pub row : InRow 0 segments (at_start starts c)

abbrev PlacedApart : PlacedCell → PlacedCell → Type 0
PlacedApart a b = a.cell.number ≡ b.cell.number → ⊥

module _ (names : List SegmentName) (cells : List Cell) (base head count : ℕ) (segments : List PlacedSegment) (placed : List PlacedCell)
    (address offset many : ℕ) (starts : List ℕ)
    (rows : AreRows names cells base head count segments placed address offset) (have : HasStarts many placed starts)
    (apart : AllPairs OtherNumbers cells) where
  placed_apart : AllPairs PlacedApart placed
  placed_apart = pairs_unmap OtherNumbers (λ (q : PlacedCell). q.cell) placed
      (subst (AllPairs OtherNumbers) (sym rows.same) (ranks_apart (9 * count) cells apart))

  -- each placed cell has its start at its number
  pub started : (q : PlacedCell) → Contains placed q → number_at starts q.cell.number ≡ q.start
  started q there = have.each placed_apart q there

  pub rise : RowsRise (base + head) placed address
  rise = subst (λ (qs : List PlacedCell). RowsRise (base + head) qs address) (sym rows.placed_are)
      (rows_rise names cells head 0 base 0 rows.rows address offset rows.stand).0

  hold : All (InRow 0 segments) placed
  hold =
      subst (λ (ss : List PlacedSegment). All (InRow 0 ss) placed) (sym rows.segments_are)
      (subst (λ (qs : List PlacedCell). All (InRow 0 (segments_from names head 0 base 0 rows.rows)) qs) (sym rows.placed_are)
      (rows_hold names cells head 0 base 0 rows.rows address offset rows.stand))

  -- a cell of the rows' ranks is placed, at its start
  pub placed_has : (c : Cell) → Contains cells c → c.rank < 9 * count → Contains placed (at_start starts c)
  placed_has c there low =
      let h = map_contains (λ (q : PlacedCell). q.cell) placed c (subst (λ (cs : List Cell). Contains cs c) (sym rows.same)
      (ranks_have (9 * count) cells c there low)) in
      let is : h.0 ≡ at_start starts c
      = ap (λ (n : ℕ). record { cell = h.0.cell; start = n }) (sym (started h.0 h.1)) ∙ ap (at_start starts) h.2 in
      subst (Contains placed) is h.1

  pub cell_stands : (c : Cell) → Contains cells c → c.rank < 9 * count → CellStands base head address segments starts c
  cell_stands c there low =
      let h = placed_has c there low in
      record {
        low = All-contains (λ (q : PlacedCell). base + head ≤ q.start) placed (at_start starts c) rise.begin h;
        high = All-contains (λ (q : PlacedCell). end_of_cell q ≤ address) placed (at_start starts c) rise.end h;
        whole = All-contains IsWholeCell placed (at_start starts c) rise.whole h;
        row = All-contains (InRow 0 segments) placed (at_start starts c) hold h;
      }

  pub cells_apart : (a b : Cell) → Contains cells a → a.rank < 9 * count → Contains cells b → b.rank < 9 * count → (a.number ≡ b.number → ⊥)
      → (number_at starts a.number + a.size ≤ number_at starts b.number) ⊎ (number_at starts b.number + b.size ≤ number_at starts a.number)
  cells_apart a b there_a low_a there_b low_b other = by (placed_has a there_a low_a) (placed_has b there_b low_b)
    where
      by : Contains placed (at_start starts a) → Contains placed (at_start starts b)
          → (number_at starts a.number + a.size ≤ number_at starts b.number) ⊎
          (number_at starts b.number + b.size ≤ number_at starts a.number)
      by (i, low_i, at_i) (j, low_j, at_j) = elim (cases_lt i j) [
        | inl before ↦
            let x = ap (λ (q : PlacedCell). end_of_cell q) (get_or_default placed i (at_start starts b) (at_start starts a) low_i ∙ at_i) in
            let y = ap (λ (q : PlacedCell). q.start) at_j in
            inl (omega (arith, rise.rise i j (at_start starts b) before low_j, x, y))
        | inr le ↦ elim (cases_lt j i) [
          | inl before ↦
              let x = ap (λ (q : PlacedCell). end_of_cell q) (get_or_default placed j (at_start starts a) (at_start starts b) low_j
              ∙ at_j) in
              let y = ap (λ (q : PlacedCell). q.start) at_i in
              inr (omega (arith, rise.rise j i (at_start starts a) before low_i, x, y))
          | inr ge ↦
              let here : i ≡ j = omega (arith, le, ge) in
              let one = ap (λ (q : PlacedCell). q.cell.number) (sym at_i ∙ get_or_default placed i (at_start starts a)
              (at_start starts b) low_i ∙ ap (λ (k : ℕ). get_or placed k (at_start starts b)) here ∙ at_j) in
              absurd (other one)
        ]
      ]

  -- a cell of a lower rank ends before one of a higher rank
  pub rank_before : (a b : Cell) → Contains cells a → a.rank < 9 * count → Contains cells b → b.rank < 9 * count → a.rank < b.rank
      → number_at starts a.number + a.size ≤ number_at starts b.number
  rank_before a b there_a low_a there_b low_b less = by (placed_has a there_a low_a) (placed_has b there_b low_b)
    where
      sorted : AllPairs (λ (x y : PlacedCell). x.cell.rank ≤ y.cell.rank) placed
      sorted = pairs_unmap (λ (x y : Cell). x.rank ≤ y.rank) (λ (x : PlacedCell). x.cell) placed
          (subst (AllPairs (λ (x y : Cell). x.rank ≤ y.rank)) (sym rows.same) (ranks_sorted (9 * count) cells))

      by : Contains placed (at_start starts a) → Contains placed (at_start starts b)
          → number_at starts a.number + a.size ≤ number_at starts b.number
      by (i, low_i, at_i) (j, low_j, at_j) =
          let x = get_or_default placed i (at_start starts b) (at_start starts a) low_i ∙ at_i in
          elim (cases_lt i j) [
            | inl before ↦
                omega (
                  arith,
                  rise.rise i j (at_start starts b) before low_j,
                  ap (λ (y : PlacedCell). end_of_cell y) x,
                  ap
                      (λ (y : PlacedCell). y.start) at_j,
                )
            | inr le ↦ elim (cases_lt j i) [
              | inl before ↦ absurd (omega (
                arith,
                sorted j i (at_start starts b) before low_i,
                ap (λ (y : PlacedCell). y.cell.rank) x,
                ap
                    (λ (y : PlacedCell). y.cell.rank) at_j,
                less,
              ))
              | inr ge ↦
                  let here : i ≡ j = omega (arith, le, ge) in
                  let one = ap (λ (y : PlacedCell). y.cell.rank) (sym x ∙ ap (λ (k : ℕ). get_or placed k (at_start starts b)) here
                  ∙ at_j) in
                  absurd (omega (arith, one, less))
            ]
          ]
