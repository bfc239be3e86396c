-- Where the cells of rows stand.
--
-- The cells of a row are one stack behind its front, so they rise, and each stands at a multiple of its alignment between the
-- front and the end. The row's segment goes on to the next page, where the next row begins; so the cells of all rows rise. A
-- cell's rank tells its row and whether it has bytes in the file, and so the segment that holds it.
use Rattle.std.proofs.Common.{◌≡◌, ℕ, zero, suc, ◌+◌, ◌*◌, ◌-◌, ◌/◌, ◌%◌, ◌^◌, ◌<◌, ◌≤◌, true, List, [], ◌∷◌, ◌++◌, map, filter, length, get_or, All, AllPairs, Contains, refl, sym, ap, ◌∙◌, subst, arith, inl, inr}
use Rattle.std.specs.List.{flat_map}
use Rattle.std.proofs.lemmas.Bool.{cases_lt, eqb-true, eq-eqb}
use Rattle.std.proofs.lemmas.List.{map-append}
use Rattle.std.proofs.lemmas.List.Elements.{All-nil, All-append, All-weaker, All-same, All-filter, All-from_recursion, All-contains_itself, Contains-append_left, Contains-append_right, filter_passes}
use Rattle.std.proofs.lemmas.List.Kept.{AllPairs-filter}
use Rattle.macho_bytes.specs.Numbers.{rounded_up}
use Rattle.macho_records.specs.declared.segments.SegmentName.{SegmentName}
use Rattle.macho_model.specs.declared.placed.PlacedSegment.{PlacedSegment}
use Rattle.macho_model.specs.Segments.{SEGMENT_PAGE}
use Rattle.macho_stack.specs.declared.place.Cell.{Cell}
use Rattle.macho_stack.specs.declared.place.PlacedCell.{PlacedCell}
use Rattle.macho_stack.specs.Blocks.{Block, StandLeast}
use Rattle.macho_stack.specs.Ranks.{cell_block, has_rank, of_ranks}
use Rattle.macho_stack.proofs.Ranks.{of_ranks-none, of_ranks-more}
use Rattle.macho_stack.proofs.StackRows.{row-rises, row-append, row-order, row-begins, row-ends, row-multiples}
use Rattle.macho_stack.specs.Rows.{RowCells, cells_in_row, row_segment, IsRow, row_at, front_at, RowsFrom, segments_from}
use Rattle.macho_stack.proofs.RowSteps.{row-cost}
use Rattle.macho_layout.proofs.Rooms.{unmapped, ranks_keep}
use Rattle.macho_layout_laws.proofs.Lists.{pairs_append, same_element}
use Rattle.macho_bytes.proofs.Members.{contains_filter}
use Rattle.macho_bytes.proofs.Rounding.{rounded-above}

abbrev pub end_of_cell : PlacedCell → ℕ
end_of_cell q = q.start + q.cell.size

-- a cell ends before another begins
abbrev pub CellsRise : PlacedCell → PlacedCell → Type 0
CellsRise a b = end_of_cell a ≤ b.start

abbrev pub IsWholeCell : PlacedCell → Type 0
IsWholeCell q = q.start % 2 ^ q.cell.exponent ≡ 0

-- where a row ends in its segment
abbrev next_page : ℕ → ℕ → ℕ
next_page a end = a + rounded_up SEGMENT_PAGE (end - a)

-- the cells of a row are one stack
pub row_stack : (names : List SegmentName) (cells : List Cell) (head n a o : ℕ) (r : RowCells) → IsRow cells (row_at names head n a o) r
    → StandLeast (a + front_at head n) (map cell_block (cells_in_row r)) r.end
row_stack names cells head n a o r is =
    subst (λ (bs : List Block). StandLeast (a + front_at head n) bs r.end) (sym (map-append cell_block r.filled r.zeros))
    (row-append (a + front_at head n) (map cell_block r.filled) (map cell_block
    r.zeros) r.filled_end r.end is.filled_stack.least is.zeros_stack.least)

-- what the cells of rows keep: they rise, from a place on, to another
pub record RowsRise (low : ℕ) (qs : List PlacedCell) (high : ℕ) : Type 0 where
  pub rise : AllPairs CellsRise qs
  pub begin : All (λ q. low ≤ q.start) qs
  pub end : All (λ q. end_of_cell q ≤ high) qs
  pub whole : All IsWholeCell qs

pub one_row : (names : List SegmentName) (cells : List Cell) (head n a o : ℕ) (r : RowCells) → IsRow cells (row_at names head n a o) r
    → RowsRise (a + front_at head n) (cells_in_row r) r.end
one_row names cells head n a o r is =
    let s = row_stack names cells head n a o r is in
    let qs : List PlacedCell = cells_in_row r in
    record {
      rise = row-order cell_block (a + front_at head n) (cells_in_row r) r.end s;
      begin = All-from_recursion (λ (q : PlacedCell). a + front_at head n ≤ q.start) (cells_in_row r)
          (row-begins cell_block (a + front_at head n) (a + front_at head n) (cells_in_row r) r.end (omega arith) s);
      end = All-from_recursion (λ (q : PlacedCell). end_of_cell q ≤ r.end) (cells_in_row r)
          (row-ends cell_block (a + front_at head n) (cells_in_row r) r.end s);
      whole = All-from_recursion IsWholeCell (cells_in_row r) (row-multiples cell_block (a + front_at head n) (cells_in_row r) r.end s);
    }

-- rows behind a row
rise_append : (low mid high : ℕ) (xs ys : List PlacedCell) → low ≤ mid → mid ≤ high → RowsRise low xs mid → RowsRise mid ys high
    → RowsRise low (xs ++ ys) high
rise_append low mid high xs ys less more a b = record {
  rise = pairs_append CellsRise xs ys a.rise b.rise
      (All-weaker (λ (x : PlacedCell). end_of_cell x ≤ mid) (λ (x : PlacedCell). All (CellsRise x) ys)
      (λ x h. All-weaker (λ (y : PlacedCell). mid ≤ y.start) (CellsRise x) (λ y k. omega (arith, h, k)) ys b.begin) xs a.end);
  begin = All-append (λ (q : PlacedCell). low ≤ q.start) xs ys a.begin
      (All-weaker (λ (q : PlacedCell). mid ≤ q.start) (λ (q : PlacedCell). low ≤ q.start) (λ q h. omega (arith, h, less)) ys b.begin);
  end = All-append (λ (q : PlacedCell). end_of_cell q ≤ high) xs ys
      (All-weaker (λ (q : PlacedCell). end_of_cell q ≤ mid) (λ (q : PlacedCell). end_of_cell q ≤ high)
      (λ q h. omega (arith, h, more)) xs a.end) b.end;
  whole = All-append IsWholeCell xs ys a.whole b.whole;
}

rise_wider : (low low2 high high2 : ℕ) (qs : List PlacedCell) → low2 ≤ low → high ≤ high2 → RowsRise low qs high → RowsRise low2 qs high2
rise_wider low low2 high high2 qs less more a = record {
  rise = a.rise;
  begin = All-weaker (λ (q : PlacedCell). low ≤ q.start) (λ (q : PlacedCell). low2 ≤ q.start) (λ q h. omega (arith, h, less)) qs a.begin;
  end = All-weaker (λ (q : PlacedCell). end_of_cell q ≤ high) (λ (q : PlacedCell). end_of_cell q ≤ high2)
      (λ q h. omega (arith, h, more)) qs a.end;
  whole = a.whole;
}

-- the cells of all rows rise
pub rows_rise : (names : List SegmentName) (cells : List Cell) (head n a o : ℕ) (rs : List RowCells) (a' o' : ℕ)
    → RowsFrom names cells head n a o rs a' o'
    → RowsRise (a + front_at head n) (flat_map cells_in_row rs) a' × (a ≤ a')
rows_rise names cells head n a o [] a' o' h = (
  record {
    rise = λ i j d before within. absurd (omega arith);
    begin = All-nil (λ q. _ ≤ q.start);
    end = All-nil
        (λ q. end_of_cell q ≤ _);
    whole = All-nil IsWholeCell;
  },
  omega (arith, h.0),
)
rows_rise names cells head n a o (r ∷ rs) a' o' h =
    let one = one_row names cells head n a o r h.0 in
    let cost = row-cost cells (row_at names head n a o) r h.0 in
    let up = rounded-above SEGMENT_PAGE (r.end - a) (omega arith) in
    let rest = rows_rise names cells head (n + 1) (next_page a r.end) (o + rounded_up SEGMENT_PAGE (r.filled_end - a)) rs a' o' h.1 in
    let low : a + front_at head n ≤ r.end = omega (arith, low_end names cells head n a o r h.0) in
    let first = rise_wider (a + front_at head n) (a + front_at head n) r.end (next_page a r.end) (cells_in_row r) (omega arith)
    (omega (arith, up, cost.0, cost.1)) one in
    let later = rise_wider (next_page a r.end + front_at head (n + 1)) (next_page a r.end) a' a' (flat_map cells_in_row rs) (omega arith)
    (omega arith) rest.0 in (
      rise_append (a + front_at head n) (next_page a r.end) a' (cells_in_row r) (flat_map cells_in_row rs)
          (omega (arith, low, up, cost.0, cost.1)) (omega (arith, rest.1)) first later,
      omega (arith, rest.1),
    )
  where
    low_end : (names : List SegmentName) (cells : List Cell) (head n a o : ℕ) (r : RowCells) → IsRow cells (row_at names head n a o) r
        → a + front_at head n ≤ r.end
    low_end names cells head n a o r is = row-rises (a + front_at head n) (map cell_block (cells_in_row r)) r.end
        (row_stack names cells head n a o r is)

-- the ranks of the cells of some ranks
pub ranks_between : (first n : ℕ) (cells : List Cell) → All (λ c. (first ≤ c.rank) × (c.rank < first + n)) (of_ranks first n cells)
ranks_between first zero cells =
    All-same (λ c. (first ≤ c.rank) × (c.rank < first + 0)) (of_ranks first 0 cells) [] (of_ranks-none first cells)
    (All-nil (λ c. (first ≤ c.rank) × (c.rank < first + 0)))
ranks_between first (suc n) cells =
    let next : suc n ≡ n + 1 = omega arith in
    let P : Cell → Type 0 = λ c. (first ≤ c.rank) × (c.rank < first + suc n) in
    All-same (λ c. (first ≤ c.rank) × (c.rank < first + suc n)) (of_ranks first (suc n) cells)
    (of_ranks first n cells ++ filter (has_rank (first + n)) cells)
    (ap (λ (k : ℕ). of_ranks first k cells) next ∙ of_ranks-more first n cells)
    (All-append (λ c. (first ≤ c.rank) × (c.rank < first + suc n)) (of_ranks first n cells) (filter (has_rank (first + n)) cells)
    (All-weaker (λ c. (first ≤ c.rank) × (c.rank < first + n)) (λ c. (first ≤ c.rank) × (c.rank < first + suc n))
    (λ c h. (h.0, omega (arith, h.1))) (of_ranks first n cells) (ranks_between first n cells))
    (All-weaker (λ (c : Cell). has_rank (first + n) c ≡ true) (λ c. (first ≤ c.rank) × (c.rank < first + suc n))
    (λ c h. let e = eqb-true c.rank (first + n) h in (omega (arith, e), omega (arith, e)))
    (filter (has_rank (first + n)) cells) (filter_passes (has_rank (first + n)) cells)))

-- a cell of the ranks is there
pub ranks_have : (n : ℕ) (cells : List Cell) (c : Cell) → Contains cells c → c.rank < n → Contains (of_ranks 0 n cells) c
ranks_have zero cells c there low = absurd (omega arith)
ranks_have (suc n) cells c there low =
    let next : suc n ≡ n + 1 = omega arith in
    let parts : of_ranks 0 (suc n) cells ≡ of_ranks 0 n cells ++ filter (has_rank (0 + n)) cells = ap (λ (k : ℕ). of_ranks 0 k cells) next
    ∙ of_ranks-more 0 n cells in
    subst (λ (cs : List Cell). Contains cs c) (sym parts) (elim (cases_lt c.rank n) [
      | inl below ↦ Contains-append_left (of_ranks 0 n cells) (filter (has_rank (0 + n)) cells) c (ranks_have n cells c there below)
      | inr above ↦ Contains-append_right (of_ranks 0 n cells) (filter (has_rank (0 + n)) cells) c
          (contains_filter (has_rank (0 + n)) cells c there (eq-eqb c.rank (0 + n) (omega arith)))
    ])

abbrev pub OtherNumbers : Cell → Cell → Type 0
OtherNumbers a b = a.number ≡ b.number → ⊥

-- no two cells of the ranks have one number
pub ranks_apart : (n : ℕ) (cells : List Cell) → AllPairs OtherNumbers cells → AllPairs OtherNumbers (of_ranks 0 n cells)
ranks_apart zero cells apart = subst (AllPairs OtherNumbers) (sym (of_ranks-none 0 cells)) (λ i j d before within. absurd (omega arith))
ranks_apart (suc n) cells apart =
    let next : suc n ≡ n + 1 = omega arith in
    let parts : of_ranks 0 (suc n) cells ≡ of_ranks 0 n cells ++ filter (has_rank (0 + n)) cells = ap (λ (k : ℕ). of_ranks 0 k cells) next
    ∙ of_ranks-more 0 n cells in
    let old : All (Contains cells) (of_ranks 0 n cells) = ranks_keep (Contains cells) 0 n cells (All-contains_itself cells) in
    let new : All (Contains cells) (filter (has_rank (0 + n)) cells) = All-filter (has_rank (0 + n)) (Contains cells) cells
    (All-contains_itself cells) in
    let both : All (λ a. All (OtherNumbers a) (filter (has_rank (0 + n)) cells)) (of_ranks 0 n cells) =
    λ i d low j e within same.
    let a : Cell = get_or (of_ranks 0 n cells) i d in
    let b : Cell = get_or (filter (has_rank (0 + n)) cells) j e in
    let one : get_or (of_ranks 0 n cells) i d ≡ get_or (filter (has_rank (0 + n)) cells) j e
    = same_element (λ (c : Cell). c.number) cells (get_or (of_ranks 0 n cells) i d) (get_or (filter (has_rank (0 + n)) cells) j e) apart
    (old i d low) (new j e within) same in
    let rank = eqb-true (get_or (filter (has_rank (0 + n)) cells) j e).rank (0 + n) (filter_passes (has_rank (0 + n)) cells j e within) in
    absurd (omega (arith, (ranks_between 0 n cells i d low).1, ap (λ (c : Cell). c.rank) one, rank)) in
    subst (AllPairs OtherNumbers) (sym parts) (pairs_append OtherNumbers (of_ranks 0 n cells) (filter (has_rank (0 + n)) cells)
    (ranks_apart n cells apart)
    (AllPairs-filter OtherNumbers (has_rank (0 + n)) cells apart) both)

-- they are in the order of their ranks
pub ranks_sorted : (n : ℕ) (cells : List Cell) → AllPairs (λ a b. a.rank ≤ b.rank) (of_ranks 0 n cells)
ranks_sorted zero cells = subst (AllPairs (λ a b. a.rank ≤ b.rank)) (sym (of_ranks-none 0 cells))
    (λ i j d before within. absurd (omega arith))
ranks_sorted (suc n) cells =
    let next : suc n ≡ n + 1 = omega arith in
    let parts : of_ranks 0 (suc n) cells ≡ of_ranks 0 n cells ++ filter (has_rank (0 + n)) cells = ap (λ (k : ℕ). of_ranks 0 k cells) next
    ∙ of_ranks-more 0 n cells in
    let new : (j : ℕ) (e : Cell) → j < length (filter (has_rank (0 + n)) cells) → (get_or (filter (has_rank (0 + n)) cells) j e).rank
    ≡ 0 + n
    = λ j e within. eqb-true (get_or (filter (has_rank (0 + n)) cells) j e).rank (0 + n)
    (filter_passes (has_rank (0 + n)) cells j e within) in
    subst (AllPairs (λ a b. a.rank ≤ b.rank)) (sym parts) (pairs_append (λ a b. a.rank ≤ b.rank) (of_ranks 0 n cells)
    (filter (has_rank (0 + n)) cells) (ranks_sorted n cells)
    (λ i j d before within. omega (arith, new i d (omega arith), new j d within))
    (λ i d low j e within. omega (arith, (ranks_between 0 n cells i d low).1, new j e within)))

-- the segment that holds a cell, by its rank
pub record InRow (n : ℕ) (segments : List PlacedSegment) (q : PlacedCell) : Type 0 where
  pub number : ℕ
  pub is : q.cell.rank / 9 ≡ n + number
  pub low : number < length segments
  pub segment : PlacedSegment
  pub at : get_or segments number segment ≡ segment
  pub begins : segment.address ≤ q.start
  pub ends : end_of_cell q ≤ segment.address + segment.size
  pub filled : q.cell.rank % 9 < 6 → end_of_cell q ≤ segment.address + segment.file_size

in_first : (names : List SegmentName) (cells : List Cell) (head n a o : ℕ) (r : RowCells) (rest : List PlacedSegment) → IsRow cells
    (row_at names head n a o) r
    → All (InRow n (row_segment (row_at names head n a o) r ∷ rest)) (cells_in_row r)
in_first names cells head n a o r rest is =
    let cost = row-cost cells (row_at names head n a o) r is in
    let up = rounded-above SEGMENT_PAGE (r.end - a) (omega arith) in
    let up2 = rounded-above SEGMENT_PAGE (r.filled_end - a) (omega arith) in
    let ranks1 = unmapped (λ (c : Cell). (9 * n ≤ c.rank) × (c.rank < 9 * n + 6)) (λ (q : PlacedCell). q.cell) r.filled
    (of_ranks (9 * n) 6 cells) is.filled_same (ranks_between (9 * n) 6 cells) in
    let ranks2 = unmapped (λ (c : Cell). (9 * n + 6 ≤ c.rank) × (c.rank < 9 * n + 6 + 3)) (λ (q : PlacedCell). q.cell) r.zeros
    (of_ranks (9 * n + 6) 3 cells) is.zeros_same (ranks_between (9 * n + 6) 3 cells) in
    let begins1 = All-from_recursion (λ (q : PlacedCell). a ≤ q.start) r.filled
    (row-begins cell_block a ((a + front_at head n)) r.filled r.filled_end (omega arith) is.filled_stack.least) in
    let ends1 = All-from_recursion (λ (q : PlacedCell). end_of_cell q ≤ r.filled_end) r.filled
    (row-ends cell_block ((a + front_at head n)) r.filled r.filled_end is.filled_stack.least) in
    let begins2 = All-from_recursion (λ (q : PlacedCell). a ≤ q.start) r.zeros
    (row-begins cell_block a r.filled_end r.zeros r.end (omega (arith, cost.0)) is.zeros_stack.least) in
    let ends2 = All-from_recursion (λ (q : PlacedCell). end_of_cell q ≤ r.end) r.zeros
    (row-ends cell_block r.filled_end r.zeros r.end is.zeros_stack.least) in
    All-append (InRow n (row_segment (row_at names head n a o) r ∷ rest)) r.filled r.zeros
    (λ k d low. record {
      number = 0;
      is = omega (arith, (ranks1 k d low).0, (ranks1 k d low).1);
      low = omega arith;
      segment = row_segment (row_at names head n a o) r;
      at = refl;
      begins = begins1 k d low;
      ends = omega (arith, ends1 k d low, up, cost.0, cost.1);
      filled = λ _. omega (arith, ends1 k d low, up2, cost.0);
    })
    (λ k d low. record {
      number = 0;
      is = omega (arith, (ranks2 k d low).0, (ranks2 k d low).1);
      low = omega arith;
      segment = row_segment (row_at names head n a o) r;
      at = refl;
      begins = begins2 k d low;
      ends = omega (arith, ends2 k d low, up, cost.0, cost.1);
      filled = λ small. absurd (omega (arith, small, (ranks2 k d low).0, (ranks2 k d low).1));
    })

in_later : (n : ℕ) (s : PlacedSegment) (segments : List PlacedSegment) (q : PlacedCell) → InRow (n + 1) segments q → InRow n
    (s ∷ segments) q
in_later n s segments q h = record {
  number = suc h.number;
  is = omega (arith, h.is);
  low = omega (arith, h.low);
  segment = h.segment;
  at = h.at;
  begins = h.begins;
  ends = h.ends;
  filled = h.filled;
}

-- each cell lies in the segment of its rank
pub rows_hold : (names : List SegmentName) (cells : List Cell) (head n a o : ℕ) (rs : List RowCells) (a' o' : ℕ)
    → RowsFrom names cells head n a o rs a' o'
    → All (InRow n (segments_from names head n a o rs)) (flat_map cells_in_row rs)
rows_hold names cells head n a o [] a' o' h = All-nil (InRow n [])
rows_hold names cells head n a o (r ∷ rs) a' o' h =
    let rest : List PlacedSegment = segments_from names head (n + 1) (next_page a r.end)
    (o + rounded_up SEGMENT_PAGE (r.filled_end - a)) rs in
    let s : PlacedSegment = row_segment (row_at names head n a o) r in
    All-append (InRow n (segments_from names head n a o (r ∷ rs))) (cells_in_row r) (flat_map cells_in_row rs)
    (in_first names cells head n a o r (segments_from names head (n + 1) (next_page a r.end)
    (o + rounded_up SEGMENT_PAGE (r.filled_end - a)) rs) h.0)
    (All-weaker (InRow (n + 1) (segments_from names head (n + 1) (next_page a r.end) (o + rounded_up SEGMENT_PAGE (r.filled_end - a)) rs))
    (InRow n (segments_from names head n a o (r ∷ rs)))
    (λ q k. in_later n (row_segment (row_at names head n a o) r) (segments_from names head (n + 1) (next_page a r.end)
    (o + rounded_up SEGMENT_PAGE (r.filled_end - a)) rs) q k)
    (flat_map cells_in_row rs) (rows_hold names cells head (n + 1) (next_page a r.end)
    (o + rounded_up SEGMENT_PAGE (r.filled_end - a)) rs a' o' h.1))
