-- Where what is laid out begins and ends.
--
-- The first row has the number 0: its segment is `__TEXT`, at the base. Each table begins where the one before it ends, or
-- at the next multiple of its alignment. The last segment is that of the tables; it begins behind the rows, and its whole
-- pages are less than a page more than what the tables cost, which the sum counts.
use Rattle.std.proofs.Common.{◌≡◌, ℕ, ◌+◌, ◌-◌, ◌≤◌, if◌then◌else◌, Bool, true, false, List, [], ◌∷◌, ◌++◌, length, All, Contains, refl, sym, ap, ◌∙◌, subst, arith}
use Rattle.std.proofs.lemmas.List.Elements.{All-nil, All-cons, All-append, All-push, Contains-append_left, Contains-append_right}
use Rattle.macho_bytes.specs.Numbers.{rounded_up}
use Rattle.macho_records.specs.declared.segments.SegmentName.{SegmentName}
use Rattle.macho_model.specs.declared.placed.PlacedSegment.{PlacedSegment}
use Rattle.macho_model.specs.Segments.{TEXT, SEGMENT_PAGE, list_if, PAGEZERO_SIZE}
use Rattle.macho_model.specs.WrittenSum.{written_sum_of}
use Rattle.macho_model.specs.Placement.{is_segment_named}
use Rattle.macho_layout.specs.Plans.{Planning}
use Rattle.macho_stack.specs.declared.place.Cell.{Cell}
use Rattle.macho_layout.specs.Cells.{cells_of}
use Rattle.macho_layout.specs.Keys.{padded}
use Rattle.macho_layout.specs.Names.{mapped_names}
use Rattle.macho_layout.specs.Places.{row_pages}
use Rattle.macho_stack.specs.Rows.{RowCells, RowsFrom, row_segment, row_at, segments_from}
use Rattle.macho_layout.specs.Sums.{base_of, head_size}
use Rattle.macho_stack.specs.Tables.{tables_at}
use Rattle.macho_layout.specs.Laid.{zero_page, tables_segment}
use Rattle.macho_layout.specs.Laws.{TextIsFirst, EndsWithinSum}
use Rattle.macho_layout.proofs.Costs.{members-cost-is}
use Rattle.macho_layout.proofs.CostLaw.{written_same}
use Rattle.macho_stack.proofs.RowSteps.{paged-near}
use Rattle.macho_layout.proofs.TableRooms.{first_is_text, names_some, tables_within, tables_end_low}
use Rattle.macho_layout.proofs.Whole.{base_is_links}

abbrev EndsBy : ℕ → PlacedSegment → Type 0
EndsBy m s = s.address + s.size ≤ m

-- the rows' segments end where the rows do, at most
rows_end : (names : List SegmentName) (cells : List Cell) (head n a o : ℕ) (rs : List RowCells) (a' o' : ℕ)
    → RowsFrom names cells head n a o rs a' o'
    → (a ≤ a') × ((m : ℕ) → a' ≤ m → All (EndsBy m) (segments_from names head n a o rs))
rows_end names cells head n a o [] a' o' h = (omega (arith, h.0), λ m low. All-nil (EndsBy m))
rows_end names cells head n a o (r ∷ rs) a' o' h =
    let rest = rows_end names cells head (n + 1) (a + rounded_up SEGMENT_PAGE (r.end - a))
    (o + rounded_up SEGMENT_PAGE (r.filled_end - a)) rs a' o' h.1 in (
      omega (arith, rest.0),
      λ m low. All-cons (EndsBy m) (row_segment (row_at names head n a o) r)
          (segments_from names head (n + 1) (a + rounded_up SEGMENT_PAGE (r.end - a)) (o + rounded_up SEGMENT_PAGE (r.filled_end - a)) rs)
          (omega (arith, rest.0, low)) (rest.1 m low),
    )

pub ends_within_sum : EndsWithinSum
ends_within_sum l p counts q plan fits h =
    let room = tables_within p counts h.extents h.segments h.cells h.address h.offset fits
    (omega (arith, h.stacked.within, members-cost-is p)) h.rows in
    let low = tables_end_low counts h.offset (row_pages h.segments) in
    let same = written_same l p counts plan in
    let rows = rows_end (mapped_names p) (cells_of p counts (mapped_names p) h.extents) (head_size p counts) 0
    (base_of p) 0 h.rows.rows h.address h.offset h.rows.stand in
    let within : All (EndsBy (q.base + written_sum_of l counts)) h.segments
    = subst (All (EndsBy (q.base + written_sum_of l counts))) (sym h.rows.segments_are)
    (rows.1 (q.base + written_sum_of l counts) (omega (arith, room, h.from_them.base, same))) in
    let last : h.address + rounded_up SEGMENT_PAGE ((tables_at counts h.offset (row_pages h.segments)).signature.end - h.offset) ≤ q.base +
    written_sum_of l counts
    = omega (
      arith,
      room,
      low.0,
      low.1,
      paged-near ((tables_at counts h.offset (row_pages h.segments)).signature.end - h.offset),
      h.from_them.base,
      same,
    ) in
    let zero : All (EndsBy (q.base + written_sum_of l counts)) (list_if p.executable (zero_page ∷ []))
    = by p.executable (q.base + written_sum_of l counts) (omega (arith, h.from_them.base)) in
    subst (All (EndsBy (q.base + written_sum_of l counts))) (sym h.from_them.segments)
    (All-push (EndsBy (q.base + written_sum_of l counts)) (list_if p.executable (zero_page ∷ []) ++ h.segments)
    (tables_segment h.address h.offset (tables_at counts h.offset (row_pages h.segments)))
    (All-append (EndsBy (q.base + written_sum_of l counts)) (list_if p.executable (zero_page ∷ [])) h.segments zero within) last)
  where
    by : (b : Bool) (m : ℕ) → (if b then PAGEZERO_SIZE else 0) ≤ m → All (EndsBy m) (list_if b (zero_page ∷ []))
    by true m low = All-cons (EndsBy m) zero_page [] (omega (arith, low)) (All-nil (EndsBy m))
    by false m low = All-nil (EndsBy m)

-- the first of the rows
first_row : (p : Planning) (head base : ℕ) (rs : List RowCells) → 1 ≤ length rs
    → (s : PlacedSegment) × Contains (segments_from (mapped_names p) head 0 base 0 rs) s × (is_segment_named TEXT s ≡ true) ×
    (s.address ≡ base)
first_row p head base [] some = absurd (omega arith)
first_row p head base (r ∷ rs) some = (
  row_segment (row_at (mapped_names p) head 0 base 0) r,
  (0, omega arith, refl),
  ap (λ (n : SegmentName). is_segment_named TEXT (record { name = n; address = base; size = 0; file_offset = 0; file_size = 0 }))
      (first_is_text p (padded [])),
  refl,
)

pub text_is_first : TextIsFirst
text_is_first l p counts q plan h =
    let r = first_row p (head_size p counts) (base_of p) h.rows.rows (omega (arith, h.rows.many, names_some p)) in
    let inside : Contains h.segments r.0 = subst (λ (ss : List PlacedSegment). Contains ss r.0) (sym h.rows.segments_are) r.1 in
    let all : Contains q.segments r.0
    = subst (λ (ss : List PlacedSegment). Contains ss r.0) (sym h.from_them.segments)
    (Contains-append_left (list_if p.executable (zero_page ∷ []) ++ h.segments) _ r.0
    (Contains-append_right (list_if p.executable (zero_page ∷ [])) h.segments r.0 inside)) in
    (r.0, all, r.2, r.3 ∙ sym h.from_them.base ∙ base_is_links l p counts q plan h)
