-- The tables fit.
--
-- A row behind the first one has a file part of at most what its cells cost and less than a page; its pages are that over a page.
-- The first row is `__TEXT`, in which the loader writes no pointers. So the pages of fixups are at most what all cells cost,
-- over a page, and one for each row. The sum counts two bytes for each page of what the parts have, and two pages for
-- each segment, of which a row takes less than one; the others pay for the alignments of what the linker makes.
use Rattle.std.proofs.Common.{◌≡◌, ℕ, ◌+◌, ◌*◌, ◌-◌, ◌/◌, ◌^◌, ◌<◌, ◌≤◌, if◌then◌else◌, Bool, true, false, cond, List, [], ◌∷◌, length, get_or, sum_by, refl, ap, ◌∙◌, arith}
use Rattle.std.proofs.lemmas.Bool.{ne_eqb}
use Rattle.std.proofs.lemmas.List.Sums.{sum_by-cons}
use Rattle.macho_bytes.specs.Numbers.{rounded_up}
use Rattle.macho_records.specs.declared.segments.SegmentName.{SegmentName}
use Rattle.macho_model.specs.declared.placed.Counts.{Counts}
use Rattle.macho_model.specs.declared.placed.PlacedSegment.{PlacedSegment}
use Rattle.macho_model.specs.Segments.{TEXT, SEGMENT_PAGE, one_if}
use Rattle.macho_stack.specs.declared.members.Extent.{Extent}
use Rattle.macho_stack.specs.declared.place.Cell.{Cell}
use Rattle.macho_stack.specs.declared.place.PlacedCell.{PlacedCell}
use Rattle.macho_stack.specs.Costs.{extent_cost}
use Rattle.macho_stack.specs.Ranks.{cell_cost, of_ranks}
use Rattle.macho_stack.proofs.Ranks.{ranks-cost}
use Rattle.macho_layout.specs.Plans.{Planning}
use Rattle.macho_layout.specs.Keys.{padded}
use Rattle.macho_layout.specs.Names.{mapped_names}
use Rattle.macho_layout.specs.Cells.{cells_of}
use Rattle.macho_stack.specs.Rows.{RowCells, row_segment, row_at, front_at, RowsFrom, segments_from, AreRows}
use Rattle.macho_layout.specs.Places.{is_pointer_segment, segment_pages, row_pages}
use Rattle.macho_layout.specs.Sums.{members_cost, written_sum, head_size, base_of, FitsLimits}
use Rattle.std.proofs.lemmas.Nat.{div-mul-add}
use Rattle.macho_stack.specs.Tables.{tables_cost, tables_at, symbols_start, signature_start}
use Rattle.macho_stack.proofs.RowSteps.{parts-cost, paged-near, row-cost}
use Rattle.macho_layout.proofs.Rooms.{cells-cost}
use Rattle.macho_model.specs.Rooms.{fixup_room}
use Rattle.macho_bytes.proofs.Rounding.{rounded-above, rounded-near}

-- a segment has no more pages than its file part
pages-most : (s : PlacedSegment) → 0x4000 * segment_pages s ≤ s.file_size
pages-most s = by (is_pointer_segment s)
  where
    by : (b : Bool) → 0x4000 * (cond b (s.file_size / SEGMENT_PAGE) 0) ≤ s.file_size
    by true = omega arith
    by false = omega arith

-- the pages of rows behind the first one
pages_from : (names : List SegmentName) (cells : List Cell) (head n a o : ℕ) (rs : List RowCells) (a' o' : ℕ) → 1 ≤ n
    → RowsFrom names cells head n a o rs a' o'
    → 0x4000 * row_pages (segments_from names head n a o rs) ≤ sum_by cell_cost
    (of_ranks (9 * n) (9 * length rs) cells) + 0x4000 * length rs
pages_from names cells head n a o [] a' o' some h = omega arith
pages_from names cells head n a o (r ∷ rs) a' o' some h =
    let s : PlacedSegment = row_segment (row_at names head n a o) r in
    let a2 : ℕ = a + rounded_up SEGMENT_PAGE (r.end - a) in
    let o2 : ℕ = o + rounded_up SEGMENT_PAGE (r.filled_end - a) in
    let rest = pages_from names cells head (n + 1) (a + rounded_up SEGMENT_PAGE (r.end - a))
    (o + rounded_up SEGMENT_PAGE (r.filled_end - a)) rs a' o' (omega arith) h.1 in
    let cost = row-cost cells (row_at names head n a o) r h.0 in
    let front : front_at head n ≡ 0 = ap (λ (t : Bool). if t then head else 0) (ne_eqb n 0 (λ e. omega arith)) in
    let long : 9 * length (r ∷ rs) ≡ 9 + 9 * length rs = omega arith in
    let place : 9 * n + 9 ≡ 9 * (n + 1) = omega arith in
    let parts : sum_by cell_cost (of_ranks (9 * n) (9 * length (r ∷ rs)) cells) ≡ sum_by cell_cost
    (of_ranks (9 * n) 9 cells) + sum_by cell_cost (of_ranks (9 * (n + 1)) (9 * length rs) cells)
    = ap (λ (k : ℕ). sum_by cell_cost (of_ranks (9 * n) k cells)) long ∙ parts-cost (9 * n) 9 (9 * length rs) cells
    ∙ ap (λ (k : ℕ). sum_by cell_cost (of_ranks (9 * n) 9 cells) + sum_by cell_cost (of_ranks k (9 * length rs) cells)) place in
    omega (
      arith,
      sum_by-cons segment_pages (row_segment (row_at names head n a o) r)
          (segments_from names head (n + 1) (a + rounded_up SEGMENT_PAGE (r.end - a)) (o + rounded_up SEGMENT_PAGE (r.filled_end - a)) rs),
      rest,
      cost.0,
      cost.1,
      cost.2,
      front,
      parts,
      pages-most (row_segment (row_at names head n a o) r),
      paged-near (r.filled_end - a),
    )

-- the first of the mapped segments is `__TEXT`
pub first_is_text : (p : Planning) (d : SegmentName) → get_or (mapped_names p) 0 d ≡ padded TEXT
unfolding mapped_names
first_is_text p d = refl

pub names_some : (p : Planning) → 1 ≤ length (mapped_names p)
unfolding mapped_names
names_some p = omega arith

-- the pages of all rows
rows_pages : (p : Planning) (cells : List Cell) (base head : ℕ) (rs : List RowCells) (a' o' : ℕ) → RowsFrom
    (mapped_names p) cells head 0 base 0 rs a' o'
    → 0x4000 * row_pages (segments_from (mapped_names p) head 0 base 0 rs) ≤ sum_by cell_cost
    (of_ranks 0 (9 * length rs) cells) + 0x4000 * length rs
rows_pages p cells base head [] a' o' h = omega arith
rows_pages p cells base head (r ∷ rs) a' o' h =
    let names : List SegmentName = mapped_names p in
    let rest = pages_from (mapped_names p) cells head 1 (base + rounded_up SEGMENT_PAGE (r.end - base))
    (0 + rounded_up SEGMENT_PAGE (r.filled_end - base)) rs a' o' (omega arith) h.1 in
    let none : segment_pages (row_segment (row_at (mapped_names p) head 0 base 0) r) ≡ 0
    = ap (λ (n : SegmentName). segment_pages (record {
      name = n;
      address = base;
      size = rounded_up SEGMENT_PAGE
          (r.end - base);
      file_offset = 0;
      file_size = rounded_up SEGMENT_PAGE (r.filled_end - base);
    })) (first_is_text p (padded [])) in
    let long : 9 * length (r ∷ rs) ≡ 9 + 9 * length rs = omega arith in
    let parts : sum_by cell_cost (of_ranks 0 (9 * length (r ∷ rs)) cells) ≡ sum_by cell_cost (of_ranks 0 9 cells) + sum_by cell_cost
    (of_ranks 9 (9 * length rs) cells)
    = ap (λ (k : ℕ). sum_by cell_cost (of_ranks 0 k cells)) long ∙ parts-cost 0 9 (9 * length rs) cells in
    omega (
      arith,
      sum_by-cons segment_pages (row_segment (row_at (mapped_names p) head 0 base 0) r)
          (segments_from (mapped_names p) head 1 (base + rounded_up SEGMENT_PAGE (r.end - base))
          (0 + rounded_up SEGMENT_PAGE (r.filled_end - base)) rs),
      rest,
      none,
      parts,
    )

-- the tables fit
pub tables_room : (p : Planning) (counts : Counts) (extents : List Extent) (segments : List PlacedSegment) (placed : List PlacedCell)
    (address offset : ℕ)
    → FitsLimits p counts → sum_by extent_cost extents ≤ members_cost p
    → AreRows (mapped_names p) (cells_of p counts (mapped_names p) extents) (base_of p) (head_size p counts)
    (length (mapped_names p)) segments placed address offset
    → tables_cost counts offset (row_pages segments) + base_of p + 0x4000 < 2 ^ 64
tables_room p counts extents segments placed address offset fits less h =
    let cells : List Cell = cells_of p counts (mapped_names p) extents in
    let pages = rows_pages p (cells_of p counts (mapped_names p) extents) (base_of p) (head_size p counts) h.rows address offset h.stand in
    let same = ap row_pages h.segments_are in
    let some = names_some p in
    let all = cells-cost p counts (mapped_names p) extents in
    let few = ranks-cost cell_cost (9 * length (mapped_names p)) (cells_of p counts (mapped_names p) extents) in
    let rows = ranks-cost cell_cost (9 * length h.rows) (cells_of p counts (mapped_names p) extents) in
    let low : base_of p ≤ 2 ^ 32 = by p.executable in
    let one : one_if p.executable ≤ 1 = small p.executable in
    omega (arith, pages, same, some, all, few, rows, low, one, fits.sum, fits.segments, less, h.within, h.file_within, h.many)
  where
    by : (b : Bool) → (if b then 0x100000000 else 0) ≤ 2 ^ 32
    by true = omega arith
    by false = omega arith

    small : (b : Bool) → one_if b ≤ 1
    small true = omega arith
    small false = omega arith

-- the rows fit
pub rows_room : (p : Planning) (counts : Counts) (extents : List Extent) → FitsLimits p counts → sum_by extent_cost extents ≤ members_cost p
    → base_of p + head_size p counts + sum_by cell_cost (cells_of p counts (mapped_names p) extents) + 2 ^ 14 * length
    (mapped_names p) + 2 ^ 15 ≤ 2 ^ 64
rows_room p counts extents fits less =
    let all = cells-cost p counts (mapped_names p) extents in
    let low : base_of p ≤ 2 ^ 32 = by p.executable in
    let one : one_if p.executable ≤ 1 = small p.executable in
    omega (arith, names_some p, all, low, one, fits.sum, fits.segments, less)
  where
    by : (b : Bool) → (if b then 0x100000000 else 0) ≤ 2 ^ 32
    by true = omega arith
    by false = omega arith

    small : (b : Bool) → one_if b ≤ 1
    small true = omega arith
    small false = omega arith

-- as many segments as rows
segments_many : (names : List SegmentName) (head n a o : ℕ) (rs : List RowCells) → length (segments_from names head n a o rs) ≡ length rs
segments_many names head n a o [] = refl
segments_many names head n a o (r ∷ rs) = omega (
  arith,
  segments_many names head (n + 1) (a + rounded_up SEGMENT_PAGE (r.end - a))
      (o + rounded_up SEGMENT_PAGE (r.filled_end - a)) rs,
)

pub rows_many : (names : List SegmentName) (cells : List Cell) (base head count : ℕ) (segments : List PlacedSegment)
    (placed : List PlacedCell) (address offset : ℕ)
    → AreRows names cells base head count segments placed address offset → length segments ≡ count
rows_many names cells base head count segments placed address offset h = ap length h.segments_are ∙ segments_many names head 0 base 0 h.rows
    ∙ h.many

-- the signature ends where the tables' cost says, or before
pub tables_end_low : (counts : Counts) (offset pages : ℕ) → (offset ≤ (tables_at counts offset pages).signature.end) ×
    ((tables_at counts offset pages).signature.end ≤ tables_cost counts offset pages)
tables_end_low counts offset pages =
    let entries = rounded-near 8 (188 + counts.import_size * counts.imports + counts.name_bytes) (omega arith) in
    let room = rounded-near 8 (2 * pages) (omega arith) in
    let symbols = rounded-near 8 (offset + fixup_room counts pages + counts.trie) (omega arith) in
    let symbols2 = rounded-above 8 (offset + fixup_room counts pages + counts.trie) (omega arith) in
    let signature = rounded-near 16 (symbols_start counts offset pages + 16 * counts.symbols + counts.strings) (omega arith) in
    let signature2 = rounded-above 16 (symbols_start counts offset pages + 16 * counts.symbols + counts.strings) (omega arith) in
    let limit : ℕ = signature_start counts offset pages in
    let digests : rounded_up 4096 (signature_start counts offset pages) / 4096 ≡ (signature_start counts offset pages + 4095) / 4096
    = shr-whole (signature_start counts offset pages) in
    (omega (arith, symbols2, signature2), omega (arith, entries, room, symbols, signature, digests))
  where
    shr-whole : (n : ℕ) → rounded_up 4096 n / 4096 ≡ (n + 4095) / 4096
    shr-whole n = ap (λ (k : ℕ). k / 4096) (omega arith) ∙ div-mul-add ((n + 4095) / 4096) 4096 0 (omega arith)

-- the tables end within the sum, a page before it
pub tables_within : (p : Planning) (counts : Counts) (extents : List Extent) (segments : List PlacedSegment) (placed : List PlacedCell)
    (address offset : ℕ)
    → FitsLimits p counts → sum_by extent_cost extents ≤ members_cost p
    → AreRows (mapped_names p) (cells_of p counts (mapped_names p) extents) (base_of p) (head_size p counts)
    (length (mapped_names p)) segments placed address offset
    → address - offset + tables_cost counts offset (row_pages segments) + 0x4000 ≤ base_of p + written_sum p counts
tables_within p counts extents segments placed address offset fits less h =
    let pages = rows_pages p (cells_of p counts (mapped_names p) extents) (base_of p) (head_size p counts) h.rows address offset h.stand in
    let same = ap row_pages h.segments_are in
    let some = names_some p in
    let all = cells-cost p counts (mapped_names p) extents in
    let few = ranks-cost cell_cost (9 * length (mapped_names p)) (cells_of p counts (mapped_names p) extents) in
    let rows = ranks-cost cell_cost (9 * length h.rows) (cells_of p counts (mapped_names p) extents) in
    omega (arith, pages, same, some, all, few, rows, fits.segments, less, h.within, h.file_within, h.many)
