-- Rows of segments.
use Rattle.std.specs.Prelude.{◌≡◌, ℕ, ◌+◌, ◌*◌, ◌-◌, ◌^◌, ◌≤◌, ◌==◌, if◌then◌else◌, List, [], ◌∷◌, ◌++◌, map, length, get_or, sum_by}
use Rattle.std.specs.List.{flat_map}
use Rattle.macho_bytes.specs.Numbers.{rounded_up}
use Rattle.macho_records.specs.declared.segments.SegmentName.{SegmentName}
use Rattle.macho_model.specs.declared.placed.PlacedSegment.{PlacedSegment}
use Rattle.macho_model.specs.Segments.{SEGMENT_PAGE}
use Rattle.macho_stack.specs.declared.place.Cell.{Cell}
use Rattle.macho_stack.specs.declared.place.PlacedCell.{PlacedCell}
use Rattle.macho_stack.specs.Blocks.{IsStack}
use Rattle.macho_stack.specs.Ranks.{cell_block, cell_cost, of_ranks}
use Rattle.macho_stack.specs.declared.rows.Row.{Row}
use Rattle.macho_records.specs.Segments.{name_field}

-- a name with zeros behind its first NUL
abbrev pub padded : List ℕ → SegmentName
padded name = record { 0 = name_field name }

-- what was placed for a row: output sections with bytes in the file, those without, and where each kind ends
pub record RowCells : Type 0 where
  pub filled : List PlacedCell
  pub zeros : List PlacedCell
  pub filled_end : ℕ
  pub end : ℕ

abbrev pub cells_in_row : RowCells → List PlacedCell
cells_in_row r = r.filled ++ r.zeros

-- the segment of a row
abbrev pub row_segment : Row → RowCells → PlacedSegment
row_segment row r = record {
  name = row.name;
  address = row.address;
  size = rounded_up SEGMENT_PAGE (r.end - row.address);
  file_offset = row.offset;
  file_size = rounded_up SEGMENT_PAGE (r.filled_end - row.address);
}

-- the cells of a row stand one behind the other behind its front
pub record IsRow (cells : List Cell) (row : Row) (r : RowCells) : Type 0 where
  pub filled_same : map (λ q. q.cell) r.filled ≡ of_ranks (9 * row.number) 6 cells
  pub filled_stack : IsStack (row.address + row.front) (map cell_block r.filled) r.filled_end
  pub zeros_same : map (λ q. q.cell) r.zeros ≡ of_ranks (9 * row.number + 6) 3 cells
  pub zeros_stack : IsStack r.filled_end (map cell_block r.zeros) r.end

-- a row was added
pub record AddsRow (cells : List Cell) (row : Row) (old new : List PlacedCell) (s : PlacedSegment) : Type 0 where
  pub row_cells : RowCells
  pub is_row : IsRow cells row row_cells
  pub are : new ≡ old ++ cells_in_row row_cells
  pub segment : s ≡ row_segment row row_cells

-- header and load commands stand in front of the first row
abbrev pub front_at : ℕ → ℕ → ℕ
front_at head number = if number == 0 then head else 0

-- the row of a number
abbrev pub row_at : List SegmentName → ℕ → ℕ → ℕ → ℕ → Row
row_at names head number address offset = record {
  name = get_or names number (padded []);
  number = number;
  front = front_at head number;
  address = address;
  offset = offset;
}

-- rows from a number, an address and a file offset on, each behind the one before
abbrev pub RowsFrom : List SegmentName → List Cell → ℕ → ℕ → ℕ → ℕ → List RowCells → ℕ → ℕ → Type 0
RowsFrom names cells head number address offset [] to_address to_offset = (address ≡ to_address) × (offset ≡ to_offset)
RowsFrom names cells head number address offset (r ∷ rs) to_address to_offset =
    IsRow cells (row_at names head number address offset) r
    × RowsFrom names cells head (number + 1) (address + rounded_up SEGMENT_PAGE (r.end - address))
    (offset + rounded_up SEGMENT_PAGE (r.filled_end - address)) rs to_address to_offset

-- their segments
abbrev pub segments_from : List SegmentName → ℕ → ℕ → ℕ → ℕ → List RowCells → List PlacedSegment
segments_from names head number address offset [] = []
segments_from names head number address offset (r ∷ rs) =
    row_segment (row_at names head number address offset) r
    ∷ segments_from names head (number + 1) (address + rounded_up SEGMENT_PAGE (r.end - address))
    (offset + rounded_up SEGMENT_PAGE (r.filled_end - address)) rs

-- so many rows were placed
pub record AreRows (names : List SegmentName) (cells : List Cell) (base head count : ℕ) (segments : List PlacedSegment)
    (placed : List PlacedCell)
    (address offset : ℕ) : Type 0 where
  pub rows : List RowCells
  pub many : length rows ≡ count
  pub stand : RowsFrom names cells head 0 base 0 rows address offset
  pub segments_are : segments ≡ segments_from names head 0 base 0 rows
  pub placed_are : placed ≡ flat_map cells_in_row rows
  -- all cells of the ranks so far are placed, and the rows are no longer than what they cost
  pub same : map (λ q. q.cell) placed ≡ of_ranks 0 (9 * count) cells
  pub within : address + front_at head count ≤ base + head + sum_by cell_cost (of_ranks 0 (9 * count) cells) + 2 ^ 14 * count
  pub file_within : base + offset ≤ address
