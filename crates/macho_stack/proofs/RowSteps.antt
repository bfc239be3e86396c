-- Rows, one row more.
--
-- The cells of a row stand behind its front, first those with bytes in the file. The row ends no later than what its front and its
-- cells need; rounding to a page adds less than a page. The ranks of the next row follow those of the rows so far, so its
-- cells are the next ones, and together they cost what all ranks so far do. The file part of a row is no longer than its
-- memory, so offsets grow no faster than addresses.
use Rattle.std.proofs.Common.{◌≡◌, ℕ, ◌+◌, ◌*◌, ◌-◌, ◌/◌, ◌^◌, ◌<◌, ◌≤◌, if◌then◌else◌, Bool, List, [], ◌∷◌, ◌++◌, length, map, get_or, sum_by, refl, sym, ap, ◌∙◌, subst, arith}
use Rattle.std.specs.List.{flat_map}
use Rattle.std.specs.Int.{next_multiple_of}
use Rattle.std.proofs.lemmas.Nat.{div-add-mod', le-div, mul-le}
use Rattle.std.proofs.lemmas.Bool.{ne_eqb}
use Rattle.std.proofs.lemmas.List.{append-nil, append_assoc, map-append, length_push, get_or_default}
use Rattle.std.proofs.lemmas.List.Concat.{flat_map-append}
use Rattle.std.proofs.lemmas.List.Sums.{sum_by-append}
use Rattle.macho_bytes.specs.Numbers.{rounded_up}
use Rattle.macho_bytes.proofs.Rounding.{next_multiple_of-is, rounded-near}
use Rattle.macho_records.specs.declared.segments.SegmentName.{SegmentName}
use Rattle.macho_model.specs.declared.placed.PlacedSegment.{PlacedSegment}
use Rattle.macho_model.specs.Segments.{SEGMENT_PAGE}
use Rattle.macho_stack.specs.declared.place.Cell.{Cell}
use Rattle.macho_stack.specs.declared.place.PlacedCell.{PlacedCell}
use Rattle.macho_stack.specs.Ranks.{cell_block, cell_cost, of_ranks, AddsCells}
use Rattle.macho_stack.proofs.StackRows.{row-rises}
use Rattle.macho_stack.proofs.Ranks.{of_ranks-append, of_ranks-none, ranks-cost}
use Rattle.macho_stack.proofs.Adding.{adds-within}
use Rattle.macho_stack.specs.declared.rows.Row.{Row}
use Rattle.macho_stack.specs.Rows.{padded, RowCells, cells_in_row, row_segment, IsRow, AddsRow, row_at, front_at, RowsFrom, segments_from, AreRows}

-- what is rounded keeps its order
pub rounded-mono : (k a b : ℕ) → 0 < k → a ≤ b → rounded_up k a ≤ rounded_up k b
rounded-mono k a b some less =
    let low = div-add-mod' (a + (k - 1)) k in
    mul-le ((a + (k - 1)) / k) k ((b + (k - 1)) / k) k (le-div ((a + (k - 1)) / k) (b + (k - 1)) k some (omega (arith, low))) (omega arith)

-- so many ranks cost what their parts do
pub parts-cost : (first a b : ℕ) (cells : List Cell) → sum_by cell_cost (of_ranks first (a + b) cells) ≡ sum_by cell_cost
    (of_ranks first a cells) + sum_by cell_cost (of_ranks (first + a) b cells)
parts-cost first a b cells = ap (sum_by cell_cost) (of_ranks-append first a b cells) ∙ sum_by-append cell_cost (of_ranks first a cells)
    (of_ranks (first + a) b cells)

-- cells that are added begin and end in order
pub adds-rises : (cells : List Cell) (start : ℕ) (old new : List PlacedCell) (end : ℕ) → AddsCells cells start old new end → start ≤ end
adds-rises cells start old new end a = row-rises start (map cell_block a.added) end a.stack.least

-- where the cells of a row end
pub record SpansRow (cells : List Cell) (first start middle end : ℕ) : Type 0 where
  pub low : start ≤ middle
  pub high : middle ≤ end
  pub near : end ≤ start + sum_by cell_cost (of_ranks first 9 cells)
  pub room : middle + sum_by cell_cost (of_ranks (first + 6) 3 cells) ≤ start + sum_by cell_cost (of_ranks first 9 cells)

pub spans_row : (cells : List Cell) (first start middle end : ℕ) (old now new : List PlacedCell) → AddsCells
    (of_ranks first 6 cells) start old now middle
    → AddsCells (of_ranks (first + 6) 3 cells) middle now new end → SpansRow cells first start middle end
spans_row cells first start middle end old now new a b =
    let whole = parts-cost first 6 3 cells in
    let one = adds-within (of_ranks first 6 cells) start old now middle a in
    let two = adds-within (of_ranks (first + 6) 3 cells) middle now new end b in
    record {
      low = adds-rises (of_ranks first 6 cells) start old now middle a;
      high = adds-rises (of_ranks (first + 6) 3 cells) middle now new end b;
      near = omega (arith, whole, one, two);
      room = omega (arith, whole, one);
    }

-- the room in front of the cells without bytes
pub room_of_zeros : (cells : List Cell) (first start middle : ℕ) (old now : List PlacedCell) → AddsCells
    (of_ranks first 6 cells) start old now middle
    → middle + sum_by cell_cost (of_ranks (first + 6) 3 cells) ≤ start + sum_by cell_cost (of_ranks first 9 cells)
room_of_zeros cells first start middle old now a =
    omega (arith, parts-cost first 6 3 cells, adds-within (of_ranks first 6 cells) start old now middle a)

-- a number of bytes rounded to pages, by std's word
pub paged : (n : ℕ) → next_multiple_of n 0x4000 ≡ rounded_up SEGMENT_PAGE n
paged n = next_multiple_of-is n 0x4000 (omega arith)

pub paged-near : (n : ℕ) → rounded_up SEGMENT_PAGE n ≤ n + 0x3fff
paged-near n = rounded-near 0x4000 n (omega arith)

-- a row as its two calls place it
pub adds_row : (cells : List Cell) (row : Row) (old now new : List PlacedCell) (middle end size file_size : ℕ) → AddsCells
    (of_ranks (9 * row.number) 6 cells) (row.address + row.front) old now middle
    → AddsCells (of_ranks (9 * row.number + 6) 3 cells) middle now new end → size ≡ rounded_up SEGMENT_PAGE (end - row.address)
    → file_size ≡ rounded_up SEGMENT_PAGE (middle - row.address)
    → AddsRow cells row old new (record {
      name = row.name;
      address = row.address;
      size = size;
      file_offset = row.offset;
      file_size =
          file_size;
    })
adds_row cells row old now new middle end size file_size a b long file = record {
  row_cells = record { filled = a.added; zeros = b.added; filled_end = middle; end = end };
  is_row = record { filled_same = a.same; filled_stack = a.stack; zeros_same = b.same; zeros_stack = b.stack };
  are = b.are ∙ ap (λ (qs : List PlacedCell). qs ++ b.added) a.are ∙ append_assoc old a.added b.added;
  segment = ap (λ (n : ℕ). record { name = row.name; address = row.address; size = n; file_offset = row.offset; file_size = file_size })
      long
      ∙ ap (λ (n : ℕ). record {
        name = row.name;
        address = row.address;
        size = rounded_up SEGMENT_PAGE
            (end - row.address);
        file_offset = row.offset;
        file_size = n;
      }) file;
}

-- no row
pub rows_none : (names : List SegmentName) (cells : List Cell) (base head : ℕ) → AreRows names cells base head 0 [] [] base 0
rows_none names cells base head = record {
  rows = [];
  many = refl;
  stand = (refl, refl);
  segments_are = refl;
  placed_are = refl;
  same = sym (of_ranks-none 0 cells);
  within = omega arith;
  file_within = omega arith;
}

-- one row more behind rows
rows_push : (names : List SegmentName) (cells : List Cell) (head n a o : ℕ) (rs : List RowCells) (a' o' : ℕ) (r : RowCells)
    → RowsFrom names cells head n a o rs a' o'
    → IsRow cells (row_at names head (n + length rs) a' o') r
    → RowsFrom names cells head n a o (rs ++ r ∷ []) (a' + rounded_up SEGMENT_PAGE (r.end - a'))
    (o' + rounded_up SEGMENT_PAGE (r.filled_end - a'))
rows_push names cells head n a o [] a' o' r h is =
    let number : n + 0 ≡ n = omega arith in
    let place = subst (λ (k : ℕ). IsRow cells (row_at names head k a' o') r) number is in
    let address = subst (λ (k : ℕ). IsRow cells (row_at names head n k o') r) (sym h.0) place in
    let offset = subst (λ (k : ℕ). IsRow cells (row_at names head n a k) r) (sym h.1) address in (
      offset,
      (
        ap (λ (k : ℕ). k + rounded_up SEGMENT_PAGE (r.end - k)) h.0,
        ap (λ (k : ℕ). o + rounded_up SEGMENT_PAGE (r.filled_end - k)) h.0 ∙ ap
            (λ (k : ℕ). k + rounded_up SEGMENT_PAGE (r.filled_end - a')) h.1,
      ),
    )
rows_push names cells head n a o (x ∷ rs) a' o' r h is =
    let number : n + length (x ∷ rs) ≡ n + 1 + length rs = omega arith in (
      h.0,
      rows_push names cells head (n + 1) (a + rounded_up SEGMENT_PAGE (x.end - a))
          (o + rounded_up SEGMENT_PAGE (x.filled_end - a)) rs a' o' r h.1
          (subst (λ (k : ℕ). IsRow cells (row_at names head k a' o') r) number is),
    )

segments_push : (names : List SegmentName) (cells : List Cell) (head n a o : ℕ) (rs : List RowCells) (a' o' : ℕ) (r : RowCells)
    → RowsFrom names cells head n a o rs a' o'
    → segments_from names head n a o (rs ++ r ∷ []) ≡ segments_from names head n a o rs ++ row_segment
    (row_at names head (n + length rs) a' o') r ∷ []
segments_push names cells head n a o [] a' o' r h =
    let number : n ≡ n + 0 = omega arith in
    ap (λ (k : ℕ). row_segment (row_at names head k a o) r ∷ []) number ∙ ap
    (λ (k : ℕ). row_segment (row_at names head (n + 0) k o) r ∷ []) h.0
    ∙ ap (λ (k : ℕ). row_segment (row_at names head (n + 0) a' k) r ∷ []) h.1
segments_push names cells head n a o (x ∷ rs) a' o' r h =
    let number : n + 1 + length rs ≡ n + length (x ∷ rs) = omega arith in
    ap (λ (ss : List PlacedSegment). row_segment (row_at names head n a o) x ∷ ss)
    (segments_push names cells head (n + 1) (a + rounded_up SEGMENT_PAGE (x.end - a))
    (o + rounded_up SEGMENT_PAGE (x.filled_end - a)) rs a' o' r h.1
    ∙ ap (λ (k : ℕ). segments_from names head (n + 1) (a + rounded_up SEGMENT_PAGE (x.end - a))
    (o + rounded_up SEGMENT_PAGE (x.filled_end - a)) rs ++ row_segment (row_at names head k a' o') r ∷ []) number)

-- what a row's end costs, from its cells
pub row-cost : (cells : List Cell) (row : Row) (r : RowCells) → IsRow cells row r
    → (row.address ≤ r.filled_end) × (r.filled_end ≤ r.end) × (r.end ≤ row.address + row.front + sum_by cell_cost
    (of_ranks (9 * row.number) 9 cells))
row-cost cells row r is =
    let a : AddsCells (of_ranks (9 * row.number) 6 cells) (row.address + row.front) [] r.filled r.filled_end
    = record { added = r.filled; are = refl; same = is.filled_same; stack = is.filled_stack } in
    let b : AddsCells (of_ranks (9 * row.number + 6) 3 cells) r.filled_end r.filled (r.filled ++ r.zeros) r.end
    = record { added = r.zeros; are = refl; same = is.zeros_same; stack = is.zeros_stack } in
    let s = spans_row cells (9 * row.number) (row.address + row.front) r.filled_end r.end [] r.filled (r.filled ++ r.zeros) a b in
    (omega (arith, s.low), s.high, s.near)

-- the ranks of the next row stand behind those so far
next_ranks : (n : ℕ) (cells : List Cell) → of_ranks 0 (9 * (n + 1)) cells ≡ of_ranks 0 (9 * n) cells ++ of_ranks (9 * n) 9 cells
next_ranks n cells =
    let next : 9 * (n + 1) ≡ 9 * n + 9 = omega arith in
    let first : 0 + 9 * n ≡ 9 * n = omega arith in
    ap (λ (k : ℕ). of_ranks 0 k cells) next ∙ of_ranks-append 0 (9 * n) 9 cells ∙ ap
    (λ (k : ℕ). of_ranks 0 (9 * n) cells ++ of_ranks k 9 cells) first

next-cost : (n : ℕ) (cells : List Cell) → sum_by cell_cost (of_ranks 0 (9 * (n + 1)) cells) ≡ sum_by cell_cost
    (of_ranks 0 (9 * n) cells) + sum_by cell_cost (of_ranks (9 * n) 9 cells)
next-cost n cells = ap (sum_by cell_cost) (next_ranks n cells) ∙ sum_by-append cell_cost (of_ranks 0 (9 * n) cells)
    (of_ranks (9 * n) 9 cells)

-- one row more
pub rows_more : (names : List SegmentName) (cells : List Cell) (base head n : ℕ) (segments : List PlacedSegment)
    (placed new : List PlacedCell) (address offset : ℕ)
    (s : PlacedSegment) → AreRows names cells base head n segments placed address offset → AddsRow cells
    (row_at names head n address offset) placed new s
    → AreRows names cells base head (n + 1) (segments ++ s ∷ []) new (address + s.size) (offset + s.file_size)
rows_more names cells base head n segments placed new address offset s h b =
    let r : RowCells = b.row_cells in
    let row : Row = row_at names head n address offset in
    let number : 0 + length h.rows ≡ n = omega (arith, h.many) in
    let is : IsRow cells (row_at names head (0 + length h.rows) address offset) b.row_cells
    = subst (λ (k : ℕ). IsRow cells (row_at names head k address offset) b.row_cells) (sym number) b.is_row in
    let cost = row-cost cells (row_at names head n address offset) b.row_cells b.is_row in
    let size : s.size ≡ rounded_up SEGMENT_PAGE (b.row_cells.end - address) = ap (λ (x : PlacedSegment). x.size) b.segment in
    let file : s.file_size ≡ rounded_up SEGMENT_PAGE (b.row_cells.filled_end - address) = ap
    (λ (x : PlacedSegment). x.file_size) b.segment in
    let later : front_at head (n + 1) ≡ 0 = ap (λ (t : Bool). if t then head else 0) (ne_eqb (n + 1) 0 (λ e. omega arith)) in
    let sums = next-cost n cells in
    record {
      rows = h.rows ++ b.row_cells ∷ [];
      many = length_push h.rows b.row_cells ∙ ap (λ (k : ℕ). k + 1) h.many;
      stand = subst (λ (k : ℕ). RowsFrom names cells head 0 base 0 (h.rows ++ b.row_cells ∷ []) (address + k) (offset + s.file_size))
          (sym size)
          (subst (λ (k : ℕ). RowsFrom names cells head 0 base 0 (h.rows ++ b.row_cells ∷ [])
          (address + rounded_up SEGMENT_PAGE (b.row_cells.end - address)) (offset + k)) (sym file)
          (rows_push names cells head 0 base 0 h.rows address offset b.row_cells h.stand is));
      segments_are = ap (λ (x : PlacedSegment). segments ++ x ∷ [])
          (b.segment ∙ ap (λ (k : ℕ). row_segment (row_at names head k address offset) b.row_cells) (sym number))
          ∙ ap (λ (ss : List PlacedSegment). ss ++ row_segment (row_at names head (0 + length h.rows) address offset) b.row_cells ∷ [])
          h.segments_are
          ∙ sym (segments_push names cells head 0 base 0 h.rows address offset b.row_cells h.stand);
      placed_are = b.are ∙ ap (λ (qs : List PlacedCell). qs ++ cells_in_row b.row_cells) h.placed_are
          ∙ sym (flat_map-append cells_in_row h.rows (b.row_cells ∷ []) ∙ ap (λ (qs : List PlacedCell). flat_map cells_in_row h.rows ++ qs)
          (append-nil (cells_in_row b.row_cells)));
      same = ap (map (λ (q : PlacedCell). q.cell)) b.are ∙ map-append (λ (q : PlacedCell). q.cell) placed (cells_in_row b.row_cells)
          ∙ ap (λ (cs : List Cell). cs ++ map (λ (q : PlacedCell). q.cell) (cells_in_row b.row_cells)) h.same
          ∙ ap (λ (cs : List Cell). of_ranks 0 (9 * n) cells ++ cs) (map-append
          (λ (q : PlacedCell). q.cell) b.row_cells.filled b.row_cells.zeros
          ∙ ap (λ (cs : List Cell). cs ++ map (λ (q : PlacedCell). q.cell) b.row_cells.zeros) b.is_row.filled_same
          ∙ ap (λ (cs : List Cell). of_ranks (9 * n) 6 cells ++ cs) b.is_row.zeros_same ∙ sym (of_ranks-append (9 * n) 6 3 cells))
          ∙ sym (next_ranks n cells);
      within = omega (arith, h.within, cost.0, cost.1, cost.2, size, later, sums, paged-near (b.row_cells.end - address));
      file_within = omega (
        arith,
        h.file_within,
        size,
        file,
        rounded-mono 0x4000 (b.row_cells.filled_end - address)
            (b.row_cells.end - address) (omega arith) (omega (arith, cost.1)),
      );
    }

-- the room of the next row
pub row_room : (names : List SegmentName) (cells : List Cell) (base head n count : ℕ) (segments : List PlacedSegment)
    (placed : List PlacedCell) (address offset : ℕ)
    → n < count → base + head + sum_by cell_cost cells + 2 ^ 14 * count + 2 ^ 15 ≤ 2 ^ 64
    → AreRows names cells base head n segments placed address offset
    → address + front_at head n + sum_by cell_cost (of_ranks (9 * n) 9 cells) + 2 ^ 15 ≤ 2 ^ 64
row_room names cells base head n count segments placed address offset low fits h =
    omega (arith, h.within, next-cost n cells, ranks-cost cell_cost (9 * (n + 1)) cells, low, fits)

-- a row as the code has it is that of its number
row_is : (names : List SegmentName) (head n address offset : ℕ) (d : SegmentName) (front : ℕ) → n < length names → front ≡ front_at head n
    → record { name = get_or names n d; number = n; front = front; address = address; offset = offset } ≡ row_at names head n address offset
row_is names head n address offset d front low is =
    ap (λ (f : ℕ). record { name = get_or names n d; number = n; front = f; address = address; offset = offset }) is
    ∙ ap (λ (x : SegmentName). record { name = x; number = n; front = front_at head n; address = address; offset = offset })
    (get_or_default names n d (padded []) low)

-- what holds behind the next row
pub record AfterRow (names : List SegmentName) (cells : List Cell) (base head n : ℕ) (segments : List PlacedSegment) (new : List PlacedCell)
    (address offset : ℕ) (s : PlacedSegment) : Type 0 where
  pub rows : AreRows names cells base head (n + 1) (segments ++ s ∷ []) new (address + s.size) (offset + s.file_size)
  pub address_fits : address + s.size < 2 ^ 64
  pub offset_fits : offset + s.file_size < 2 ^ 64

pub after_row : (names : List SegmentName) (cells : List Cell) (base head n : ℕ) (segments : List PlacedSegment)
    (placed new : List PlacedCell) (address offset : ℕ)
    (d : SegmentName) (front : ℕ) (s : PlacedSegment) → n < length names → front ≡ front_at head n
    → base + head + sum_by cell_cost cells + 2 ^ 14 * length names + 2 ^ 15 ≤ 2 ^ 64
    → AreRows names cells base head n segments placed address offset
    → AddsRow cells (record { name = get_or names n d; number = n; front = front; address = address; offset = offset }) placed new s
    → AfterRow names cells base head n segments new address offset s
after_row names cells base head n segments placed new address offset d front s low is fits h b =
    let more = rows_more names cells base head n segments placed new address offset s h
    (subst (λ (row : Row). AddsRow cells row placed new s) (row_is names head n address offset d front low is) b) in
    let all = ranks-cost cell_cost (9 * (n + 1)) cells in
    record {
      rows = more;
      address_fits = omega (arith, more.within, all, fits, low);
      offset_fits = omega (arith, more.within, more.file_within, all, fits, low);
    }
