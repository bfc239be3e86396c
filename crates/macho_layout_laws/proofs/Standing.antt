-- Segments as rows of their output sections.
--
-- Each output section of a mapped segment fits its cell, so the pieces around them are the cells of the segment's row: one stack behind the
-- front, up to the end that the segment's size is told from; those with bytes in the file are the ranks below the sixth. `__PAGEZERO` and
-- `__LINKEDIT` have no output sections.
use Rattle.std.proofs.Common.{◌≡◌, ℕ, zero, suc, ◌+◌, ◌*◌, ◌-◌, ◌%◌, ◌^◌, ◌<◌, ◌≤◌, ◌==◌, ◌&&◌, nat_lt, not, if◌then◌else◌, Bool, true, false, List, [], ◌∷◌, ◌++◌, map, filter, length, get_or, All, Contains, refl, sym, ap, ◌∙◌, subst, arith}
use Rattle.std.specs.Str.{bytes_eq}
use Rattle.std.specs.List.{flat_map}
use Rattle.std.proofs.lemmas.Bool.{false≢true, false_from_ne_true, lt-ltb, le-ltb, ltb-true, ne_eqb, and_parts}
use Rattle.std.proofs.lemmas.Slice.Eq.{bytes_eq-Decides}
use Rattle.std.proofs.lemmas.List.{append-nil, map-append, length-append, get_or-map, get_or_default, get_or_append_left, get_or-append-add}
use Rattle.std.proofs.lemmas.List.Elements.{All-nil, All-cons, All-head, All-tail, All-append, All-map, All-weaker, All-filter, All-contains_itself, filter-append}
use Rattle.macho_bytes.specs.Numbers.{rounded_up}
use Rattle.macho_records.specs.declared.segments.SegmentName.{SegmentName}
use Rattle.macho_records.specs.Segments.{text_of}
use Rattle.macho_records.specs.Sections.{is_zerofill_type, has_instructions}
use Rattle.macho_records.specs.declared.constants.TheConstants.{S_THREAD_LOCAL_REGULAR, S_THREAD_LOCAL_ZEROFILL}
use Rattle.macho_model.specs.declared.placed.Counts.{Counts}
use Rattle.macho_model.specs.declared.placed.PlacedSegment.{PlacedSegment}
use Rattle.macho_model.specs.Links.{Link}
use Rattle.macho_model.specs.Targets.{slots_of, stubs_of}
use Rattle.macho_model.specs.Segments.{PAGEZERO, TEXT, DATA_CONST, DATA, LINKEDIT, SEGMENT_PAGE, OutputKey, same_key, common_key, output_keys_of, is_known_segment, other_segments, list_if}
use Rattle.macho_model.specs.Placement.{Placed, head_size as model_head, Piece}
use Rattle.macho_model.specs.steps.Outputs.{OutputSection, Merged, InitOffsets, UnwindInfo, Stubs, Slots, extent_of, merged_in, key_of_output, sections_of_text, sections_of_data, sections_of_other, output_sections_in}
use Rattle.macho_model.specs.OutputSections.{is_zeros, is_code}
use Rattle.macho_model.specs.Order.{used_by}
use Rattle.macho_model.specs.steps.Least.{front_of, sections_in, filled_in, row_of}
use Rattle.macho_stack.specs.declared.place.Cell.{Cell}
use Rattle.macho_stack.specs.declared.place.PlacedCell.{PlacedCell}
use Rattle.macho_stack.specs.Blocks.{Block, StandLeast}
use Rattle.macho_stack.specs.Ranks.{cell_block, of_ranks}
use Rattle.macho_stack.proofs.Ranks.{of_ranks-append}
use Rattle.macho_layout.specs.declared.spec.OutputName.{OutputName}
use Rattle.macho_layout.specs.Plans.{Planning, IsPlanOf}
use Rattle.macho_layout.specs.Keys.{padded, same_segment, same_output}
use Rattle.macho_layout.specs.Names.{mapped_names, COMMON_NAME}
use Rattle.macho_layout.specs.Cells.{class_of, cells_of}
use Rattle.macho_stack.specs.Rows.{RowCells, cells_in_row, row_segment, row_at, front_at, IsRow, RowsFrom, segments_from}
use Rattle.macho_layout.specs.Sums.{FitsLimits, base_of, head_size}
use Rattle.macho_layout.specs.Laid.{IsLaidOut}
use Rattle.macho_layout.proofs.CostLaw.{stubs_many}
use Rattle.macho_layout_laws.proofs.Stacks.{piece_block, stack_end}
use Rattle.macho_layout_laws.proofs.RowFacts.{row_stack, ranks_between}
use Rattle.macho_layout_laws.proofs.CellFacts.{cells_numbered_apart, started}
use Rattle.macho_layout_laws.proofs.Names.{mapped_of, mapped_are, mapped_all, mapped_names_are, others_unknown}
use Rattle.macho_layout_laws.proofs.Places.{number_in, mapped_number, number_at_place, class_small, class_filled}
use Rattle.macho_layout_laws.proofs.Scene.{count_is}
use Rattle.macho_layout_laws.proofs.Counted.{positive, head_is}
use Rattle.macho_layout_laws.proofs.Segments.{mapped_not_last}
use Rattle.macho_layout_laws.proofs.Keys.{key_name, number_of}
use Rattle.macho_layout_laws.proofs.Pieces.{Fits, cell_piece, merged_fits, init_fits, unwind_fits, stubs_fit, slots_fit}
use Rattle.macho_layout_laws.proofs.Ordered.{filter_same, cell_for, key_cell, KeyFacts, keys_known, key_flags}
use Rattle.macho_layout_laws.proofs.Rowed.{row_is}
use Rattle.macho_layout_laws.proofs.Headers.{HeaderIs, header_merged, header_init, header_unwind, header_stubs, header_slots}
use Rattle.macho_bytes.proofs.Maps.{map_agree, map_map, filter-map, filter-all, filter-none}
use Rattle.macho_model.proofs.Sections.{name_in_field}

-- a class without bytes in the file is one of the last three
class_zeros : (name : OutputName) (flags : ℕ) → is_zerofill_type name.kind ≡ true → 6 ≤ class_of name flags
class_zeros name flags e = by (same_segment name.segment (padded TEXT)) (same_segment name.segment (padded DATA))
    (is_zerofill_type name.kind) (has_instructions flags)
    (name.kind == S_THREAD_LOCAL_REGULAR) (name.kind == S_THREAD_LOCAL_ZEROFILL) (same_output name COMMON_NAME) e
  where
    by : (t d z i r x c : Bool) → z ≡ true → 6 ≤ (if t then (if z then 8 else if i then 0 else 4) else if d then
        (if not z then (if r then 5 else 4) else if x then 6 else if c then 7 else 8) else if z then 8 else 4)
    by t d false i r x c e = absurd (false≢true e)
    by true d true i r x c e = omega arith
    by false true true i r true c e = omega arith
    by false true true i r false true e = omega arith
    by false true true i r false false e = omega arith
    by false false true i r x c e = omega arith

-- what holds of an element that is there where a test holds
list_some : {X : Type 0} (P : X → Type 0) (b : Bool) (x : X) → (b ≡ true → P x) → All P (list_if b (x ∷ []))
list_some P true x h = All-cons P x [] (h refl) (All-nil P)
list_some P false x h = All-nil P

-- what holds of the elements of each part holds of all
pub all_flat : {X Y : Type 0} (P : Y → Type 0) (f : X → List Y) (xs : List X) → All (λ x. All P (f x)) xs → All P (flat_map f xs)
all_flat P f [] h = All-nil P
all_flat P f (x ∷ xs) h = All-append P (f x) (flat_map f xs) (All-head (λ a. All P (f a)) x xs h)
    (all_flat P f xs (All-tail (λ a. All P (f a)) x xs h))

-- whether a rank has bytes in the file
abbrev pub is_filled_rank : Cell → Bool
is_filled_rank c = nat_lt (c.rank % 9) 6

module _ (l : Link) (p : Planning) (counts : Counts) (q : Placed) (plan : IsPlanOf l p) (fits : FitsLimits p counts)
    (h : IsLaidOut p counts q) where
  abbrev pub cf : OutputSection → Cell
  cf o = cell_for l p counts q plan fits h o

  abbrev cells : List Cell
  cells = cells_of p counts (mapped_names p) h.extents

  -- an output section fits its cell, which is filled where it isn't zeros
  pub record IsGood (o : OutputSection) : Type 0 where
    pub fit : Fits l p counts q plan fits h o (cf o)
    pub filled : is_filled_rank (cf o) ≡ not (is_zeros (key_of_output o))
    pub header : HeaderIs l p counts q plan fits h o

  good_key : (key : OutputKey) → KeyFacts l p counts q plan fits h key → IsGood (Merged key)
  good_key key facts = record {
    fit = merged_fits l p counts q plan fits h (number_of l key) key facts.low facts.at;
    filled = by (is_zeros key) refl;
    header = header_merged l p counts q plan fits h key facts (merged_fits l p counts q plan fits h
        (number_of l key) key facts.low facts.at);
  }
    where
      by : (z : Bool) → is_zeros key ≡ z → is_filled_rank (key_cell l p counts q plan fits h key) ≡ not z
      by true e =
          let high = class_zeros (key_name key) (key_flags l p counts q plan fits h key) e in
          le-ltb ((key_cell l p counts q plan fits h key).rank % 9) 6
          (omega (arith, facts.rank, high, class_small (key_name key) (key_flags l p counts q plan fits h key)))
      by false e =
          let low = class_filled (key_name key) (key_flags l p counts q plan fits h key) e in
          lt-ltb ((key_cell l p counts q plan fits h key).rank % 9) 6 (omega (arith, facts.rank, low))

  good_merged : (N : List ℕ) (test : OutputKey → Bool) → All IsGood (merged_in l N test)
  good_merged N test =
      All-map IsGood Merged (filter (λ key. bytes_eq key.segment N && test key) (output_keys_of l))
      (All-filter (λ key. bytes_eq key.segment N && test key) (λ key. IsGood (Merged key)) (output_keys_of l)
      (λ k d low. good_key (get_or (output_keys_of l) k d) (keys_known l p counts q plan fits h k d low)))

  some_from : (n : ℕ) → nat_lt 0 n ≡ true → 0 < n
  some_from n e = ltb-true 0 n e

  good_init : 0 < counts.initializers → IsGood InitOffsets
  good_init some = let f = init_fits l p counts q plan fits h some in record
      { fit = f; filled = refl; header = header_init l p counts q plan fits h f }

  good_unwind : 0 < counts.unwind → IsGood UnwindInfo
  good_unwind some = let f = unwind_fits l p counts q plan fits h some in record
      { fit = f; filled = refl; header = header_unwind l p counts q plan fits h f }

  good_stubs : 0 < length p.stubs → IsGood Stubs
  good_stubs some = let f = stubs_fit l p counts q plan fits h some in record
      { fit = f; filled = refl; header = header_stubs l p counts q plan fits h f }

  good_slots : 0 < length p.slots → IsGood Slots
  good_slots some = let f = slots_fit l p counts q plan fits h some in record
      { fit = f; filled = refl; header = header_slots l p counts q plan fits h some f }

  good_text : All IsGood (sections_of_text l counts)
  good_text =
      let a : List OutputSection = merged_in l TEXT (is_code l) in
      let b : List OutputSection = list_if (nat_lt 0 counts.initializers) (InitOffsets ∷ []) in
      let c : List OutputSection = list_if (nat_lt 0 counts.unwind) (UnwindInfo ∷ []) in
      let d : List OutputSection = list_if (not (length (stubs_of l) == 0)) (Stubs ∷ []) in
      let e : List OutputSection = merged_in l TEXT (λ key. not (is_zeros key) && not (is_code l key)) in
      let f : List OutputSection = merged_in l TEXT is_zeros in
      All-append IsGood (a ++ b ++ c ++ d ++ e) f (All-append IsGood (a ++ b ++ c ++ d) e
      (All-append IsGood (a ++ b ++ c) d (All-append IsGood (a ++ b) c (All-append IsGood a b
      (good_merged TEXT (is_code l))
      (list_some IsGood (nat_lt 0 counts.initializers) InitOffsets (λ t. good_init (some_from counts.initializers t))))
      (list_some IsGood (nat_lt 0 counts.unwind) UnwindInfo (λ t. good_unwind (some_from counts.unwind t))))
      (list_some IsGood (not (length (stubs_of l) == 0)) Stubs
      (λ t. good_stubs (some_from (length p.stubs) (positive (length p.stubs) ∙ ap (λ (n : ℕ). not (n == 0)) (stubs_many l p plan) ∙ t)))))
      (good_merged TEXT (λ key. not (is_zeros key) && not (is_code l key)))) (good_merged TEXT is_zeros)

  good_data : All IsGood (sections_of_data l)
  good_data =
      let a : List OutputSection = merged_in l DATA (λ key. not (is_zeros key) && not (key.type == S_THREAD_LOCAL_REGULAR)) in
      let b : List OutputSection = merged_in l DATA (λ key. key.type == S_THREAD_LOCAL_REGULAR) in
      let c : List OutputSection = merged_in l DATA (λ key. key.type == S_THREAD_LOCAL_ZEROFILL) in
      let d : List OutputSection = merged_in l DATA (same_key common_key) in
      let e : List OutputSection = merged_in l DATA (λ key. is_zeros key && not (key.type == S_THREAD_LOCAL_ZEROFILL) && not
      (same_key common_key key)) in
      All-append IsGood (a ++ b ++ c ++ d) e (All-append IsGood (a ++ b ++ c) d (All-append IsGood (a ++ b) c (All-append IsGood a b
      (good_merged DATA (λ key. not (is_zeros key) && not (key.type == S_THREAD_LOCAL_REGULAR)))
      (good_merged DATA (λ key. key.type == S_THREAD_LOCAL_REGULAR)))
      (good_merged DATA (λ key. key.type == S_THREAD_LOCAL_ZEROFILL))) (good_merged DATA (same_key common_key)))
      (good_merged DATA (λ key. is_zeros key && not (key.type == S_THREAD_LOCAL_ZEROFILL) && not (same_key common_key key)))

  good_other : (N : List ℕ) → All IsGood (sections_of_other l N)
  good_other N =
      let a : List OutputSection = list_if (bytes_eq N DATA_CONST && not (length (slots_of l) == 0)) (Slots ∷ []) in
      let b : List OutputSection = merged_in l N (λ key. not (is_zeros key)) in
      let c : List OutputSection = merged_in l N is_zeros in
      All-append IsGood (a ++ b) c (All-append IsGood a b
      (list_some IsGood (bytes_eq N DATA_CONST && not (length (slots_of l) == 0)) Slots
      (λ t. good_slots (some_from (length p.slots) (positive (length p.slots) ∙ ap (λ (n : ℕ). not (n == 0)) (ap length plan.slots) ∙
      (and_parts (bytes_eq N DATA_CONST) (not (length (slots_of l) == 0)) t).1)))) (good_merged N (λ key. not (is_zeros key))))
      (good_merged N is_zeros)

  -- all output sections are good
  pub all_good : (N : List ℕ) → All IsGood (output_sections_in l counts N)
  all_good N = by (bytes_eq N TEXT) (bytes_eq N DATA)
    where
      by : (t d : Bool) → All IsGood (if t then sections_of_text l counts else if d then sections_of_data l else sections_of_other l N)
      by true d = good_text
      by false true = good_data
      by false false = good_other N

  -- a segment that isn't mapped has none
  merged_none : (N : List ℕ) (test : OutputKey → Bool) → All (λ n. bytes_eq n N ≡ false) (mapped_of l) → merged_in l N test ≡ []
  merged_none N test other =
      ap (map Merged) (filter-none (λ key. bytes_eq key.segment N && test key) (output_keys_of l)
      (λ k d low.
      let key : OutputKey = get_or (output_keys_of l) k d in
      let facts = keys_known l p counts q plan fits h k d low in
      let there = mapped_number l key.segment facts.mapped in
      let no_one : bytes_eq key.segment N ≡ false = ap (λ (n : List ℕ). bytes_eq n N) (sym there.1) ∙ other
      (number_in l key.segment) key.segment there.0 in
      ap (λ (b : Bool). b && test key) no_one))

  pub mapped_not_zero : All (λ n. bytes_eq n PAGEZERO ≡ false) (mapped_of l)
  mapped_not_zero =
      mapped_all (λ n. bytes_eq n PAGEZERO ≡ false) l refl refl refl
      (All-weaker (λ (n : List ℕ). is_known_segment n ≡ false) (λ (n : List ℕ). bytes_eq n PAGEZERO ≡ false)
      (λ n u. false_from_ne_true (bytes_eq n PAGEZERO) (λ t. false≢true (sym u ∙ ap is_known_segment ((bytes_eq-Decides n PAGEZERO).0 t))))
      (other_segments l) (others_unknown l))

  pub zero_sections : output_sections_in l counts PAGEZERO ≡ []
  zero_sections =
      ap (λ (os : List OutputSection). os ++ merged_in l PAGEZERO is_zeros)
      (merged_none PAGEZERO (λ key. not (is_zeros key)) mapped_not_zero) ∙ merged_none PAGEZERO is_zeros mapped_not_zero

  pub last_sections : output_sections_in l counts LINKEDIT ≡ []
  last_sections =
      ap (λ (os : List OutputSection). os ++ merged_in l LINKEDIT is_zeros)
      (merged_none LINKEDIT (λ key. not (is_zeros key)) (mapped_not_last l)) ∙ merged_none LINKEDIT is_zeros (mapped_not_last l)

  -- a placed cell as a piece
  abbrev placed_piece : PlacedCell → Piece
  placed_piece c = record { start = c.start; size = c.cell.size; exponent = c.cell.exponent }

  placed_is : (c : PlacedCell) → Contains h.cells c → cell_piece h.starts c.cell ≡ placed_piece c
  placed_is c there =
      ap (λ (n : ℕ). record { start = n; size = c.cell.size; exponent = c.cell.exponent })
      (started (mapped_names p) cells (base_of p) (head_size p counts) (length (mapped_names p)) h.segments h.cells h.address h.offset
      (length h.extents + 4) h.starts
      h.rows h.have (cells_numbered_apart p counts (mapped_names p) h.extents) c there)

  -- the pieces of output sections whose cells were placed
  pub extents_are : (outs : List OutputSection) (cs : List PlacedCell) → All IsGood outs → map cf outs ≡ map (λ (c : PlacedCell). c.cell) cs
      → All (Contains h.cells) cs
      → map (extent_of l q) outs ≡ map placed_piece cs
  extents_are outs cs good same there =
      map_agree (extent_of l q) (λ o. cell_piece h.starts (cf o)) outs
      (All-weaker IsGood (λ o. extent_of l q o ≡ cell_piece h.starts (cf o)) (λ o g. g.fit.extent) outs good)
      ∙ sym (map_map (cell_piece h.starts) cf outs) ∙ ap (map (cell_piece h.starts)) same ∙ map_map (cell_piece h.starts)
      (λ (c : PlacedCell). c.cell) cs
      ∙ map_agree (λ c. cell_piece h.starts c.cell) placed_piece cs
      (All-weaker (Contains h.cells) (λ c. cell_piece h.starts c.cell ≡ placed_piece c) placed_is cs there)

  -- the output sections with bytes in the file have the first six ranks
  filled_cells : (n : ℕ) (N : List ℕ) → map cf (output_sections_in l counts N) ≡ of_ranks (9 * n) 9 cells
      → map cf (filter (λ o. not (is_zeros (key_of_output o))) (output_sections_in l counts N)) ≡ of_ranks (9 * n) 6 cells
  filled_cells n N same =
      let outs : List OutputSection = output_sections_in l counts N in
      let split : of_ranks (9 * n) 9 cells ≡ of_ranks (9 * n) 6 cells ++ of_ranks (9 * n + 6) 3 cells = of_ranks-append (9 * n) 6 3 cells in
      let one : filter is_filled_rank (of_ranks (9 * n) 6 cells) ≡ of_ranks (9 * n) 6 cells
      = filter-all is_filled_rank (of_ranks (9 * n) 6 cells)
      (All-weaker (λ (c : Cell). (9 * n ≤ c.rank) × (c.rank < 9 * n + 6)) (λ (c : Cell). is_filled_rank c ≡ true)
      (λ c r. lt-ltb (c.rank % 9) 6 (omega (arith, r.0, r.1))) (of_ranks (9 * n) 6 cells) (ranks_between (9 * n) 6 cells)) in
      let two : filter is_filled_rank (of_ranks (9 * n + 6) 3 cells) ≡ []
      = filter-none is_filled_rank (of_ranks (9 * n + 6) 3 cells)
      (All-weaker (λ (c : Cell). (9 * n + 6 ≤ c.rank) × (c.rank < 9 * n + 6 + 3)) (λ (c : Cell). is_filled_rank c ≡ false)
      (λ c r. le-ltb (c.rank % 9) 6 (omega (arith, r.0, r.1))) (of_ranks (9 * n + 6) 3 cells) (ranks_between (9 * n + 6) 3 cells)) in
      sym (filter-map is_filled_rank cf outs ∙ ap (map cf) (filter_same (λ o. is_filled_rank (cf o))
      (λ o. not (is_zeros (key_of_output o))) outs
      (All-weaker IsGood (λ o. is_filled_rank (cf o) ≡ not (is_zeros (key_of_output o))) (λ o g. g.filled) outs (all_good N))))
      ∙ ap (filter is_filled_rank) (same ∙ split) ∙ filter-append is_filled_rank (of_ranks (9 * n) 6 cells) (of_ranks (9 * n + 6) 3 cells)
      ∙ ap (λ (cs : List Cell). cs ++ filter is_filled_rank (of_ranks (9 * n + 6) 3 cells)) one ∙ ap
      (λ (cs : List Cell). of_ranks (9 * n) 6 cells ++ cs) two ∙ append-nil (of_ranks (9 * n) 6 cells)

  -- a segment is the row of its output sections, as far as its sizes tell
  pub record IsRowOf (s : PlacedSegment) : Type 0 where
    pub end : ℕ
    pub stack : StandLeast s.address (map piece_block (row_of l counts q s (sections_in l counts s))) end
    pub size : s.size ≡ rounded_up SEGMENT_PAGE (used_by s (row_of l counts q s (sections_in l counts s)))
    pub file_size : s.file_size ≡ rounded_up SEGMENT_PAGE (used_by s (row_of l counts q s (filled_in l counts s)))

  -- a front and output sections behind it
  front_stack : (s : PlacedSegment) (front : ℕ) (outs : List OutputSection) (cs : List PlacedCell) (end : ℕ) → (front_of counts q s).size
      ≡ front → map (extent_of l q) outs ≡ map placed_piece cs
      → StandLeast (s.address + front) (map cell_block cs) end
      → StandLeast s.address (map piece_block (row_of l counts q s outs)) end × (used_by s (row_of l counts q s outs) ≡ end - s.address)
  unfolding row_of
  front_stack s front outs cs end size pieces stack =
      let blocks : map piece_block (map (extent_of l q) outs) ≡ map cell_block cs = ap (map piece_block) pieces
      ∙ map_map piece_block placed_piece cs in
      let rest : StandLeast (s.address + (front_of counts q s).size) (map piece_block (map (extent_of l q) outs)) end
      = subst (λ (n : ℕ). StandLeast (s.address + n) (map piece_block (map (extent_of l q) outs)) end) (sym size)
      (subst (λ (bs : List Block). StandLeast (s.address + front) bs end) (sym blocks) stack) in
      let first : s.address ≡ rounded_up (2 ^ 0) s.address = omega arith in
      let whole : StandLeast s.address (map piece_block (front_of counts q s ∷ map (extent_of l q) outs)) end = (first, rest) in
      (whole, ap (λ (n : ℕ). n - s.address) (stack_end s.address (front_of counts q s) (map (extent_of l q) outs) end whole))

  row_one : (n a o : ℕ) (r : RowCells) → n < length (mapped_of l) → IsRow cells (row_at (mapped_names p) (head_size p counts) n a o) r → All
      (Contains h.cells) (cells_in_row r)
      → IsRowOf (row_segment (row_at (mapped_names p) (head_size p counts) n a o) r)
  row_one n a o r low is there =
      let s : PlacedSegment = row_segment (row_at (mapped_names p) (head_size p counts) n a o) r in
      let N : List ℕ = get_or (mapped_of l) n [] in
      let place : get_or (mapped_of l) n N ≡ N = get_or_default (mapped_of l) n N [] low in
      let name : get_or (mapped_names p) n (padded []) ≡ padded N = ap (λ (ns : List SegmentName). get_or ns n (padded []))
      (mapped_are l p plan) ∙ get_or-map padded (mapped_of l) n [] (padded []) low in
      let text : text_of s.name ≡ N = ap text_of name ∙ name_in_field N ∙ mapped_names_are l n [] low in
      let outs : List OutputSection = output_sections_in l counts N in
      let same : map cf outs ≡ of_ranks (9 * n) 9 cells = sym (row_is l p counts q plan fits h n N low place) in
      let row_cells : map (λ (c : PlacedCell). c.cell) (cells_in_row r) ≡ of_ranks (9 * n) 9 cells
      = map-append (λ (c : PlacedCell). c.cell) r.filled r.zeros ∙ ap
      (λ (cs : List Cell). cs ++ map (λ (c : PlacedCell). c.cell) r.zeros) is.filled_same
      ∙ ap (λ (cs : List Cell). of_ranks (9 * n) 6 cells ++ cs) is.zeros_same ∙ sym (of_ranks-append (9 * n) 6 3 cells) in
      let front : (front_of counts q s).size ≡ front_at (head_size p counts) n
      = ap (λ (m : List ℕ). if bytes_eq m TEXT then model_head counts q else 0) text ∙ ap (λ (k : ℕ). if bytes_eq N TEXT then k else 0)
      (head_is l p counts q plan fits h) ∙ front_is n N low place in
      let pieces = extents_are outs (cells_in_row r) (all_good N) (same ∙ sym row_cells) there in
      let all = front_stack s (front_at (head_size p counts) n) outs (cells_in_row r) r.end front pieces
      (row_stack (mapped_names p) cells (head_size p counts) n a o r is) in
      let filled : List OutputSection = filter (λ o. not (is_zeros (key_of_output o))) outs in
      let filled_there : All (Contains h.cells) r.filled = λ k d inside.
      let e = get_or_append_left r.filled r.zeros d k inside in
      subst (Contains h.cells) e (there k d (omega (arith, inside, length-append r.filled r.zeros))) in
      let file_pieces = extents_are filled r.filled (All-filter (λ o. not (is_zeros (key_of_output o))) IsGood outs (all_good N))
      (filled_cells n N same ∙ sym is.filled_same) filled_there in
      let file = front_stack s (front_at (head_size p counts) n) filled r.filled r.filled_end front file_pieces is.filled_stack.least in
      let sections : sections_in l counts s ≡ outs = ap (output_sections_in l counts) text in
      record {
        end = r.end;
        stack = subst (λ (os : List OutputSection). StandLeast s.address (map piece_block (row_of l counts q s os)) r.end)
            (sym sections) all.0;
        size = ap (rounded_up SEGMENT_PAGE) (sym all.1) ∙ ap (λ (os : List OutputSection). rounded_up SEGMENT_PAGE
            (used_by s (row_of l counts q s os))) (sym sections);
        file_size = ap (rounded_up SEGMENT_PAGE) (sym file.1) ∙ ap (λ (os : List OutputSection). rounded_up SEGMENT_PAGE
            (used_by s (row_of l counts q s (filter (λ o. not (is_zeros (key_of_output o))) os)))) (sym sections);
      }
    where
      front_is : (n : ℕ) (N : List ℕ) → n < length (mapped_of l) → get_or (mapped_of l) n N ≡ N →
          (if bytes_eq N TEXT then head_size p counts else 0) ≡ front_at (head_size p counts) n
      front_is zero N low place = ap (λ (m : List ℕ). if bytes_eq m TEXT then head_size p counts else 0) (sym place)
      front_is (suc n) N low place =
          let other : bytes_eq N TEXT ≡ false = ap (λ (m : List ℕ). bytes_eq m TEXT) (sym place) ∙ false_from_ne_true
          (bytes_eq (get_or (mapped_of l) (suc n) N) TEXT)
          (λ t. let e = number_at_place l (suc n) TEXT low ((ap (λ (m : List ℕ). get_or (mapped_of l) (suc n) m)
          (sym ((bytes_eq-Decides N TEXT).0 (ap (λ (m : List ℕ). bytes_eq m TEXT) (sym place) ∙ t))) ∙ place) ∙ (bytes_eq-Decides N TEXT).0
          (ap (λ (m : List ℕ). bytes_eq m TEXT) (sym place) ∙ t)) in
          absurd (omega (arith, e, number_at_place l 0 TEXT (omega (arith, low)) refl))) in
          ap (λ (b : Bool). if b then head_size p counts else 0) other ∙ sym
          (ap (λ (b : Bool). if b then head_size p counts else 0) (ne_eqb (suc n) 0 (λ e. omega arith)))

  rows_good : (n a o : ℕ) (rs : List RowCells) (a' o' : ℕ) → n + length rs ≡ length (mapped_of l) → RowsFrom (mapped_names p) cells
      (head_size p counts) n a o rs a' o'
      → All (Contains h.cells) (flat_map cells_in_row rs) → All IsRowOf (segments_from (mapped_names p) (head_size p counts) n a o rs)
  rows_good n a o [] a' o' long stand there = All-nil IsRowOf
  rows_good n a o (r ∷ rs) a' o' long stand there =
      let row_there : All (Contains h.cells) (cells_in_row r) = λ k d inside.
      let e = get_or_append_left (cells_in_row r) (flat_map cells_in_row rs) d k inside in
      subst (Contains h.cells) e (there k d (omega (arith, inside, length-append (cells_in_row r) (flat_map cells_in_row rs)))) in
      let rest_there : All (Contains h.cells) (flat_map cells_in_row rs) = λ k d inside.
      let e = get_or-append-add (cells_in_row r) (flat_map cells_in_row rs) k d in
      subst (Contains h.cells) e (there (length (cells_in_row r) + k) d
      (omega (arith, inside, length-append (cells_in_row r) (flat_map cells_in_row rs)))) in
      All-cons IsRowOf (row_segment (row_at (mapped_names p) (head_size p counts) n a o) r)
      (segments_from (mapped_names p) (head_size p counts) (n + 1) (a + rounded_up SEGMENT_PAGE (r.end - a))
      (o + rounded_up SEGMENT_PAGE (r.filled_end - a)) rs)
      (row_one n a o r (omega (arith, long)) stand.0 row_there)
      (rows_good (n + 1) (a + rounded_up SEGMENT_PAGE (r.end - a)) (o + rounded_up SEGMENT_PAGE (r.filled_end - a)) rs a' o'
      (omega (arith, long)) stand.1 rest_there)

  -- each row's segment is the row of its output sections
  pub rows_are : All IsRowOf h.segments
  rows_are =
      subst (All IsRowOf) (sym h.rows.segments_are)
      (rows_good 0 (base_of p) 0 h.rows.rows h.address h.offset (omega (arith, h.rows.many, count_is l p counts q plan fits h)) h.rows.stand
      (subst (λ (cs : List PlacedCell). All (Contains h.cells) cs) h.rows.placed_are (All-contains_itself h.cells)))
