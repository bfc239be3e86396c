-- The output sections are those of the link.
--
-- Row by row the cells are those of the segments' output sections, so all cells are those of all mapped segments'; the linker's other two
-- segments have none. A placed cell is the cell of its output section at the start of its number, and its header is that output section's.
use Rattle.std.proofs.Common.{◌≡◌, ℕ, zero, suc, ◌+◌, ◌*◌, ◌<◌, ◌≤◌, Bool, true, false, List, [], ◌∷◌, ◌++◌, map, length, get_or, take, All, Contains, refl, sym, ap, ◌∙◌, arith}
use Rattle.std.specs.List.{flat_map}
use Rattle.std.proofs.lemmas.List.{append-nil, map-append, map-id, take_more, take_all, get_or_default}
use Rattle.std.proofs.lemmas.List.Concat.{flat_map-append}
use Rattle.std.proofs.lemmas.List.Elements.{All-contains_itself, All-weaker}
use Rattle.macho_model.specs.declared.placed.Counts.{Counts}
use Rattle.macho_model.specs.Links.{Link}
use Rattle.macho_model.specs.Segments.{PAGEZERO, LINKEDIT, list_if}
use Rattle.macho_model.specs.Placement.{Placed}
use Rattle.macho_model.specs.steps.Outputs.{OutputSection, output_sections_in, output_sections_of, output_sections_for, output_header}
use Rattle.macho_stack.specs.declared.place.Cell.{Cell}
use Rattle.macho_stack.specs.declared.place.PlacedCell.{PlacedCell}
use Rattle.macho_stack.specs.Ranks.{of_ranks}
use Rattle.macho_stack.proofs.Ranks.{of_ranks-none, of_ranks-append}
use Rattle.macho_layout.specs.Plans.{Planning, IsPlanOf}
use Rattle.macho_layout.specs.Names.{mapped_names}
use Rattle.macho_layout.specs.Cells.{cells_of}
use Rattle.macho_layout.specs.Headers.{header_of}
use Rattle.macho_layout.specs.Sums.{FitsLimits, base_of, head_size}
use Rattle.macho_layout.specs.Laid.{IsLaidOut}
use Rattle.macho_layout_laws.proofs.CellFacts.{at_start, started, cells_numbered_apart}
use Rattle.macho_layout_laws.proofs.Names.{mapped_of, segment_names_are}
use Rattle.macho_layout_laws.proofs.Scene.{count_is}
use Rattle.macho_layout_laws.proofs.Rowed.{row_is}
use Rattle.macho_layout_laws.proofs.Standing.{cf, IsGood, zero_sections, last_sections}
use Rattle.macho_layout_laws.proofs.Ordering.{outputs_good}
use Rattle.macho_bytes.proofs.Maps.{map_agree, map_map}

module _ (l : Link) (p : Planning) (counts : Counts) (q : Placed) (plan : IsPlanOf l p) (fits : FitsLimits p counts)
    (h : IsLaidOut p counts q) where
  abbrev cells : List Cell
  cells = cells_of p counts (mapped_names p) h.extents

  abbrev outs : List ℕ → List OutputSection
  outs N = output_sections_in l counts N

  abbrev cell_of : OutputSection → Cell
  cell_of o = cf l p counts q plan fits h o

  -- all rows so far
  rows_are : (k : ℕ) → k ≤ length (mapped_of l) → of_ranks 0 (9 * k) cells ≡ map cell_of (flat_map outs (take k (mapped_of l)))
  rows_are zero few = of_ranks-none 0 cells
  rows_are (suc k) few =
      let low : k < length (mapped_of l) = omega (arith, few) in
      let N : List ℕ = get_or (mapped_of l) k [] in
      let next : 9 * suc k ≡ 9 * k + 9 = omega arith in
      let first : 0 + 9 * k ≡ 9 * k = omega arith in
      let more : suc k ≡ k + 1 = omega arith in
      ap (λ (n : ℕ). of_ranks 0 n cells) next ∙ of_ranks-append 0 (9 * k) 9 cells ∙ ap
      (λ (n : ℕ). of_ranks 0 (9 * k) cells ++ of_ranks n 9 cells) first
      ∙ ap (λ (cs : List Cell). cs ++ of_ranks (9 * k) 9 cells) (rows_are k (omega (arith, few)))
      ∙ ap (λ (cs : List Cell). map cell_of (flat_map outs (take k (mapped_of l))) ++ cs)
      (row_is l p counts q plan fits h k N low (get_or_default (mapped_of l) k N [] low))
      ∙ sym (ap (λ (n : ℕ). map cell_of (flat_map outs (take n (mapped_of l)))) more
      ∙ ap (λ (ns : List (List ℕ)). map cell_of (flat_map outs ns)) (take_more (mapped_of l) k [] low)
      ∙ ap (map cell_of) (flat_map-append outs (take k (mapped_of l)) (N ∷ []) ∙ ap
      (λ (os : List OutputSection). flat_map outs (take k (mapped_of l)) ++ os) (append-nil (outs N)))
      ∙ map-append cell_of (flat_map outs (take k (mapped_of l))) (outs N))

  -- the output sections are those of the mapped segments
  outputs_are : output_sections_of l counts ≡ flat_map outs (mapped_of l)
  unfolding output_sections_of
  outputs_are =
      ap (flat_map outs) (segment_names_are l) ∙ flat_map-append outs (list_if l.executable (PAGEZERO ∷ []) ++ mapped_of l) (LINKEDIT ∷ [])
      ∙ ap (λ (os : List OutputSection). flat_map outs (list_if l.executable (PAGEZERO ∷ []) ++ mapped_of l) ++ os)
      (append-nil (outs LINKEDIT) ∙ last_sections l p counts q plan fits h)
      ∙ append-nil (flat_map outs (list_if l.executable (PAGEZERO ∷ []) ++ mapped_of l)) ∙ flat_map-append outs
      (list_if l.executable (PAGEZERO ∷ [])) (mapped_of l)
      ∙ ap (λ (os : List OutputSection). os ++ flat_map outs (mapped_of l)) (by l.executable)
    where
      by : (b : Bool) → flat_map outs (list_if b (PAGEZERO ∷ [])) ≡ []
      by true = append-nil (outs PAGEZERO) ∙ zero_sections l p counts q plan fits h
      by false = refl

  -- the placed cells are those of the output sections, in order
  cells_are : h.cells ≡ map (λ o. at_start h.starts (cell_of o)) (output_sections_of l counts)
  cells_are =
      let whole : All (λ (c : PlacedCell). c ≡ at_start h.starts c.cell) h.cells
      = All-weaker (Contains h.cells) (λ (c : PlacedCell). c ≡ at_start h.starts c.cell)
      (λ c there. ap (λ (n : ℕ). record { cell = c.cell; start = n })
      (sym (started (mapped_names p) cells (base_of p) (head_size p counts) (length (mapped_names p)) h.segments h.cells h.address h.offset
      (length h.extents + 4) h.starts
      h.rows h.have (cells_numbered_apart p counts (mapped_names p) h.extents) c there))) h.cells (All-contains_itself h.cells) in
      let all : of_ranks 0 (9 * length (mapped_names p)) cells ≡ map cell_of (output_sections_of l counts)
      = ap (λ (n : ℕ). of_ranks 0 (9 * n) cells) (count_is l p counts q plan fits h) ∙ rows_are (length (mapped_of l)) (omega arith)
      ∙ ap (λ (ns : List (List ℕ)). map cell_of (flat_map outs ns)) (take_all (length (mapped_of l)) (mapped_of l) (omega arith)) ∙ sym
      (ap (map cell_of) outputs_are) in
      sym (map-id h.cells) ∙ map_agree (λ c. c) (λ (c : PlacedCell). at_start h.starts c.cell) h.cells whole
      ∙ sym (map_map (at_start h.starts) (λ (c : PlacedCell). c.cell) h.cells) ∙ ap (map (at_start h.starts)) (h.rows.same ∙ all) ∙ map_map
      (at_start h.starts) cell_of (output_sections_of l counts)

  -- the headers are those of the link
  pub headers_are : q.output_sections ≡ output_sections_for l counts q
  unfolding output_sections_for
  headers_are =
      h.from_them.output_sections ∙ ap (map (header_of p h.extents h.segments)) cells_are
      ∙ map_map (header_of p h.extents h.segments) (λ o. at_start h.starts (cell_of o)) (output_sections_of l counts)
      ∙ map_agree (λ o. header_of p h.extents h.segments (at_start h.starts (cell_of o))) (output_header l q) (output_sections_of l counts)
      (All-weaker (IsGood l p counts q plan fits h) (λ o. header_of p h.extents h.segments (at_start h.starts (cell_of o))
      ≡ output_header l q o) (λ o g. g.header) (output_sections_of l counts)
      (outputs_good l p counts q plan fits h))
