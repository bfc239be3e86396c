-- The range of the thread-local template is no wider than its sections.
--
-- It goes from the start of the first output section of the template to the end of the last. An output section begins where one
-- of its members does, and ends where one does; and the members of one of the template are sections of the template.
use Rattle.std.proofs.Common.{◌≡◌, ℕ, ◌+◌, ◌%◌, ◌*◌, ◌^◌, ◌<◌, ◌≤◌, inl, inr, Bool, true, false, List, [], ◌∷◌, ◌++◌, map, filter, length, get_or, fold, Some, None, refl, sym, ap, subst, ◌∙◌, arith, All}
use Rattle.std.specs.Prelude.{Contains}
use Rattle.std.specs.List.{range_with_len}
use Rattle.std.proofs.lemmas.Bool.{cases_Bool, and_from, false≢true}
use Rattle.std.proofs.lemmas.List.{get_or_default}
use Rattle.std.proofs.lemmas.List.Elements.{All-append, All-contains, All-contains_itself, Contains-append_cases}
use Rattle.std.proofs.lemmas.List.FromFn.{length-map-range_with_len, get_or-map-range_with_len}
use Rattle.macho_bytes.proofs.Members.{contains_first, contains_later, contains_map, contains_filter, filter_contains, map_contains, nil_contains}
use Rattle.macho_records.specs.Sections.{is_template_type, type_of}
use Rattle.macho_records.specs.Symbols.{common_exponent_of}
use Rattle.macho_model.specs.declared.placed.Counts.{Counts}
use Rattle.macho_model.specs.declared.placed.PlacedCommon.{PlacedCommon}
use Rattle.macho_model.specs.declared.placed.PlacedSection.{PlacedSection}
use Rattle.macho_model.specs.declared.placed.Range64.{Range64}
use Rattle.macho_model.specs.Links.{Link, SectionId, header_at, carried_of, is_carried, is_template, placed_exponent}
use Rattle.macho_model.specs.Resolution.{entry_at}
use Rattle.macho_model.specs.Segments.{OutputKey, same_key, key_of, common_key, output_keys_of, list_if}
use Rattle.macho_model.specs.Placement.{Placed, id_of, common_of, template_sections, Piece, end_of_piece}
use Rattle.macho_model.specs.Spans.{section_span, common_span, piece}
use Rattle.macho_model.specs.OutputSections.{around}
use Rattle.macho_model.specs.steps.Outputs.{Merged, pieces_of, placed_members}
use Rattle.macho_stack.specs.declared.place.Cell.{Cell}
use Rattle.macho_stack.specs.declared.place.PlacedCell.{PlacedCell}
use Rattle.macho_stack.specs.Stacks.{extent_at}
use Rattle.macho_stack.specs.Ranks.{of_ranks}
use Rattle.macho_layout.specs.declared.spec.OutputName.{OutputName}
use Rattle.macho_layout.specs.Plans.{Planning, IsPlanOf}
use Rattle.macho_layout.specs.Names.{mapped_names, output_at}
use Rattle.macho_layout.specs.Cells.{class_of, is_template_class, cells_of, cell_if, made_cells}
use Rattle.macho_layout.specs.Places.{behind, number_at, cover, is_template_cell}
use Rattle.macho_layout.specs.Sums.{FitsLimits, base_of, head_size}
use Rattle.macho_layout.specs.Laid.{IsLaidOut}
use Rattle.macho_layout.proofs.CostLaw.{key-decides}
use Rattle.macho_layout.proofs.Rooms.{unmapped, ranks_keep}
use Rattle.macho_layout.proofs.Whole.{sections_are_listed}
use Rattle.macho_layout_laws.proofs.CellFacts.{cells_numbered_apart, rise, started}
use Rattle.macho_layout_laws.proofs.RowFacts.{end_of_cell}
use Rattle.macho_layout_laws.proofs.Counted.{flag_some}
use Rattle.macho_layout_laws.proofs.Covering.{class_tells}
use Rattle.macho_layout_laws.proofs.Keys.{keys_many, output_named}
use Rattle.macho_layout_laws.proofs.Pieces.{cell_piece, merged_fits}
use Rattle.macho_layout_laws.proofs.Places.{class_small}
use Rattle.macho_layout_laws.proofs.Scene.{home, address_low}
use Rattle.macho_layout_laws.proofs.Made.{init_cell, unwind_cell, stub_cell, slot_cell}
use Rattle.macho_image_laws.specs.Template.{TemplateIsTight}
use Rattle.macho_writing_laws.specs.Template.{TemplatesAreTight}
use Rattle.macho_writing_laws.proofs.Around.{around_begins, around_ends}
use Rattle.macho_model.proofs.Sections.{carried_is}

-- the range of cells begins where the first does, and ends where one of them does
start_kept : (r : Range64) (cs : List PlacedCell) → (r2 : Range64) × (fold cover (Some r) cs ≡ Some r2) × (r2.start ≡ r.start)
start_kept r [] = (r, refl, refl)
start_kept r (c ∷ cs) = start_kept (record { start = r.start; end = behind c.start c.cell.size }) cs

last_cell : (r : Range64) (c : PlacedCell) (cs : List PlacedCell) → r.end ≡ behind c.start c.cell.size
    → (e : PlacedCell) × Contains (c ∷ cs) e × ((start_kept r cs).0.end ≡ behind e.start e.cell.size)
unfolding start_kept
last_cell r c [] is = (c, contains_first c [], is)
last_cell r c (d ∷ cs) is =
    let e = last_cell (record { start = r.start; end = behind d.start d.cell.size }) d cs refl in
    (e.0, contains_later c (d ∷ cs) e.0 e.1, e.2)

module _ (l : Link) (p : Planning) (counts : Counts) (q : Placed) (plan : IsPlanOf l p) (fits : FitsLimits p counts)
    (h : IsLaidOut p counts q) where
  abbrev cells : List Cell
  cells = cells_of p counts (mapped_names p) h.extents

  -- a placed cell is one of the cells
  placed_from : All (λ (c : PlacedCell). Contains cells c.cell) h.cells
  placed_from =
      unmapped (Contains cells) (λ (c : PlacedCell). c.cell) h.cells (of_ranks 0 (9 * length (mapped_names p)) cells) h.rows.same
      (ranks_keep (Contains cells) 0 (9 * length (mapped_names p)) cells (All-contains_itself cells))

  -- one of the template is that of a merged output section
  abbrev IsMerged : Cell → Type 0
  IsMerged c = is_template_class (c.rank % 9) ≡ true → (k : ℕ) × (k < length h.extents) × (c ≡ home l p counts q plan fits h k)

  all_merged : All IsMerged cells
  unfolding cells_of
  all_merged =
      let f : ℕ → Cell = home l p counts q plan fits h in
      let a : Cell = init_cell l p counts q plan fits h in
      let b : Cell = unwind_cell l p counts q plan fits h in
      let x : Cell = stub_cell l p counts q plan fits h in
      let d : Cell = slot_cell l p counts q plan fits h in
      let merged : All IsMerged (map f (range_with_len 0 (length h.extents))) =
      λ k e low.
      let inside : k < length h.extents = omega (arith, low, length-map-range_with_len f 0 (length h.extents)) in
      subst IsMerged (sym (get_or-map-range_with_len f 0 (length h.extents) k k e inside (omega arith))) (λ t. (k, inside, refl)) in
      All-append IsMerged (map f (range_with_len 0 (length h.extents))) (made_cells p counts (length h.extents)) merged
      (All-append IsMerged (cell_if a ++ cell_if b ++ cell_if x) (cell_if d) (All-append IsMerged (cell_if a ++ cell_if b) (cell_if x)
      (All-append IsMerged (cell_if a) (cell_if b) (flag_some IsMerged a (λ _ t. absurd (false≢true t)))
      (flag_some IsMerged b (λ _ t. absurd (false≢true t))))
      (flag_some IsMerged x (λ _ t. absurd (false≢true t))))
      (flag_some IsMerged d (λ _ t. absurd (false≢true t))))

  -- the pieces of an output section of the template are sections of the template
  section_of : (key : OutputKey) (a : Piece) → is_template_type key.type ≡ true → Contains (pieces_of l q (Merged key)) a
      → (s : PlacedSection) × Contains (template_sections l q) s × (s.address ≡ a.start)
      × (s.address + (header_at l (id_of s)).size ≡ end_of_piece a)
  unfolding pieces_of
  section_of key a type has =
      let f : PlacedSection → Piece = λ s. piece (placed_exponent l (id_of s)) (section_span l s) in
      let g : PlacedCommon → Piece = λ c. piece (common_exponent_of (entry_at l (common_of l c.id))) (common_span l c) in
      elim (Contains-append_cases (map f (placed_members l q key)) (list_if (same_key common_key key) (map g q.commons)) a has) [
        | inr common ↦ absurd (nil_contains a (subst (λ (b : Bool). Contains (list_if b (map g q.commons)) a) (not_common key type) common))
        | inl own ↦
            let made = map_contains f (placed_members l q key) a own in
            let of = filter_contains (λ s. same_key (key_of (header_at l (id_of s))) key) q.sections made.0 made.1 in
            let same : key_of (header_at l (id_of made.0)) ≡ key = (key-decides (key_of (header_at l (id_of made.0))) key).0 of.1 in
            let kind : is_template_type (type_of (header_at l (id_of made.0))) ≡ true =
            ap (λ (k : OutputKey). is_template_type k.type) same ∙ type in
            let carried : Contains (carried_of l) (id_of made.0) =
            subst (λ (ids : List SectionId). Contains ids (id_of made.0)) (sections_are_listed l p counts q plan h)
            (contains_map id_of q.sections made.0 of.0) in
            let template : is_template (header_at l (id_of made.0)) ≡ true =
            and_from (is_carried (header_at l (id_of made.0))) (is_template_type (type_of (header_at l (id_of made.0))))
            (carried_is l (id_of made.0) carried) kind in (
              made.0,
              contains_filter (λ s. is_template (header_at l (id_of s))) q.sections made.0 of.0 template,
              ap (λ (c : Piece). c.start) made.2,
              ap end_of_piece made.2,
            )
      ]
    where
      not_common : (key : OutputKey) → is_template_type key.type ≡ true → same_key common_key key ≡ false
      not_common key type = elim (cases_Bool (same_key common_key key)) [
        | inr other ↦ other
        | inl same ↦
            let is : common_key ≡ key = (key-decides common_key key).0 same in
            absurd (false≢true (ap (λ (k : OutputKey). is_template_type k.type) is ∙ type))
      ]

  -- so a cell of the template begins where a section does, and ends where one does
  record IsFilled (c : PlacedCell) : Type 0 where
    begins : (s : PlacedSection) × Contains (template_sections l q) s × (s.address ≡ c.start)
    ends : (s : PlacedSection) × Contains (template_sections l q) s × (s.address + (header_at l (id_of s)).size ≡ end_of_cell c)

  filled : (c : PlacedCell) → Contains h.cells c → is_template_cell c ≡ true → IsFilled c
  filled c has class =
      let m = All-contains IsMerged cells c.cell all_merged
      (All-contains (λ (x : PlacedCell). Contains cells x.cell) h.cells c placed_from has) class in
      let k : ℕ = m.0 in
      let low : k < length (output_keys_of l) = omega (arith, m.1, keys_many l p counts q plan fits h) in
      let key : OutputKey = get_or (output_keys_of l) k common_key in
      let fit = merged_fits l p counts q plan fits h k key low (get_or_default (output_keys_of l) k key common_key low) in
      let small = class_small (output_at p k) (extent_at h.extents k).flags in
      let rank : c.cell.rank % 9 ≡ class_of (output_at p k) (extent_at h.extents k).flags =
      omega (arith, small, ap (λ (x : Cell). x.rank) m.2) in
      let type : is_template_type key.type ≡ true =
      ap (λ (o : OutputName). is_template_type o.kind) (sym (output_named l p counts q plan fits h k common_key low))
      ∙ (class_tells (output_at p k) (extent_at h.extents k).flags (ap is_template_class (sym rank) ∙ class)).0 in
      let around_is : around (fit.first ∷ fit.rest) ≡ cell_piece h.starts (home l p counts q plan fits h k) =
      ap around (sym fit.are) ∙ fit.extent in
      let at : number_at h.starts c.cell.number ≡ c.start =
      started (mapped_names p) cells (base_of p) (head_size p counts) (length (mapped_names p)) h.segments h.cells h.address h.offset
      (length h.extents + 4) h.starts h.rows h.have (cells_numbered_apart p counts (mapped_names p) h.extents) c has in
      let number : number_at h.starts k ≡ c.start = ap (λ (x : Cell). number_at h.starts x.number) (sym m.2) ∙ at in
      let size = ap (λ (x : Cell). x.size) m.2 in
      let first = around_begins fit.first fit.rest in
      let last = around_ends fit.first fit.rest in
      let in_pieces : (a : Piece) → Contains (fit.first ∷ fit.rest) a → Contains (pieces_of l q (Merged key)) a =
      λ a one. subst (λ (cs : List Piece). Contains cs a) (sym fit.are) one in
      let s = section_of key first.0 type (in_pieces first.0 first.1) in
      let t = section_of key last.0 type (in_pieces last.0 last.1) in
      record {
        begins = (s.0, s.1, omega (arith, s.2, first.2, ap (λ (x : Piece). x.start) around_is, number));
        ends = (t.0, t.1, omega (arith, t.3, last.2, ap end_of_piece around_is, number, size));
      }

  ends_low : (c : PlacedCell) → Contains h.cells c → end_of_cell c < 2 ^ 64
  ends_low c has =
      let rising = rise (mapped_names p) cells (base_of p) (head_size p counts) (length (mapped_names p)) h.segments h.cells
      h.address h.offset (length h.extents + 4) h.starts h.rows h.have (cells_numbered_apart p counts (mapped_names p) h.extents) in
      let end = All-contains (λ (x : PlacedCell). end_of_cell x ≤ h.address) h.cells c rising.end has in
      omega (arith, end, address_low l p counts q plan fits h)

  -- a cell that is kept
  kept_cell : (cs : List PlacedCell) (c : PlacedCell) → filter is_template_cell h.cells ≡ cs → Contains cs c
      → Contains h.cells c × (is_template_cell c ≡ true)
  kept_cell cs c are has =
      filter_contains is_template_cell h.cells c (subst (λ (xs : List PlacedCell). Contains xs c) (sym are) has)

  pub tight : TemplateIsTight l q q.template
  tight = subst (TemplateIsTight l q) (sym h.from_them.template) (by (filter is_template_cell h.cells) refl)
    where
      by : (cs : List PlacedCell) → filter is_template_cell h.cells ≡ cs → TemplateIsTight l q (fold cover None cs)
      by [] are = tt
      by (c ∷ cs) are =
          let r : Range64 = record { start = c.start; end = behind c.start c.cell.size } in
          let whole = start_kept r cs in
          let e = last_cell r c cs refl in
          let one = kept_cell (c ∷ cs) c are (contains_first c cs) in
          let two = kept_cell (c ∷ cs) e.0 are e.1 in
          let a = (filled c one.0 one.1).begins in
          let z = (filled e.0 two.0 two.1).ends in
          let low = ends_low e.0 two.0 in
          subst (TemplateIsTight l q) (sym whole.1) (record {
            first = a.0;
            begins = (a.1, omega (arith, a.2, whole.2));
            last = z.0;
            ends = (z.1, omega (arith, z.2, e.2, low));
          })

pub templates_tight : TemplatesAreTight
templates_tight l p counts q plan fits h = tight l p counts q plan fits h
