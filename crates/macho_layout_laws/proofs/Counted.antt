-- All cells are placed, so header and load commands are as long as the plan says.
--
-- Each merged output section has the name of some carried section, or it is that of the commons, so its segment is mapped; so all ranks
-- are those of rows. Thus there are as many output sections as cells, and as many segments as rows and the linker's own.
use Rattle.std.proofs.Common.{◌≡◌, ℕ, zero, suc, ◌+◌, ◌*◌, ◌<◌, ◌≤◌, ◌⊎◌, ◌==◌, nat_lt, not, Bool, true, false, cond, List, [], ◌∷◌, ◌++◌, map, filter, length, get_or, sum_by, All, Contains, refl, sym, ap, ◌∙◌, subst, arith, inl, inr}
use Rattle.std.specs.List.{list_any, range_with_len}
use Rattle.std.proofs.lemmas.Bool.{ne_eqb, lt-ltb, le-ltb, ltb-true, or_right, cases_lt, and_parts}
use Rattle.std.proofs.lemmas.Nat.{mul-lt}
use Rattle.std.proofs.lemmas.List.{get_or-map, get_or_past, length-map, length-append}
use Rattle.std.proofs.lemmas.List.Elements.{All-nil, All-cons, All-append, All-contains, All-contains_itself}
use Rattle.std.proofs.lemmas.List.FromFn.{length-map-range_with_len, get_or-map-range_with_len}
use Rattle.std.proofs.lemmas.List.Sums.{sum_by-cons}
use Rattle.macho_records.specs.Sections.{segment_name_of}
use Rattle.macho_model.specs.declared.placed.Counts.{Counts}
use Rattle.macho_model.specs.declared.placed.PlacedSegment.{PlacedSegment}
use Rattle.macho_model.specs.Links.{Link, SectionId, header_at, carried_of}
use Rattle.macho_model.specs.Resolution.{chosen_commons}
use Rattle.macho_model.specs.Segments.{DATA, has_section_in, key_of, same_key, list_if, one_if}
use Rattle.macho_model.specs.Placement.{Placed, head_size as model_head}
use Rattle.macho_stack.specs.declared.place.Cell.{Cell}
use Rattle.macho_stack.specs.declared.place.PlacedCell.{PlacedCell}
use Rattle.macho_stack.specs.Ranks.{of_ranks}
use Rattle.macho_stack.proofs.Ranks.{ranks-below, is_below}
use Rattle.macho_layout.specs.declared.spec.OutputName.{OutputName}
use Rattle.macho_layout.specs.Plans.{Planning, IsPlanOf, MayStand, spec_of}
use Rattle.macho_layout.specs.Keys.{padded}
use Rattle.macho_layout.specs.Names.{mapped_names, section_outputs, has_new_commons, output_at, COMMON_NAME}
use Rattle.macho_layout.specs.Cells.{cell_if, made_cells, cells_of}
use Rattle.macho_layout.specs.Headers.{header_of}
use Rattle.macho_layout.specs.Sums.{FitsLimits, head_size, output_count}
use Rattle.macho_layout.specs.Laid.{IsLaidOut, zero_page}
use Rattle.macho_layout.proofs.SumLaw.{output_key, outputs_are, outputs_once, commons_many}
use Rattle.macho_layout.proofs.TableRooms.{names_some, rows_many}
use Rattle.macho_layout.proofs.Tests.{length-list_if}
use Rattle.macho_layout_laws.proofs.Names.{IsName, name_twice, segment_key_is, all_distinct}
use Rattle.macho_layout_laws.proofs.Places.{IsMapped, section_mapped, data_mapped}
use Rattle.macho_layout_laws.proofs.Members.{may_stand}
use Rattle.macho_layout_laws.proofs.Scene.{home, home_rank, extents_many}
use Rattle.macho_layout_laws.proofs.Made.{init_cell, unwind_cell, stub_cell, slot_cell, slots_rank}
use Rattle.macho_layout_laws.proofs.Segments.{segments_are, last_segment}
use Rattle.macho_bytes.proofs.Maps.{filter-all}

ones : {X : Type 0} (xs : List X) → sum_by (λ x. 1) xs ≡ length xs
ones [] = refl
ones (x ∷ xs) = omega (arith, sum_by-cons (λ x. 1) x xs, ones xs)

-- a cell that is there only where it isn't empty
pub flag_some : (P : Cell → Type 0) (c : Cell) → (0 < c.size → P c) → All P (cell_if c)
flag_some P c h = by (nat_lt 0 c.size) refl
  where
    by : (b : Bool) → nat_lt 0 c.size ≡ b → All P (cond b (c ∷ []) [])
    by true is = All-cons P c [] (h (ltb-true 0 c.size is)) (All-nil P)
    by false is = All-nil P

flag_length : (c : Cell) (n k : ℕ) → c.size ≡ n * k → 0 < n → length (cell_if c) ≡ one_if (nat_lt 0 k)
flag_length c n k is some = elim (cases_lt 0 k) [
  | inl more ↦
      let x : nat_lt 0 c.size ≡ true = lt-ltb 0 c.size (omega (arith, is, mul-lt 0 0 n k some more)) in
      let y : nat_lt 0 k ≡ true = lt-ltb 0 k more in
      ap (λ (b : Bool). length (cond b (c ∷ []) [])) x ∙ sym (ap one_if y)
  | inr none ↦
      let e : k ≡ 0 = omega (arith, none) in
      let x : nat_lt 0 c.size ≡ false = le-ltb 0 c.size (omega (arith, is, ap (λ (i : ℕ). n * i) e)) in
      let y : nat_lt 0 k ≡ false = le-ltb 0 k (omega (arith, none)) in
      ap (λ (b : Bool). length (cond b (c ∷ []) [])) x ∙ sym (ap one_if y)
]

pub positive : (k : ℕ) → nat_lt 0 k ≡ not (k == 0)
positive zero = refl
positive (suc k) = lt-ltb 0 (suc k) (omega arith) ∙ sym (ap not (ne_eqb (suc k) 0 (λ e. omega arith)))

module _ (l : Link) (p : Planning) (counts : Counts) (q : Placed) (plan : IsPlanOf l p) (fits : FitsLimits p counts)
    (h : IsLaidOut p counts q) where
  -- the segment of a merged output section
  pub output_mapped : (k : ℕ) → k < length h.extents → (n : List ℕ) × ((output_at p k).segment ≡ padded n) × IsName n × IsMapped l n
  output_mapped k low = elim (cases_lt k (length (section_outputs p))) [
    | inl inside ↦
        let long : length (section_outputs p) ≡ length (outputs_once l) = ap length (outputs_are l p plan) ∙ length-map (outputs_once l)
        (output_key l) in
        let d : SectionId = record { file = 0; section = 0 } in
        let s : SectionId = get_or (outputs_once l) k (record { file = 0; section = 0 }) in
        let there : Contains (carried_of l) s
        = all_distinct (Contains (carried_of l)) (λ a b. same_key (key_of (header_at l a)) (key_of (header_at l b))) (carried_of l)
        (All-contains_itself (carried_of l)) k d (omega (arith, inside, long)) in
        let may = All-contains (λ (x : SectionId). MayStand (spec_of l x)) (carried_of l) s (may_stand l p counts q plan h) there in
        let is : output_at p k ≡ output_key l s
        = ap (λ (ns : List OutputName). get_or ns k COMMON_NAME) (outputs_are l p plan) ∙ get_or-map (output_key l)
        (outputs_once l) k d COMMON_NAME (omega (arith, inside, long)) in (
          segment_name_of (header_at l s),
          ap (λ (o : OutputName). o.segment) is ∙ segment_key_is l s,
          name_twice
              (header_at l s).segname,
          section_mapped l s there may,
        )
    | inr past ↦
        let new : one_if (has_new_commons p) ≡ 1 = omega (
          arith,
          past,
          low,
          extents_many l p counts q plan fits h,
          one_small
              (has_new_commons p),
        ) in
        let some : not (length p.commons == 0) ≡ true = (and_parts (not (length p.commons == 0)) (not (list_any _ (section_outputs p)))
        (one_true (has_new_commons p) new)).0 in
        let many : not (length (chosen_commons l) == 0) ≡ true = ap (λ (n : ℕ). not (n == 0)) (sym (commons_many l p plan)) ∙ some in (
          DATA,
          ap (λ (o : OutputName). o.segment) (get_or_past (section_outputs p) k COMMON_NAME past),
          refl,
          data_mapped l
              (or_right (has_section_in l DATA) (not (length (chosen_commons l) == 0)) many),
        )
  ]
    where
      one_small : (b : Bool) → one_if b ≤ 1
      one_small true = omega arith
      one_small false = omega arith

      one_true : (b : Bool) → one_if b ≡ 1 → b ≡ true
      one_true true e = refl
      one_true false e = absurd (omega (arith, e))

  -- a merged output section has the name of a carried section, or that of the commons
  pub output_from : (k : ℕ) → k < length h.extents → ((s : SectionId) × Contains (carried_of l) s × (output_at p k ≡ output_key l s)) ⊎
      ((output_at p k ≡ COMMON_NAME) × (0 < length p.commons))
  output_from k low = elim (cases_lt k (length (section_outputs p))) [
    | inl inside ↦
        let long : length (section_outputs p) ≡ length (outputs_once l) = ap length (outputs_are l p plan) ∙ length-map (outputs_once l)
        (output_key l) in
        let d : SectionId = record { file = 0; section = 0 } in
        inl (
          get_or (outputs_once l) k d,
          all_distinct (Contains (carried_of l)) (λ a b. same_key (key_of (header_at l a)) (key_of (header_at l b))) (carried_of l)
              (All-contains_itself (carried_of l)) k d (omega (arith, inside, long)),
          ap (λ (ns : List OutputName). get_or ns k COMMON_NAME) (outputs_are l p plan) ∙ get_or-map (output_key l)
              (outputs_once l) k d COMMON_NAME (omega (arith, inside, long)),
        )
    | inr past ↦
        let new : one_if (has_new_commons p) ≡ 1 = omega (
          arith,
          past,
          low,
          extents_many l p counts q plan fits h,
          one_small
              (has_new_commons p),
        ) in
        let some : not (length p.commons == 0) ≡ true = (and_parts (not (length p.commons == 0)) (not (list_any _ (section_outputs p)))
        (one_true (has_new_commons p) new)).0 in
        inr (get_or_past (section_outputs p) k COMMON_NAME past, ltb-true 0 (length p.commons) (positive (length p.commons) ∙ some))
  ]
    where
      one_small : (b : Bool) → one_if b ≤ 1
      one_small true = omega arith
      one_small false = omega arith

      one_true : (b : Bool) → one_if b ≡ 1 → b ≡ true
      one_true true e = refl
      one_true false e = absurd (omega (arith, e))

  -- all ranks are those of rows
  pub all_ranks : All (λ c. c.rank < 9 * length (mapped_names p)) (cells_of p counts (mapped_names p) h.extents)
  unfolding cells_of
  all_ranks =
      let P : Cell → Type 0 = λ c. c.rank < 9 * length (mapped_names p) in
      let f : ℕ → Cell = home l p counts q plan fits h in
      let a : Cell = init_cell l p counts q plan fits h in
      let b : Cell = unwind_cell l p counts q plan fits h in
      let c : Cell = stub_cell l p counts q plan fits h in
      let d : Cell = slot_cell l p counts q plan fits h in
      let some = names_some p in
      let merged : All P (map f (range_with_len 0 (length h.extents))) =
      λ k e low.
      let inside : k < length h.extents = omega (arith, low, length-map-range_with_len f 0 (length h.extents)) in
      let o = output_mapped k inside in
      subst P (sym (get_or-map-range_with_len f 0 (length h.extents) k k e inside (omega arith)))
      (home_rank l p counts q plan fits h k o.0 o.1 o.2 o.3).0 in
      All-append P (map f (range_with_len 0 (length h.extents))) (made_cells p counts (length h.extents)) merged
      (All-append P (cell_if a ++ cell_if b ++ cell_if c) (cell_if d) (All-append P (cell_if a ++ cell_if b) (cell_if c)
      (All-append P (cell_if a) (cell_if b) (flag_some P a (λ _. omega (arith, some))) (flag_some P b (λ _. omega (arith, some))))
      (flag_some P c (λ _. omega (arith, some))))
      (flag_some P d (λ more. slots_rank l p counts q plan fits h (omega (arith, more)))))

  -- as many output sections as the plan counts
  pub outputs_many : length q.output_sections ≡ output_count p counts
  unfolding cells_of
  outputs_many =
      let cells : List Cell = cells_of p counts (mapped_names p) h.extents in
      let n : ℕ = 9 * length (mapped_names p) in
      let f : ℕ → Cell = home l p counts q plan fits h in
      let a : Cell = init_cell l p counts q plan fits h in
      let b : Cell = unwind_cell l p counts q plan fits h in
      let c : Cell = stub_cell l p counts q plan fits h in
      let d : Cell = slot_cell l p counts q plan fits h in
      let low : All (λ x. is_below (9 * length (mapped_names p)) x ≡ true) cells = λ k e inside. lt-ltb (get_or cells k e).rank n
      (all_ranks k e inside) in
      let placed : length h.cells ≡ length cells
      = sym (length-map h.cells (λ (x : PlacedCell). x.cell)) ∙ ap length h.rows.same ∙ sym (ones (of_ranks 0 n cells)) ∙ ranks-below
      (λ x. 1) n cells
      ∙ ones (filter (is_below n) cells) ∙ ap length (filter-all (is_below n) cells low) in
      let headers : length q.output_sections ≡ length h.cells = ap length h.from_them.output_sections ∙ length-map h.cells
      (header_of p h.extents h.segments) in
      omega (
        arith,
        headers,
        placed,
        length-append (map f (range_with_len 0 (length h.extents))) (made_cells p counts (length h.extents)),
        length-map-range_with_len f 0 (length h.extents),
        length-append (cell_if a ++ cell_if b ++ cell_if c) (cell_if d),
        length-append (cell_if a ++ cell_if b) (cell_if c),
        length-append (cell_if a) (cell_if b),
        flag_length a 4 counts.initializers refl (omega arith),
        flag_length b 1 counts.unwind (omega arith) (omega arith),
        flag_length c 12 (length p.stubs) refl (omega arith),
        flag_length d 8 (length p.slots) refl (omega arith),
        ap one_if (positive (length p.stubs)),
        ap one_if (positive (length p.slots)),
        extents_many l p counts q plan fits h,
      )

  pub segments_count : length q.segments ≡ length (mapped_names p) + 1 + one_if p.executable
  segments_count =
      let z : List PlacedSegment = list_if p.executable (zero_page ∷ []) in
      omega (
        arith,
        ap length (segments_are l p counts q plan fits h),
        length-append (z ++ h.segments) (last_segment l p counts q plan fits h ∷ []),
        length-append z h.segments,
        length-list_if p.executable zero_page,
        rows_many (mapped_names p) _ _ _ (length (mapped_names p)) h.segments h.cells h.address h.offset h.rows,
      )

  -- header, load commands and padding
  pub head_is : model_head counts q ≡ head_size p counts
  head_is = omega (arith, segments_count, outputs_many)
