-- The thread-local template.
--
-- Its output sections have the two ranks of `__DATA` that are for it, one behind the other; every other cell has a lower rank than both
-- or a
-- higher one. So cells of the template stand together: the range goes from the start of the first of them to the end of the last, and holds
-- each; any other cell ends before that range or begins behind it, and so does what has another home.
use Rattle.std.proofs.Common.{◌≡◌, ℕ, ◌+◌, ◌*◌, ◌/◌, ◌%◌, ◌^◌, ◌<◌, ◌≤◌, ◌⊎◌, ◌==◌, not, Bool, true, false, List, [], ◌∷◌, ◌++◌, map, filter, length, get_or, fold, All, AllPairs, Contains, None, refl, sym, ap, ◌∙◌, subst, arith, inl, inr}
use Rattle.std.specs.List.{range_with_len}
use Rattle.std.proofs.lemmas.Bool.{false≢true, false_from_ne_true, not-true, and_parts, and_from, or_left, cases_lt, cases_eq, cases_order}
use Rattle.std.proofs.lemmas.Slice.Eq.{bytes_eq-Decides}
use Rattle.std.proofs.lemmas.List.Elements.{All-cons, All-head, All-tail, All-append, All-map, All-weaker, All-filter, All-contains, All-contains_itself}
use Rattle.std.proofs.lemmas.List.FromFn.{length-map-range_with_len, get_or-map-range_with_len}
use Rattle.std.proofs.lemmas.List.Kept.{AllPairs-filter}
use Rattle.macho_records.specs.declared.constants.TheConstants.{S_THREAD_LOCAL_VARIABLES}
use Rattle.macho_records.specs.Sections.{is_template_type, type_of, segment_name_of}
use Rattle.macho_model.specs.declared.placed.Counts.{Counts}
use Rattle.macho_model.specs.declared.placed.PlacedSection.{PlacedSection}
use Rattle.macho_model.specs.declared.placed.PlacedCommon.{PlacedCommon}
use Rattle.macho_model.specs.declared.placed.Range64.{Range64}
use Rattle.macho_model.specs.Links.{Link, SectionId, header_at, carried_of, is_template, is_carried}
use Rattle.macho_model.specs.Segments.{DATA}
use Rattle.macho_model.specs.Placement.{Placed, id_of, linkedit_ranges, template_sections}
use Rattle.macho_model.specs.Zeros.{Span}
use Rattle.macho_model.specs.Spans.{AreApart, section_span, common_span, slot_span, stub_span, range_span, head_span, linkedit_span, spans_with}
use Rattle.macho_model.specs.steps.Parts.{HoldsSpan, TemplateHolds, other_sections}
use Rattle.macho_stack.specs.declared.members.PlacedMember.{PlacedMember}
use Rattle.macho_stack.specs.declared.place.Cell.{Cell}
use Rattle.macho_stack.specs.declared.place.PlacedCell.{PlacedCell}
use Rattle.macho_stack.specs.Stacks.{extent_at}
use Rattle.macho_stack.specs.Ranks.{of_ranks}
use Rattle.macho_layout.specs.declared.spec.OutputName.{OutputName}
use Rattle.macho_layout.specs.Plans.{Planning, IsPlanOf}
use Rattle.macho_layout.specs.Keys.{padded}
use Rattle.macho_layout.specs.Names.{mapped_names, output_at}
use Rattle.macho_layout.specs.Cells.{segment_number, class_of, is_template_class, cells_of, cell_if, made_cells}
use Rattle.macho_layout.specs.Places.{behind, number_at, cover, is_template_cell}
use Rattle.macho_layout.specs.Sums.{FitsLimits, base_of, head_size}
use Rattle.macho_layout.specs.Laid.{IsLaidOut}
use Rattle.macho_layout.proofs.Rooms.{unmapped, ranks_keep}
use Rattle.macho_layout.proofs.Whole.{sections_are_listed}
use Rattle.macho_layout.proofs.Tables.{segment-decides}
use Rattle.macho_layout_laws.proofs.Lists.{zip_all, filter_keeps}
use Rattle.macho_layout_laws.proofs.CellFacts.{cells_numbered_apart, at_start, rise, rank_before, started, placed_has}
use Rattle.macho_layout_laws.proofs.RowFacts.{RowsRise, end_of_cell, CellsRise}
use Rattle.macho_layout_laws.proofs.Members.{SectionAt, CommonAt, sections_zip, commons_zip, section_members, common_members}
use Rattle.macho_layout_laws.proofs.Places.{class_small}
use Rattle.macho_layout_laws.proofs.Scene.{home, MemberStands, section_members_stand, common_members_stand, section_cell, section_segment, common_cell, address_low}
use Rattle.macho_layout_laws.proofs.Made.{init_cell, unwind_cell, stub_cell, slot_cell}
use Rattle.macho_layout_laws.proofs.Counted.{flag_some, output_from, all_ranks, head_is}
use Rattle.macho_layout_laws.proofs.Homes.{AtHome, member_home, member_span, section_span_is, common_span_is, slot_home, stub_home, init_home, unwind_home, AboveAll, tables_above}
use Rattle.macho_layout_laws.proofs.Covering.{class_tells, class_template, two_classes, covers}
use Rattle.macho_model.proofs.Sections.{carried_is, name_in_field}
use Rattle.macho_bytes.proofs.Members.{map_contains, contains_filter}
use Rattle.macho_bytes.proofs.Pairs.{pairs_tail, pairs_head}
use Rattle.macho_bytes.proofs.Maps.{filter-none}

module _ (l : Link) (p : Planning) (counts : Counts) (q : Placed) (plan : IsPlanOf l p) (fits : FitsLimits p counts)
    (h : IsLaidOut p counts q) where
  abbrev cells : List Cell
  cells = cells_of p counts (mapped_names p) h.extents

  abbrev number : ℕ
  number = segment_number (mapped_names p) (padded DATA)

  -- a cell of the template is in `__DATA`
  template_rank : All (λ c. is_template_class (c.rank % 9) ≡ true → c.rank / 9 ≡ number) cells
  unfolding cells_of
  template_rank =
      let P : Cell → Type 0 = λ c. is_template_class (c.rank % 9) ≡ true → c.rank / 9 ≡ number in
      let f : ℕ → Cell = home l p counts q plan fits h in
      let a : Cell = init_cell l p counts q plan fits h in
      let b : Cell = unwind_cell l p counts q plan fits h in
      let c : Cell = stub_cell l p counts q plan fits h in
      let d : Cell = slot_cell l p counts q plan fits h in
      let one : (k : ℕ) → P (f k) = λ k t.
      let small = class_small (output_at p k) (extent_at h.extents k).flags in
      let class : (f k).rank % 9 ≡ class_of (output_at p k) (extent_at h.extents k).flags = omega (arith, small) in
      let is = (segment-decides (output_at p k).segment (padded DATA)).0
      (class_tells (output_at p k) (extent_at h.extents k).flags (ap is_template_class (sym class) ∙ t)).1 in
      omega (arith, small, ap (segment_number (mapped_names p)) is) in
      let merged : All P (map f (range_with_len 0 (length h.extents))) =
      λ k e low. subst P (sym (get_or-map-range_with_len f 0 (length h.extents) k k e
      (omega (arith, low, length-map-range_with_len f 0 (length h.extents))) (omega arith))) (one k) in
      All-append P (map f (range_with_len 0 (length h.extents))) (made_cells p counts (length h.extents)) merged
      (All-append P (cell_if a ++ cell_if b ++ cell_if c) (cell_if d) (All-append P (cell_if a ++ cell_if b) (cell_if c)
      (All-append P (cell_if a) (cell_if b) (flag_some P a (λ _ t. absurd (false≢true t))) (flag_some P b (λ _ t. absurd (false≢true t))))
      (flag_some P c (λ _ t. absurd (false≢true t))))
      (flag_some P d (λ _ t. absurd (false≢true t))))

  -- a placed cell is one of the cells
  placed_from : All (λ (c : PlacedCell). Contains cells c.cell) h.cells
  placed_from =
      unmapped (Contains cells) (λ (c : PlacedCell). c.cell) h.cells (of_ranks 0 (9 * length (mapped_names p)) cells) h.rows.same
      (ranks_keep (Contains cells) 0 (9 * length (mapped_names p)) cells (All-contains_itself cells))

  abbrev template_cells : List PlacedCell
  template_cells = filter is_template_cell h.cells

  rising : RowsRise (base_of p + head_size p counts) h.cells h.address
  rising =
      rise (mapped_names p) cells (base_of p) (head_size p counts) (length (mapped_names p)) h.segments h.cells h.address h.offset
      (length h.extents + 4) h.starts
      h.rows h.have (cells_numbered_apart p counts (mapped_names p) h.extents)

  start_is : (c : PlacedCell) → Contains h.cells c → number_at h.starts c.cell.number ≡ c.start
  start_is c there =
      started (mapped_names p) cells (base_of p) (head_size p counts) (length (mapped_names p)) h.segments h.cells h.address h.offset
      (length h.extents + 4) h.starts
      h.rows h.have (cells_numbered_apart p counts (mapped_names p) h.extents) c there

  before : (a b : Cell) → Contains cells a → Contains cells b → a.rank < b.rank
      → number_at h.starts a.number + a.size ≤ number_at h.starts b.number
  before a b there_a there_b less =
      rank_before (mapped_names p) cells (base_of p) (head_size p counts) (length (mapped_names p)) h.segments h.cells h.address h.offset
      (length h.extents + 4) h.starts
      h.rows h.have (cells_numbered_apart p counts (mapped_names p) h.extents) a b there_a
      (All-contains (λ c. c.rank < 9 * length (mapped_names p)) cells a (all_ranks l p counts q plan fits h) there_a)
      there_b (All-contains (λ c. c.rank < 9 * length (mapped_names p)) cells b (all_ranks l p counts q plan fits h) there_b) less

  -- what is known of each cell of the template
  record InTemplate (c : PlacedCell) : Type 0 where
    there : Contains h.cells c
    class : is_template_class (c.cell.rank % 9) ≡ true

  template_known : All InTemplate template_cells
  template_known =
      filter_keeps is_template_cell InTemplate h.cells (λ k d low passes. record
      { there = All-contains_itself h.cells k d low; class = passes })

  abbrev Plain : Cell → Type 0
  Plain c = is_template_class (c.rank % 9) ≡ false

  -- another cell ends before all cells of the template, or begins behind them
  beside : (c : Cell) → Contains cells c → Plain c
      → All (λ (x : PlacedCell). number_at h.starts c.number + c.size ≤ x.start) template_cells ⊎ All
      (λ (x : PlacedCell). end_of_cell x ≤ number_at h.starts c.number) template_cells
  beside c there plain = elim (cases_lt c.rank (9 * number + 5)) [
    | inl low ↦ inl (λ k d inside.
        let x = template_known k d inside in
        let one = All-contains (λ (c : PlacedCell). Contains cells c.cell) h.cells (get_or template_cells k d) placed_from x.there in
        let rank = All-contains (λ c. is_template_class (c.rank % 9) ≡ true → c.rank / 9 ≡ number) cells
        (get_or template_cells k d).cell template_rank one x.class in
        let less : c.rank < (get_or template_cells k d).cell.rank = elim (two_classes ((get_or template_cells k d).cell.rank % 9) x.class) [
          | inl five ↦ omega (arith, low, rank, five)
          | inr six ↦ omega (arith, low, rank, six)
        ] in
        omega (arith, before c (get_or template_cells k d).cell there one less, start_is (get_or template_cells k d) x.there))
    | inr high ↦ inr (λ k d inside.
        let x = template_known k d inside in
        let one = All-contains (λ (c : PlacedCell). Contains cells c.cell) h.cells (get_or template_cells k d) placed_from x.there in
        let rank = All-contains (λ c. is_template_class (c.rank % 9) ≡ true → c.rank / 9 ≡ number) cells
        (get_or template_cells k d).cell template_rank one x.class in
        let other : 9 * number + 7 ≤ c.rank = past c.rank high plain in
        let less : (get_or template_cells k d).cell.rank < c.rank = elim (two_classes ((get_or template_cells k d).cell.rank % 9) x.class) [
          | inl five ↦ omega (arith, other, rank, five)
          | inr six ↦ omega (arith, other, rank, six)
        ] in
        omega (arith, before (get_or template_cells k d).cell c one there less, start_is (get_or template_cells k d) x.there))
  ]
    where
      past : (r : ℕ) → 9 * number + 5 ≤ r → is_template_class (r % 9) ≡ false → 9 * number + 7 ≤ r
      past r low plain = elim (cases_lt r (9 * number + 7)) [
        | inr more ↦ more
        | inl less ↦ elim (cases_eq r (9 * number + 5)) [
          | inl five ↦ let m : r % 9 ≡ 5 = omega (arith, five) in absurd (false≢true (sym plain ∙ ap is_template_class m))
          | inr not_five ↦
              let six : r ≡ 9 * number + 6 = six_is r low less not_five in
              let m : r % 9 ≡ 6 = omega (arith, six) in
              absurd (false≢true (sym plain ∙ ap is_template_class m))
        ]
      ]
        where
          six_is : (r : ℕ) → 9 * number + 5 ≤ r → r < 9 * number + 7 → (r ≡ 9 * number + 5 → ⊥) → r ≡ 9 * number + 6
          six_is r low less other = elim (cases_order r (9 * number + 6)) [
            | inl same ↦ same
            | inr (inl below) ↦ absurd (other (omega (arith, low, below)))
            | inr (inr above) ↦ absurd (omega (arith, above, less))
          ]

  abbrev StandsM : PlacedMember → Type 0
  StandsM m = MemberStands l p counts q plan fits h m

  abbrev home_of : PlacedMember → Cell
  home_of m = home l p counts q plan fits h m.member.cell

  home_class : (m : PlacedMember) → (home_of m).rank % 9 ≡ class_of (output_at p m.member.cell) (extent_at h.extents m.member.cell).flags
  home_class m = let small = class_small (output_at p m.member.cell) (extent_at h.extents m.member.cell).flags in omega (arith, small)

  kind_is : (s : PlacedSection) (m : PlacedMember) → SectionAt l p h.starts s m → (output_at p m.member.cell).kind ≡ type_of
      (header_at l (id_of s))
  kind_is s m at = ap (λ (o : OutputName). o.kind) (section_cell l p counts q plan fits h s m at).1

  -- a section of the template is in a cell of the template
  section_in : (s : PlacedSection) (m : PlacedMember) → SectionAt l p h.starts s m → StandsM m → is_template (header_at l (id_of s)) ≡ true
      → Contains template_cells (at_start h.starts (home_of m))
  section_in s m at stand template =
      let header = header_at l (id_of s) in
      let type : is_template_type (type_of (header_at l (id_of s))) ≡ true =
      (and_parts (is_carried (header_at l (id_of s))) (is_template_type (type_of (header_at l (id_of s)))) template).1 in
      let local = at.may.thread_local (or_left (is_template_type (type_of (header_at l (id_of s))))
      (type_of (header_at l (id_of s)) == S_THREAD_LOCAL_VARIABLES) type) in
      let name : segment_name_of (header_at l (id_of s)) ≡ DATA = sym (name_in_field (header_at l (id_of s)).segname) ∙
      (bytes_eq-Decides _ DATA).0 local in
      let segment : (output_at p m.member.cell).segment ≡ padded DATA = section_segment l p counts q plan fits h s m at ∙ ap padded name in
      let class : is_template_class ((home_of m).rank % 9) ≡ true
      = ap is_template_class (home_class m) ∙ class_template (output_at p m.member.cell) (extent_at h.extents m.member.cell).flags
      (ap is_template_type (kind_is s m at) ∙ type) segment in
      contains_filter is_template_cell h.cells (at_start h.starts (home_of m))
      (placed_has (mapped_names p) cells (base_of p) (head_size p counts) (length (mapped_names p)) h.segments h.cells h.address h.offset
      (length h.extents + 4) h.starts
      h.rows h.have (cells_numbered_apart p counts (mapped_names p) h.extents) (home_of m) stand.there stand.rank) class

  -- and another section isn't
  section_plain : (s : PlacedSection) (m : PlacedMember) → SectionAt l p h.starts s m → is_template (header_at l (id_of s)) ≡ false → Plain
      (home_of m)
  section_plain s m at plain =
      false_from_ne_true (is_template_class ((home_of m).rank % 9))
      (λ t.
      let type = (class_tells (output_at p m.member.cell) (extent_at h.extents m.member.cell).flags
      (ap is_template_class (sym (home_class m)) ∙ t)).0 in
      let carried = carried_is l (id_of s) at.carried in
      false≢true (sym plain ∙ and_from (is_carried (header_at l (id_of s))) (is_template_type (type_of (header_at l (id_of s)))) carried
      (ap is_template_type (sym (kind_is s m at)) ∙ type)))

  common_plain : (c : PlacedCommon) (m : PlacedMember) → CommonAt l p h.starts c m → Plain (home_of m)
  common_plain c m at =
      ap is_template_class (home_class m) ∙ ap (λ (o : OutputName). is_template_class
      (class_of o (extent_at h.extents m.member.cell).flags)) (common_cell l p counts q plan fits h c m at).1

  -- a cell of the template has a section of the template
  some_section : (c : PlacedCell) → Contains h.cells c → is_template_class (c.cell.rank % 9) ≡ true → (s : SectionId) × Contains
      (carried_of l) s × (is_template (header_at l s) ≡ true)
  unfolding cells_of
  some_section c there class =
      let f : ℕ → Cell = home l p counts q plan fits h in
      let G : Type 0 = (s : SectionId) × Contains (carried_of l) s × (is_template (header_at l s) ≡ true) in
      let P : Cell → Type 0 = λ c. is_template_class (c.rank % 9) ≡ true → G in
      let one : (k : ℕ) → k < length h.extents → P (f k) = λ k inside t.
      let small = class_small (output_at p k) (extent_at h.extents k).flags in
      let e : (f k).rank % 9 ≡ class_of (output_at p k) (extent_at h.extents k).flags = omega (arith, small) in
      let type = (class_tells (output_at p k) (extent_at h.extents k).flags (ap is_template_class (sym e) ∙ t)).0 in
      elim (output_from l p counts q plan fits h k inside) [
        | inl x ↦ (
          x.0,
          x.1,
          and_from (is_carried (header_at l x.0)) (is_template_type (type_of (header_at l x.0))) (carried_is l x.0 x.1)
              (ap (λ (o : OutputName). is_template_type o.kind) (sym x.2) ∙ type),
        )
        | inr common ↦ absurd (false≢true (ap (λ (o : OutputName). is_template_type o.kind) (sym common.0) ∙ type))
      ] in
      let a : Cell = init_cell l p counts q plan fits h in
      let b : Cell = unwind_cell l p counts q plan fits h in
      let x : Cell = stub_cell l p counts q plan fits h in
      let d : Cell = slot_cell l p counts q plan fits h in
      let merged : All P (map f (range_with_len 0 (length h.extents))) =
      λ k e low.
      let inside : k < length h.extents = omega (arith, low, length-map-range_with_len f 0 (length h.extents)) in
      subst P (sym (get_or-map-range_with_len f 0 (length h.extents) k k e inside (omega arith))) (one k inside) in
      let all : All P cells
      = All-append P (map f (range_with_len 0 (length h.extents))) (made_cells p counts (length h.extents)) merged
      (All-append P (cell_if a ++ cell_if b ++ cell_if x) (cell_if d) (All-append P (cell_if a ++ cell_if b) (cell_if x)
      (All-append P (cell_if a) (cell_if b) (flag_some P a (λ _ t. absurd (false≢true t))) (flag_some P b (λ _ t. absurd (false≢true t))))
      (flag_some P x (λ _ t. absurd (false≢true t))))
      (flag_some P d (λ _ t. absurd (false≢true t)))) in
      All-contains P cells c.cell all (All-contains (λ (c : PlacedCell). Contains cells c.cell) h.cells c placed_from there) class

  abbrev is_template_section : PlacedSection → Bool
  is_template_section s = is_template (header_at l (id_of s))

  template_there : (c : PlacedCell) → InTemplate c → 1 ≤ length (template_sections l q)
  template_there c x =
      let s = some_section c x.there x.class in
      let listed : Contains (map id_of q.sections) s.0 = subst (λ (ss : List SectionId). Contains ss s.0)
      (sym (sections_are_listed l p counts q plan h)) s.1 in
      let found = map_contains id_of q.sections s.0 listed in
      let kept = contains_filter is_template_section q.sections found.0 found.1
      (ap (λ (i : SectionId). is_template (header_at l i)) found.2 ∙ s.2) in
      omega (arith, kept.1)

  -- what is beside all cells of the template is apart from their range
  range_apart : (c : PlacedCell) (cs : List PlacedCell) (r : Range64) → template_cells ≡ c ∷ cs → r.start ≡ c.start → r.start ≤ r.end
      → ((m : ℕ) → All (λ (x : PlacedCell). end_of_cell x ≤ m) template_cells → r.end ≤ m) → (n : ℕ) (b : Span)
      → AtHome l p counts q plan fits h Plain n b → AreApart (range_span r) b
  range_apart c cs r are start rises most n b (inl none) = inr (inl none)
  range_apart c cs r are start rises most n b (inr (x, plain)) = elim (beside x.cell x.there plain) [
    | inl low ↦
        let first : number_at h.starts x.cell.number + x.cell.size ≤ c.start
        = All-head (λ (y : PlacedCell). number_at h.starts x.cell.number + x.cell.size ≤ y.start) c cs
        (subst (All (λ (y : PlacedCell). number_at h.starts x.cell.number + x.cell.size ≤ y.start)) are low) in
        inr (inr (inr (omega (arith, first, start, x.high))))
    | inr high ↦ inr (inr (inl (omega (arith, most (number_at h.starts x.cell.number) high, x.low, rises))))
  ]

  template_some : (c : PlacedCell) (cs : List PlacedCell) → template_cells ≡ c ∷ cs → TemplateHolds l counts q (fold cover None (c ∷ cs))
  unfolding spans_with
  template_some c cs are =
      let known : All InTemplate (c ∷ cs) = subst (All InTemplate) are template_known in
      let pairs : AllPairs CellsRise (c ∷ cs) = subst (AllPairs CellsRise) are
      (AllPairs-filter CellsRise is_template_cell h.cells rising.rise) in
      let ends : All (λ (x : PlacedCell). end_of_cell x ≤ h.address) (c ∷ cs) = subst
      (All (λ (x : PlacedCell). end_of_cell x ≤ h.address)) are (All-filter is_template_cell
      (λ (x : PlacedCell). end_of_cell x ≤ h.address) h.cells rising.end) in
      let begins : All (λ (x : PlacedCell). base_of p + head_size p counts ≤ x.start) (c ∷ cs)
      = subst (All (λ (x : PlacedCell). base_of p + head_size p counts ≤ x.start)) are
      (All-filter is_template_cell (λ (x : PlacedCell). base_of p + head_size p counts ≤ x.start) h.cells rising.begin) in
      let small : All (λ (x : PlacedCell). end_of_cell x < 2 ^ 64) (c ∷ cs)
      = All-weaker (λ (x : PlacedCell). end_of_cell x ≤ h.address) (λ (x : PlacedCell). end_of_cell x < 2 ^ 64)
      (λ x e. omega (arith, e, address_low l p counts q plan fits h)) (c ∷ cs) ends in
      let own : end_of_cell c < 2 ^ 64 = All-head (λ (x : PlacedCell). end_of_cell x < 2 ^ 64) c cs small in
      let end : behind c.start c.cell.size ≡ end_of_cell c = omega (arith, own) in
      let r : Range64 = record { start = c.start; end = behind c.start c.cell.size } in
      let later : All (λ (x : PlacedCell). r.end ≤ x.start) cs
      = All-weaker (CellsRise c) (λ (x : PlacedCell). r.end ≤ x.start) (λ x e. omega (arith, e, end)) cs
      (pairs_head CellsRise c cs pairs) in
      let whole = covers r cs (pairs_tail CellsRise c cs pairs) later (All-tail (λ (x : PlacedCell). end_of_cell x < 2 ^ 64) c cs small) in
      let r2 : Range64 = whole.0 in
      let first : r2.start ≡ c.start = whole.1.start in
      let rises : r2.start ≤ r2.end = omega (arith, first, whole.1.more, end) in
      let low : All (λ (x : PlacedCell). r2.start ≤ x.start) (c ∷ cs)
      = All-cons (λ (x : PlacedCell). r2.start ≤ x.start) c cs (omega (arith, first))
      (All-weaker (λ (x : PlacedCell). r.end ≤ x.start) (λ (x : PlacedCell). r2.start ≤ x.start)
      (λ x e. omega (arith, e, first, end)) cs later) in
      let high : All (λ (x : PlacedCell). end_of_cell x ≤ r2.end) (c ∷ cs) = All-cons (λ (x : PlacedCell). end_of_cell x ≤ r2.end) c cs
      (omega (arith, whole.1.more, end)) whole.1.each in
      let most : (m : ℕ) → All (λ (x : PlacedCell). end_of_cell x ≤ m) template_cells → r2.end ≤ m = λ m all.
      let here : All (λ (x : PlacedCell). end_of_cell x ≤ m) (c ∷ cs) = subst (All (λ (x : PlacedCell). end_of_cell x ≤ m)) are all in
      whole.1.most m (omega (arith, end, All-head (λ (x : PlacedCell). end_of_cell x ≤ m) c cs here))
      (All-tail (λ (x : PlacedCell). end_of_cell x ≤ m) c cs here) in
      let apart_home : (n : ℕ) (b : Span) → AtHome l p counts q plan fits h Plain n b → AreApart
      (range_span r2) b = range_apart c cs r2 are first rises most in
      let holds : All (λ s. is_template_section s ≡ true → HoldsSpan r2 (section_span l s)) q.sections
      = zip_all (SectionAt l p h.starts) StandsM (λ s. is_template_section s ≡ true → HoldsSpan r2 (section_span l s))
      (λ s m at stand t.
      let x : Contains (c ∷ cs) (at_start h.starts (home_of m)) = subst
      (λ (xs : List PlacedCell). Contains xs (at_start h.starts (home_of m))) are (section_in s m at stand t) in
      let a = All-contains (λ (x : PlacedCell). r2.start ≤ x.start) (c ∷ cs) (at_start h.starts (home_of m)) low x in
      let b = All-contains (λ (x : PlacedCell). end_of_cell x ≤ r2.end) (c ∷ cs) (at_start h.starts (home_of m)) high x in
      let is = section_span_is l p counts q plan fits h s m (at, stand) in
      let i = ap (λ (y : Span). y.start) is in
      let j = ap (λ (y : Span). y.size) is in
      (omega (arith, a, i), omega (arith, b, i, j, stand.in_cell.ends)))
      q.sections (section_members p h.members) (sections_zip l p counts q plan h) (section_members_stand l p counts q plan fits h) in
      let R : Span → Type 0 = AreApart (range_span r2) in
      let others : All (λ s. R (section_span l s)) (other_sections l q)
      = filter_keeps (λ s. not (is_template_section s)) (λ s. R (section_span l s)) q.sections
      (zip_all (SectionAt l p h.starts) StandsM (λ s. not (is_template_section s) ≡ true → R (section_span l s))
      (λ s m at stand t. subst R (sym (section_span_is l p counts q plan fits h s m (at, stand)))
      (apart_home m.member.cell (member_span l p counts q plan fits h m)
      (member_home l p counts q plan fits h Plain m stand (section_plain s m at (not-true (is_template_section s) t)))))
      q.sections (section_members p h.members) (sections_zip l p counts q plan h) (section_members_stand l p counts q plan fits h)) in
      let commons : All (λ c. R (common_span l c)) q.commons
      = zip_all (CommonAt l p h.starts) StandsM (λ c. R (common_span l c))
      (λ c m at stand. subst R (sym (common_span_is l p counts q plan fits h c m (at, stand)))
      (apart_home m.member.cell (member_span l p counts q plan fits h m)
      (member_home l p counts q plan fits h Plain m stand (common_plain c m at))))
      q.commons (common_members p h.members) (commons_zip l p counts q plan h) (common_members_stand l p counts q plan fits h) in
      let slots : All (λ s. R (slot_span s)) q.slots
      = All-weaker (λ s. AtHome l p counts q plan fits h Plain (length h.extents + 3) (slot_span s)) (λ s. R (slot_span s))
      (λ s x. apart_home (length h.extents + 3) (slot_span s) x) q.slots
      (slot_home l p counts q plan fits h Plain refl) in
      let stubs : All (λ s. R (stub_span s)) q.stubs
      = All-weaker (λ s. AtHome l p counts q plan fits h Plain (length h.extents + 2) (stub_span s)) (λ s. R (stub_span s))
      (λ s x. apart_home (length h.extents + 2) (stub_span s) x) q.stubs
      (stub_home l p counts q plan fits h Plain refl) in
      let init : R (range_span q.init_offsets) = apart_home (length h.extents + 0) (range_span q.init_offsets)
      (init_home l p counts q plan fits h Plain refl) in
      let unwind : R (range_span q.unwind) = apart_home (length h.extents + 1) (range_span q.unwind)
      (unwind_home l p counts q plan fits h Plain refl) in
      let below : r2.end ≤ h.address = most h.address (subst (All (λ (x : PlacedCell). end_of_cell x ≤ h.address)) (sym are) ends) in
      let tables : All R (map (linkedit_span q) (linkedit_ranges q))
      = All-weaker (AboveAll l p counts q plan fits h) R (λ b up. inr (inr (inl (omega (arith, up, below, rises)))))
      (map (linkedit_span q) (linkedit_ranges q)) (tables_above l p counts q plan fits h) in
      let head : R (head_span counts q)
      = inr (inr (inr (omega (
        arith,
        h.from_them.base,
        head_is l p counts q plan fits h,
        first,
        All-head
            (λ (x : PlacedCell). base_of p + head_size p counts ≤ x.start) c cs begins,
      )))) in
      let front : List Span = head_span counts q ∷ map (section_span l) (other_sections l q) in
      let spans : All R (spans_with l counts q (other_sections l q))
      = All-append R (front ++ map (common_span l) q.commons ++ map slot_span q.slots ++ map stub_span q.stubs)
      (range_span q.init_offsets ∷ range_span q.unwind ∷ map (linkedit_span q) (linkedit_ranges q))
      (All-append R (front ++ map (common_span l) q.commons ++ map slot_span q.slots) (map stub_span q.stubs)
      (All-append R (front ++ map (common_span l) q.commons) (map slot_span q.slots)
      (All-append R front (map (common_span l) q.commons) (All-cons R (head_span counts q) (map (section_span l) (other_sections l q)) head
      (All-map R (section_span l) (other_sections l q) others))
      (All-map R (common_span l) q.commons commons)) (All-map R slot_span q.slots slots)) (All-map R stub_span q.stubs stubs))
      (All-cons R (range_span q.init_offsets) (range_span q.unwind ∷ map (linkedit_span q) (linkedit_ranges q)) init
      (All-cons R (range_span q.unwind) (map (linkedit_span q) (linkedit_ranges q)) unwind tables)) in
      subst (TemplateHolds l counts q) (sym whole.1.same) (record {
        some = template_there c (All-head InTemplate c cs known);
        holds = filter_keeps is_template_section (λ s. HoldsSpan r2 (section_span l s)) q.sections holds;
        apart = spans;
      })

  template_none : template_cells ≡ [] → TemplateHolds l counts q None
  template_none are =
      filter-none is_template_section q.sections
      (zip_all (SectionAt l p h.starts) StandsM (λ s. is_template_section s ≡ false)
      (λ s m at stand. false_from_ne_true (is_template_section s)
      (λ t. let x : Contains [] (at_start h.starts (home_of m)) = subst
      (λ (xs : List PlacedCell). Contains xs (at_start h.starts (home_of m))) are (section_in s m at stand t) in absurd
      (omega (arith, x.1))))
      q.sections (section_members p h.members) (sections_zip l p counts q plan h) (section_members_stand l p counts q plan fits h))

  -- the template is told where it has sections, and holds them alone
  pub template_holds : TemplateHolds l counts q q.template
  template_holds = subst (TemplateHolds l counts q) (sym h.from_them.template) (by template_cells refl)
    where
      by : (cs : List PlacedCell) → template_cells ≡ cs → TemplateHolds l counts q (fold cover None cs)
      by [] are = template_none are
      by (c ∷ cs) are = template_some c cs are
