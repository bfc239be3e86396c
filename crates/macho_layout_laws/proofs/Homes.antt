-- No two parts share an address.
--
-- Each part lies in a cell, its home; two parts with different homes are apart, since their cells are. In one cell, members stand one
-- behind
-- the other, and so do slots, and stubs. Header and commands end before the first cell, and all cells end before the tables.
use Rattle.std.proofs.Common.{◌≡◌, ℕ, ◌+◌, ◌*◌, ◌-◌, ◌<◌, ◌≤◌, ◌⊎◌, List, ◌++◌, map, length, get_or, All, AllPairs, Contains, refl, sym, ap, ◌∙◌, arith, inl, inr}
use Rattle.std.proofs.lemmas.Bool.{cases_lt, cases_eq}
use Rattle.std.proofs.lemmas.List.{map-append, take-append-drop}
use Rattle.std.proofs.lemmas.List.Elements.{All-map}
use Rattle.macho_records.specs.Symbols.{common_size_of}
use Rattle.macho_model.specs.declared.placed.Counts.{Counts}
use Rattle.macho_model.specs.declared.placed.PlacedSection.{PlacedSection}
use Rattle.macho_model.specs.declared.placed.PlacedCommon.{PlacedCommon}
use Rattle.macho_model.specs.declared.placed.PlacedSegment.{PlacedSegment}
use Rattle.macho_model.specs.declared.placed.Range64.{Range64}
use Rattle.macho_model.specs.Links.{Link, header_at}
use Rattle.macho_model.specs.Resolution.{entry_at}
use Rattle.macho_model.specs.Placement.{Placed, id_of, common_of, linkedit_ranges}
use Rattle.macho_model.specs.Zeros.{Span}
use Rattle.macho_model.specs.Spans.{AreApart, section_span, common_span, slot_span, stub_span, range_span, linkedit_span}
use Rattle.macho_model.specs.Lists.{of_first}
use Rattle.macho_stack.specs.declared.members.Member.{Member}
use Rattle.macho_stack.specs.declared.members.PlacedMember.{PlacedMember}
use Rattle.macho_stack.specs.declared.place.Cell.{Cell}
use Rattle.macho_layout.specs.Plans.{Planning, IsPlanOf}
use Rattle.macho_layout.specs.Names.{mapped_names}
use Rattle.macho_layout.specs.Places.{number_at}
use Rattle.macho_layout.specs.Cells.{cells_of}
use Rattle.macho_layout.specs.Sums.{FitsLimits, base_of, head_size}
use Rattle.macho_layout.specs.Laid.{IsLaidOut}
use Rattle.macho_layout.proofs.TableRooms.{names_some}
use Rattle.macho_layout_laws.proofs.Lists.{zip_map, zip_and}
use Rattle.macho_layout_laws.proofs.CellFacts.{cells_apart, cells_numbered_apart}
use Rattle.macho_layout_laws.proofs.Members.{SectionAt, CommonAt, sections_zip, commons_zip, section_members, common_members}
use Rattle.macho_layout_laws.proofs.Scene.{home, stands, MemberStands, members_stand, section_members_stand, common_members_stand}
use Rattle.macho_layout_laws.proofs.Made.{init_cell, unwind_cell, stub_cell, slot_cell, init_there, unwind_there, stubs_there, slots_there, slots_rank, init_range, unwind_range}
use Rattle.macho_layout_laws.proofs.Segments.{last_alone}
use Rattle.macho_layout_laws.proofs.Lying.{slot_at, stub_at, ranges_between}
use Rattle.macho_bytes.proofs.Pairs.{pairs_map}

module _ (l : Link) (p : Planning) (counts : Counts) (q : Placed) (plan : IsPlanOf l p) (fits : FitsLimits p counts)
    (h : IsLaidOut p counts q) where
  abbrev StandsM : PlacedMember → Type 0
  StandsM m = MemberStands l p counts q plan fits h m

  -- a part lies in a cell
  pub record HomedIn (n : ℕ) (span : Span) : Type 0 where
    pub cell : Cell
    pub number : cell.number ≡ n
    pub there : Contains (cells_of p counts (mapped_names p) h.extents) cell
    pub rank : cell.rank < 9 * length (mapped_names p)
    pub low : number_at h.starts cell.number ≤ span.start
    pub high : span.start + span.size ≤ number_at h.starts cell.number + cell.size

  -- a part is empty, or lies in the cell of a number that keeps something
  abbrev pub AtHome : (Cell → Type 0) → ℕ → Span → Type 0
  AtHome P n span = (span.size ≡ 0) ⊎ ((x : HomedIn n span) × P x.cell)

  abbrev pub Any : Cell → Type 0
  Any c = Unit {0}

  pub homes_apart : (n m : ℕ) (a b : Span) → AtHome Any n a → AtHome Any m b → (n ≡ m → ⊥) → AreApart a b
  homes_apart n m a b (inl none) y other = inl none
  homes_apart n m a b (inr x) (inl none) other = inr (inl none)
  homes_apart n m a b (inr (x, _)) (inr (y, _)) other =
      elim (cells_apart (mapped_names p) (cells_of p counts (mapped_names p) h.extents) (base_of p) (head_size p counts)
      (length (mapped_names p)) h.segments h.cells h.address h.offset (length h.extents + 4) h.starts
      h.rows h.have (cells_numbered_apart p counts (mapped_names p) h.extents) x.cell y.cell x.there x.rank y.there y.rank
      (λ e. other (sym x.number ∙ e ∙ y.number))) [
        | inl before ↦ inr (inr (inl (omega (arith, before, x.high, y.low))))
        | inr after ↦ inr (inr (inr (omega (arith, after, y.high, x.low))))
      ]

  -- members as ranges of addresses
  abbrev pub member_span : PlacedMember → Span
  member_span m = record { start = number_at h.starts m.member.cell + m.offset; size = m.member.size }

  pub member_home : (P : Cell → Type 0) (m : PlacedMember) → StandsM m → P (home l p counts q plan fits h m.member.cell)
      → AtHome P m.member.cell (member_span m)
  member_home P m s keep = inr (
    record {
      cell = home l p counts q plan fits h m.member.cell;
      number = refl;
      there = s.there;
      rank = s.rank;
      low = omega arith;
      high = omega (arith, s.in_cell.ends);
    },
    keep,
  )

  pub section_span_is : (s : PlacedSection) (m : PlacedMember) → SectionAt l p h.starts s m × StandsM m → section_span l s ≡ member_span m
  section_span_is s m (at, stand) =
      ap (λ (n : ℕ). record { start = n; size = (header_at l (id_of s)).size }) (at.address ∙ stand.plain)
      ∙ ap (λ (n : ℕ). record { start = number_at h.starts m.member.cell + m.offset; size = n })
      (sym (ap (λ (x : Member). x.size) at.member))

  pub common_span_is : (c : PlacedCommon) (m : PlacedMember) → CommonAt l p h.starts c m × StandsM m → common_span l c ≡ member_span m
  common_span_is c m (at, stand) =
      ap (λ (n : ℕ). record { start = n; size = common_size_of (entry_at l (common_of l c.id)) }) (at.address ∙ stand.plain)
      ∙ ap (λ (n : ℕ). record { start = number_at h.starts m.member.cell + m.offset; size = n })
      (sym (ap (λ (x : Member). x.size) at.member))

  abbrev member_parts : List Span
  member_parts = map (section_span l) q.sections ++ map (common_span l) q.commons

  -- sections and commons are the members' ranges
  pub members_are : map (section_span l) q.sections ++ map (common_span l) q.commons ≡ map member_span h.members
  members_are =
      let one : map (section_span l) q.sections ≡ map member_span (section_members p h.members)
      = zip_map (λ s m. SectionAt l p h.starts s m × StandsM m) (section_span l) member_span section_span_is q.sections
      (section_members p h.members)
      (zip_and (SectionAt l p h.starts) StandsM q.sections (section_members p h.members) (sections_zip l p counts q plan h)
      (section_members_stand l p counts q plan fits h)) in
      let two : map (common_span l) q.commons ≡ map member_span (common_members p h.members)
      = zip_map (λ c m. CommonAt l p h.starts c m × StandsM m) (common_span l) member_span common_span_is q.commons
      (common_members p h.members)
      (zip_and (CommonAt l p h.starts) StandsM q.commons (common_members p h.members) (commons_zip l p counts q plan h)
      (common_members_stand l p counts q plan fits h)) in
      ap (λ (xs : List Span). xs ++ map (common_span l) q.commons) one ∙ ap
      (λ (xs : List Span). map member_span (section_members p h.members) ++ xs) two
      ∙ sym (map-append member_span (section_members p h.members) (common_members p h.members)) ∙ ap (map member_span)
      (take-append-drop (length p.sections) h.members)

  pub members_apart : AllPairs AreApart (map member_span h.members)
  members_apart =
      pairs_map AreApart member_span h.members
      (λ i j d before within.
      let a : PlacedMember = get_or h.members i d in
      let b : PlacedMember = get_or h.members j d in
      let sa = members_stand l p counts q plan fits h i d (omega arith) in
      let sb = members_stand l p counts q plan fits h j d within in
      elim (cases_eq a.member.cell b.member.cell) [
        | inl same ↦
            let e = ap (number_at h.starts) same in
            inr (inr (inl (omega (arith, e, h.stacked.order i j d before within same))))
        | inr other ↦ homes_apart a.member.cell b.member.cell (member_span a) (member_span b) (member_home Any a sa tt)
            (member_home Any b sb tt) other
      ])

  -- slots and stubs
  pub slot_home : (P : Cell → Type 0) → P (slot_cell l p counts q plan fits h) → All
      (λ s. AtHome P (length h.extents + 3) (slot_span s)) q.slots
  slot_home P keep k d low =
      let at = slot_at l p counts q plan fits h k d low in
      let some : 0 < length p.slots = omega (arith, at.0) in
      inr (
        record {
          cell = slot_cell l p counts q plan fits h;
          number = refl;
          there = slots_there l p counts q plan fits h some;
          rank = slots_rank l p counts q plan fits h some;
          low = omega (arith, at.1);
          high = omega (arith, at.1, at.0);
        },
        keep,
      )

  pub stub_home : (P : Cell → Type 0) → P (stub_cell l p counts q plan fits h) → All
      (λ s. AtHome P (length h.extents + 2) (stub_span s)) q.stubs
  stub_home P keep k d low =
      let at = stub_at l p counts q plan fits h k d low in
      let some : 0 < length p.stubs = omega (arith, at.0) in
      inr (
        record {
          cell = stub_cell l p counts q plan fits h;
          number = refl;
          there = stubs_there l p counts q plan fits h some;
          rank = omega (arith, names_some p);
          low = omega (arith, at.1);
          high = omega (arith, at.1, at.0);
        },
        keep,
      )

  pub init_home : (P : Cell → Type 0) → P (init_cell l p counts q plan fits h) → AtHome P (length h.extents + 0) (range_span q.init_offsets)
  init_home P keep =
      let r = init_range l p counts q plan fits h in
      elim (cases_lt 0 counts.initializers) [
        | inl some ↦ inr (
          record {
            cell = init_cell l p counts q plan fits h;
            number = refl;
            there = init_there l p counts q plan fits h some;
            rank = omega (arith, names_some p);
            low = omega (arith, r.0);
            high = omega (arith, r.0, r.1);
          },
          keep,
        )
        | inr none ↦ inl (omega (arith, r.1, none))
      ]

  pub unwind_home : (P : Cell → Type 0) → P (unwind_cell l p counts q plan fits h) → AtHome P (length h.extents + 1) (range_span q.unwind)
  unwind_home P keep =
      let r = unwind_range l p counts q plan fits h in
      elim (cases_lt 0 counts.unwind) [
        | inl some ↦ inr (
          record {
            cell = unwind_cell l p counts q plan fits h;
            number = refl;
            there = unwind_there l p counts q plan fits h some;
            rank = omega (arith, names_some p);
            low = omega (arith, r.0);
            high = omega (arith, r.0, r.1);
          },
          keep,
        )
        | inr none ↦ inl (omega (arith, r.1, none))
      ]

  pub slots_apart : AllPairs AreApart (map slot_span q.slots)
  slots_apart =
      pairs_map AreApart slot_span q.slots
      (λ i j d before within.
      inr (inr (inl (omega (
        arith,
        (slot_at l p counts q plan fits h i d (omega arith)).1,
        (slot_at l p counts q plan fits h j d within).1,
        before,
      )))))

  pub stubs_apart : AllPairs AreApart (map stub_span q.stubs)
  stubs_apart =
      pairs_map AreApart stub_span q.stubs
      (λ i j d before within.
      inr (inr (inl (omega (
        arith,
        (stub_at l p counts q plan fits h i d (omega arith)).1,
        (stub_at l p counts q plan fits h j d within).1,
        before,
      )))))

  -- what lies in a cell is behind the head and before the tables
  pub home_between : (P : Cell → Type 0) (n : ℕ) (a : Span) → AtHome P n a → (a.size ≡ 0) ⊎
      ((base_of p + head_size p counts ≤ a.start) × (a.start + a.size ≤ h.address))
  home_between P n a (inl none) = inl none
  home_between P n a (inr (x, _)) =
      let s = stands l p counts q plan fits h x.cell x.there x.rank in
      inr (omega (arith, s.low, x.low), omega (arith, s.high, x.high))

  abbrev pub AboveAll : Span → Type 0
  AboveAll a = h.address ≤ a.start

  pub table_span_is : (r : Range64) → h.offset ≤ r.start → (linkedit_span q r).start ≡ h.address + (r.start - h.offset)
  table_span_is r low =
      ap (λ (ss : List PlacedSegment). of_first r.start (λ (s : PlacedSegment). s.address + r.start - s.file_offset) ss)
      (last_alone l p counts q plan fits h) ∙ omega (arith, low)

  pub tables_above : All AboveAll (map (linkedit_span q) (linkedit_ranges q))
  tables_above =
      All-map AboveAll (linkedit_span q) (linkedit_ranges q)
      (λ k d low. let r = ranges_between l p counts q plan fits h k d low in omega
      (arith, table_span_is (get_or (linkedit_ranges q) k d) r.0))
