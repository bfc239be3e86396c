-- Each part is aligned and lies in its segment.
--
-- A member stands at a multiple of its alignment in its cell, and the cell at a multiple of a greater power of two. The rank of a
-- cell tells the segment that holds it, and that its bytes are in the file part where it is filled. Slots, stubs and ranges lie in
-- their cells, tables between the offset of `__LINKEDIT` and the end of the signature.
use Rattle.std.proofs.Common.{◌≡◌, ℕ, ◌+◌, ◌*◌, ◌/◌, ◌%◌, ◌^◌, ◌<◌, ◌≤◌, ◌==◌, ◌&&◌, not, if◌then◌else◌, Bool, true, false, List, [], ◌∷◌, ◌++◌, filter, length, get_or, All, Contains, refl, sym, ap, ◌∙◌, subst, arith, inl, inr}
use Rattle.std.proofs.lemmas.Bool.{false≢true, and_parts, not-true, cases_lt}
use Rattle.std.proofs.lemmas.Nat.{pow_pos}
use Rattle.std.proofs.lemmas.Slice.Eq.{bytes_eq-Decides}
use Rattle.std.proofs.lemmas.List.Elements.{All-from_recursion, Contains-push}
use Rattle.macho_records.specs.Sections.{is_zerofill, is_zerofill_type, segment_name_of}
use Rattle.macho_records.specs.Symbols.{common_exponent_of, common_size_of}
use Rattle.macho_records.specs.Segments.{text_of}
use Rattle.macho_model.specs.declared.placed.Counts.{Counts}
use Rattle.macho_model.specs.declared.placed.Linkedit.{Linkedit}
use Rattle.macho_model.specs.declared.placed.PlacedSection.{PlacedSection}
use Rattle.macho_model.specs.declared.placed.PlacedCommon.{PlacedCommon}
use Rattle.macho_model.specs.declared.placed.PlacedSegment.{PlacedSegment}
use Rattle.macho_model.specs.declared.placed.Range64.{Range64}
use Rattle.macho_model.specs.declared.placed.Slot.{Slot}
use Rattle.macho_model.specs.declared.placed.Stub.{Stub}
use Rattle.macho_model.specs.Lists.{IsNumber}
use Rattle.macho_model.specs.Links.{Link, SectionId, header_at, carried_of, sections_of, is_carried, placed_exponent}
use Rattle.macho_model.specs.Resolution.{entry_at}
use Rattle.macho_model.specs.Segments.{TEXT, DATA_CONST, DATA, list_if, one_if}
use Rattle.macho_model.specs.Placement.{Placed, id_of, common_of, is_segment_named, linkedit_ranges}
use Rattle.macho_model.specs.Zeros.{Span}
use Rattle.macho_model.specs.Spans.{section_span, common_span, slot_span, stub_span, range_span}
use Rattle.macho_model.specs.steps.Parts.{LiesIn, LiesInNamed, SectionLies, TableLies, RangeLies, IsAligned, IsInSegment}
use Rattle.macho_stack.specs.declared.members.Member.{Member}
use Rattle.macho_stack.specs.declared.members.PlacedMember.{PlacedMember}
use Rattle.macho_stack.specs.declared.place.Cell.{Cell}
use Rattle.macho_stack.specs.Stacks.{extent_at}
use Rattle.macho_stack.proofs.Multiples.{rounded-same, rounded-shift, rounded-multiple, multiple-weaker}
use Rattle.macho_layout.specs.declared.spec.OutputName.{OutputName}
use Rattle.macho_layout.specs.Plans.{Planning, IsPlanOf}
use Rattle.macho_layout.specs.Names.{mapped_names, output_at}
use Rattle.macho_layout.specs.Cells.{segment_number}
use Rattle.macho_layout.specs.Places.{behind, number_at, row_pages}
use Rattle.macho_layout.specs.Sums.{FitsLimits}
use Rattle.macho_stack.specs.Tables.{tables_at}
use Rattle.macho_layout.specs.Laid.{IsLaidOut, zero_page, made_start}
use Rattle.macho_layout.proofs.CostLaw.{align_same}
use Rattle.macho_layout_laws.proofs.Lists.{zip_all}
use Rattle.macho_layout_laws.proofs.Members.{SectionAt, CommonAt, sections_zip, commons_zip, section_members, common_members}
use Rattle.macho_layout_laws.proofs.Names.{name_twice, mapped_of, segment_key_is}
use Rattle.macho_layout_laws.proofs.Places.{number_in, number_is, IsMapped, mapped_number, class_filled, text_mapped}
use Rattle.macho_layout_laws.proofs.Scene.{home, Stands, no_wrap, MemberStands, section_members_stand, common_members_stand, section_cell, section_there, section_segment, common_cell, home_rank}
use Rattle.macho_layout_laws.proofs.Made.{init_cell, unwind_cell, stub_cell, slot_cell, numbered_at, length-numbered, const_there, const_number, text_number, init_stands, unwind_stands, stubs_stand, slots_stand, init_range, unwind_range}
use Rattle.macho_layout_laws.proofs.Segments.{last_segment, segments_are, row_segment_named, numbered_segment}
use Rattle.macho_model.proofs.Sections.{carried_is}
use Rattle.macho_bytes.proofs.Rounding.{rounded-above}

-- the sum of two multiples
pub sum_whole : (k a b : ℕ) → 0 < k → a % k ≡ 0 → b % k ≡ 0 → (a + b) % k ≡ 0
sum_whole k a b some wa wb =
    ap (λ (m : ℕ). m % k) (sym (rounded-shift k a b some wa ∙ ap (λ (n : ℕ). a + n) (rounded-same k b some wb))) ∙ rounded-multiple k
    (a + b) some

-- where the tables begin and end
pub tables_between : (counts : Counts) (offset pages : ℕ) (size : ℕ) → (tables_at counts offset pages).signature.end ≤ size
    → All (λ (r : Range64). (offset ≤ r.start) × (r.start ≤ r.end) × (r.end ≤ size))
    ((tables_at counts offset pages).fixups ∷ (tables_at counts offset pages).trie ∷ (tables_at counts offset pages).symtab ∷
    (tables_at counts offset pages).strtab ∷ (tables_at counts offset pages).signature ∷ [])
tables_between counts offset pages size end =
    let t : Linkedit = tables_at counts offset pages in
    let a = rounded-above 8 t.trie.end (omega arith) in
    let b = rounded-above 16 t.strtab.end (omega arith) in
    All-from_recursion (λ (r : Range64). (offset ≤ r.start) × (r.start ≤ r.end) × (r.end ≤ size))
    ((tables_at counts offset pages).fixups ∷ (tables_at counts offset pages).trie ∷ (tables_at counts offset pages).symtab ∷
    (tables_at counts offset pages).strtab ∷ (tables_at counts offset pages).signature ∷ []) (
      (omega arith, omega arith, omega (arith, a, b, end)),
      (
        (omega arith, omega arith, omega (arith, a, b, end)),
        (
          (omega (arith, a), omega arith, omega (arith, b, end)),
          (
            (omega (arith, a), omega arith, omega (arith, b, end)),
            ((omega (arith, a, b), omega arith, end), tt),
          ),
        ),
      ),
    )

module _ (l : Link) (p : Planning) (counts : Counts) (q : Placed) (plan : IsPlanOf l p) (fits : FitsLimits p counts)
    (h : IsLaidOut p counts q) where
  abbrev StandsM : PlacedMember → Type 0
  StandsM m = MemberStands l p counts q plan fits h m

  -- a member's address, and its alignment
  pub member_address : (m : PlacedMember) → StandsM m → behind (number_at h.starts m.member.cell) m.offset
      ≡ number_at h.starts m.member.cell + m.offset
  member_address m s = s.plain

  pub member_whole : (m : PlacedMember) → StandsM m → (number_at h.starts m.member.cell + m.offset) % 2 ^ m.member.exponent ≡ 0
  member_whole m s =
      sum_whole (2 ^ m.member.exponent) (number_at h.starts m.member.cell) m.offset (pow_pos m.member.exponent)
      (multiple-weaker m.member.exponent (extent_at h.extents m.member.cell).exponent
      (number_at h.starts m.member.cell) s.in_cell.small s.cell.whole) s.in_cell.whole

  pub section_exponent : (s : PlacedSection) (m : PlacedMember) → SectionAt l p h.starts s m → m.member.exponent ≡ placed_exponent l
      (id_of s)
  section_exponent s m at = ap (λ (x : Member). x.exponent) at.member ∙ align_same l p (id_of s) plan (carried_is l (id_of s) at.carried)

  sections_aligned : All (λ s. s.address % 2 ^ placed_exponent l (id_of s) ≡ 0) q.sections
  sections_aligned =
      zip_all (SectionAt l p h.starts) StandsM (λ s. s.address % 2 ^ placed_exponent l (id_of s) ≡ 0)
      (λ s m at stand. ap (λ (e : ℕ). s.address % 2 ^ e) (sym (section_exponent s m at)) ∙ ap (λ (n : ℕ). n % 2 ^ m.member.exponent)
      (at.address ∙ stand.plain) ∙ member_whole m stand)
      q.sections (section_members p h.members) (sections_zip l p counts q plan h) (section_members_stand l p counts q plan fits h)

  commons_aligned : All (λ c. c.address % 2 ^ common_exponent_of (entry_at l (common_of l c.id)) ≡ 0) q.commons
  commons_aligned =
      zip_all (CommonAt l p h.starts) StandsM (λ c. c.address % 2 ^ common_exponent_of (entry_at l (common_of l c.id)) ≡ 0)
      (λ c m at stand. ap (λ (e : ℕ). c.address % 2 ^ e) (sym (ap (λ (x : Member). x.exponent) at.member)) ∙ ap
      (λ (n : ℕ). n % 2 ^ m.member.exponent) (at.address ∙ stand.plain) ∙ member_whole m stand)
      q.commons (common_members p h.members) (commons_zip l p counts q plan h) (common_members_stand l p counts q plan fits h)

  abbrev pub slots_start : ℕ
  slots_start = number_at h.starts (length h.extents + 3)

  abbrev pub stubs_start : ℕ
  stubs_start = number_at h.starts (length h.extents + 2)

  -- number k of the slots, and of the stubs
  pub slot_at : (k : ℕ) (d : Slot) → k < length q.slots → (k < length p.slots) × ((get_or q.slots k d).address ≡ slots_start + 8 * k)
  slot_at k d low =
      let many : length q.slots ≡ length p.slots = ap length h.from_them.slots ∙ length-numbered _ 0 p.slots in
      let inside : k < length p.slots = omega (arith, low, many) in
      let n = numbered_at (λ e. record { target = e.1; address = behind (made_start h.extents h.starts 3) (8 * e.0) }) 0 p.slots k d
      inside in
      let is = ap (λ (s : Slot). s.address) (ap (λ (ss : List Slot). get_or ss k d) h.from_them.slots ∙ n.1) in
      let zero_first : 0 + k ≡ k = omega arith in
      let e = ap (λ (i : ℕ). behind slots_start (8 * i)) zero_first in
      let w = no_wrap l p counts q plan fits h (slot_cell l p counts q plan fits h) (8 * k)
      (slots_stand l p counts q plan fits h (omega (arith, inside))) (omega (arith, inside)) in
      (inside, is ∙ e ∙ w)

  pub stub_at : (k : ℕ) (d : Stub) → k < length q.stubs → (k < length p.stubs) × ((get_or q.stubs k d).address ≡ stubs_start + 12 * k)
  stub_at k d low =
      let many : length q.stubs ≡ length p.stubs = ap length h.from_them.stubs ∙ length-numbered _ 0 p.stubs in
      let inside : k < length p.stubs = omega (arith, low, many) in
      let n = numbered_at (λ e. record {
        import = e.1.import;
        address = behind (made_start h.extents h.starts 2)
            (12 * e.0);
        slot = e.1.slot;
      }) 0 p.stubs k d inside in
      let is = ap (λ (s : Stub). s.address) (ap (λ (ss : List Stub). get_or ss k d) h.from_them.stubs ∙ n.1) in
      let zero_first : 0 + k ≡ k = omega arith in
      let e = ap (λ (i : ℕ). behind stubs_start (12 * i)) zero_first in
      let w = no_wrap l p counts q plan fits h (stub_cell l p counts q plan fits h) (12 * k)
      (stubs_stand l p counts q plan fits h (omega (arith, inside))) (omega (arith, inside)) in
      (inside, is ∙ e ∙ w)

  pub slots_whole : 0 < length p.slots → slots_start % 8 ≡ 0
  slots_whole some = (slots_stand l p counts q plan fits h some).whole

  pub stubs_whole : 0 < length p.stubs → stubs_start % 4 ≡ 0
  stubs_whole some = (stubs_stand l p counts q plan fits h some).whole

  pub is_aligned : IsAligned l q
  is_aligned = record {
    sections = sections_aligned;
    commons = commons_aligned;
    slots = λ k d low. let at = slot_at k d low in omega (arith, at.1, slots_whole (omega (arith, at.0)));
    stubs = λ k d low. let at = stub_at k d low in omega (arith, at.1, stubs_whole (omega (arith, at.0)));
  }

  -- what lies in a cell lies in the cell's segment
  pub cell_lies : (c : Cell) → Stands l p counts q plan fits h c → (n : List ℕ) → c.rank / 9 ≡ number_in l n → IsMapped l n → (span : Span)
      → number_at h.starts c.number ≤ span.start → span.start + span.size ≤ number_at h.starts c.number + c.size → (in_file : Bool) →
      (in_file ≡ true → c.rank % 9 < 6)
      → (s : PlacedSegment) × IsNumber q.segments (one_if p.executable + number_in l n) s × (is_segment_named n s ≡ true)
      × LiesIn in_file span s
  cell_lies c s n rank there span low high in_file filled =
      let number : s.row.number ≡ number_in l n = omega (arith, s.row.is, rank) in
      let place : get_or (mapped_of l) s.row.number n ≡ n = ap (λ (k : ℕ). get_or (mapped_of l) k n) number ∙ (mapped_number l n there).1 in
      let named : text_of s.row.segment.name ≡ n
      = ap (λ (x : PlacedSegment). text_of x.name) (sym s.row.at)
      ∙ row_segment_named l p counts q plan fits h s.row.number s.row.segment n s.row.low place in (
        s.row.segment,
        subst (λ (k : ℕ). IsNumber q.segments (one_if p.executable + k) s.row.segment) number
            (numbered_segment l p counts q plan fits h s.row.number s.row.segment s.row.low s.row.at),
        (bytes_eq-Decides (text_of s.row.segment.name) n).1 named,
        record { from = omega (arith, s.row.begins, low); to = by in_file filled },
      )
    where
      by : (b : Bool) → (b ≡ true → c.rank % 9 < 6) → span.start + span.size ≤ s.row.segment.address +
          (if b then s.row.segment.file_size else s.row.segment.size)
      by true f = omega (arith, s.row.filled (f refl), high)
      by false f = omega (arith, s.row.ends, high)

  pub cell_lies_named : (c : Cell) → Stands l p counts q plan fits h c → (n : List ℕ) → c.rank / 9 ≡ number_in l n → IsMapped l n →
      (span : Span)
      → number_at h.starts c.number ≤ span.start → span.start + span.size ≤ number_at h.starts c.number + c.size → (in_file : Bool) →
      (in_file ≡ true → c.rank % 9 < 6)
      → LiesInNamed q n in_file span
  cell_lies_named c s n rank there span low high in_file filled =
      let x = cell_lies c s n rank there span low high in_file filled in
      (x.0, (one_if p.executable + number_in l n, x.1.0, x.1.1), x.2, x.3)

  section_lies : (s : PlacedSection) (m : PlacedMember) → SectionAt l p h.starts s m → StandsM m → SectionLies l q s
  section_lies s m at stand =
      let n : List ℕ = segment_name_of (header_at l (id_of s)) in
      let there = section_there l p counts q plan fits h s m at in
      let name = name_twice (header_at l (id_of s)).segname in
      let rank = home_rank l p counts q plan fits h m.member.cell n (section_segment l p counts q plan fits h s m at) name there in
      let address : s.address ≡ number_at h.starts m.member.cell + m.offset = at.address ∙ stand.plain in
      let size : m.member.size ≡ (header_at l (id_of s)).size = ap (λ (x : Member). x.size) at.member in
      let b : Bool = not (is_zerofill (header_at l (id_of s))) && not ((header_at l (id_of s)).size == 0) in
      let filled : b ≡ true → (home l p counts q plan fits h m.member.cell).rank % 9 < 6 = λ t.
      let has_bytes : is_zerofill_type (output_at p m.member.cell).kind ≡ false
      = ap (λ (o : OutputName). is_zerofill_type o.kind) (section_cell l p counts q plan fits h s m at).1
      ∙ not-true (is_zerofill (header_at l (id_of s))) (and_parts (not (is_zerofill (header_at l (id_of s))))
      (not ((header_at l (id_of s)).size == 0)) t).0 in
      omega (arith, rank.2, class_filled (output_at p m.member.cell) (extent_at h.extents m.member.cell).flags has_bytes) in
      let x = cell_lies (home l p counts q plan fits h m.member.cell) stand.cell n rank.1 there (section_span l s) (omega (arith, address))
      (omega (arith, address, size, stand.in_cell.ends)) b filled in
      let number : s.segment ≡ one_if p.executable + number_in l n
      = at.segment ∙ ap (λ (k : ℕ). one_if p.executable + k) (ap (segment_number (mapped_names p)) (segment_key_is l (id_of s))
      ∙ number_is l p n plan name) in
      (x.0, subst (λ (k : ℕ). IsNumber q.segments k x.0) (sym number) x.1, x.2, x.3)

  common_lies : (c : PlacedCommon) (m : PlacedMember) → CommonAt l p h.starts c m → StandsM m → LiesInNamed q DATA false (common_span l c)
  common_lies c m at stand =
      let cell = common_cell l p counts q plan fits h c m at in
      let rank = home_rank l p counts q plan fits h m.member.cell DATA (ap (λ (o : OutputName). o.segment) cell.1) refl cell.2 in
      let address : c.address ≡ number_at h.starts m.member.cell + m.offset = at.address ∙ stand.plain in
      let size : m.member.size ≡ common_size_of (entry_at l (common_of l c.id)) = ap (λ (x : Member). x.size) at.member in
      cell_lies_named (home l p counts q plan fits h m.member.cell) stand.cell DATA rank.1 cell.2 (common_span l c) (omega (arith, address))
      (omega (arith, address, size, stand.in_cell.ends)) false
      (λ t. absurd (false≢true t))

  slot_lies : (k : ℕ) (d : Slot) → k < length q.slots → LiesInNamed q DATA_CONST true (slot_span (get_or q.slots k d))
  slot_lies k d low =
      let at = slot_at k d low in
      let some : 0 < length p.slots = omega (arith, at.0) in
      let c : Cell = slot_cell l p counts q plan fits h in
      cell_lies_named (slot_cell l p counts q plan fits h) (slots_stand l p counts q plan fits h some) DATA_CONST
      (sym (const_number l p counts q plan fits h some).1) (const_there l p counts q plan fits h some)
      (slot_span (get_or q.slots k d)) (omega (arith, at.1)) (omega (arith, at.1, at.0)) true (λ t. omega arith)

  stub_lies : (k : ℕ) (d : Stub) → k < length q.stubs → LiesInNamed q TEXT true (stub_span (get_or q.stubs k d))
  stub_lies k d low =
      let at = stub_at k d low in
      let some : 0 < length p.stubs = omega (arith, at.0) in
      cell_lies_named (stub_cell l p counts q plan fits h) (stubs_stand l p counts q plan fits h some) TEXT
      (sym (text_number l p counts q plan fits h)) (text_mapped l)
      (stub_span (get_or q.stubs k d)) (omega (arith, at.1)) (omega (arith, at.1, at.0)) true (λ t. omega arith)

  init_lies : RangeLies q q.init_offsets
  init_lies =
      let r = init_range l p counts q plan fits h in (
        omega (arith, r.1),
        elim (cases_lt 0 counts.initializers) [
          | inl some ↦ inr (cell_lies_named (init_cell l p counts q plan fits h) (init_stands l p counts q plan fits h some) TEXT
              (sym (text_number l p counts q plan fits h)) (text_mapped l)
              (range_span q.init_offsets) (omega (arith, r.0)) (omega (arith, r.0, r.1)) true (λ t. omega arith))
          | inr none ↦ inl (omega (arith, r.1, none))
        ],
      )

  unwind_lies : RangeLies q q.unwind
  unwind_lies =
      let r = unwind_range l p counts q plan fits h in (
        omega (arith, r.1),
        elim (cases_lt 0 counts.unwind) [
          | inl some ↦ inr (cell_lies_named (unwind_cell l p counts q plan fits h) (unwind_stands l p counts q plan fits h some) TEXT
              (sym (text_number l p counts q plan fits h)) (text_mapped l)
              (range_span q.unwind) (omega (arith, r.0)) (omega (arith, r.0, r.1)) true (λ t. omega arith))
          | inr none ↦ inl (omega (arith, r.1, none))
        ],
      )

  -- the tables lie between the segment's offset and its end
  pub ranges_between : All (λ (r : Range64). (h.offset ≤ r.start) × (r.start ≤ r.end) × (r.end ≤ q.linkedit.signature.end))
      (linkedit_ranges q)
  ranges_between =
      subst (λ (t : Linkedit). All (λ (r : Range64). (h.offset ≤ r.start) × (r.start ≤ r.end) × (r.end ≤ t.signature.end))
      (t.fixups ∷ t.trie ∷ t.symtab ∷ t.strtab ∷ t.signature ∷ []))
      (sym h.from_them.linkedit) (tables_between counts h.offset (row_pages h.segments) _ (omega arith))

  pub last_there : Contains q.segments (last_segment l p counts q plan fits h)
  last_there =
      subst (λ (ss : List PlacedSegment). Contains ss (last_segment l p counts q plan fits h)) (sym (segments_are l p counts q plan fits h))
      (Contains-push (list_if p.executable (zero_page ∷ []) ++ h.segments) (last_segment l p counts q plan fits h))

  tables_lie : All (TableLies q) (linkedit_ranges q)
  tables_lie k d low =
      let r = ranges_between k d low in
      let end = ap (λ (t : Linkedit). t.signature.end) h.from_them.linkedit in
      inr (last_segment l p counts q plan fits h, last_there, refl, r.0, r.1, omega (arith, r.0, r.1, r.2, end))

  pub in_segment : IsInSegment l q
  in_segment = record {
    sections = zip_all (SectionAt l p h.starts) StandsM (SectionLies l q) section_lies q.sections (section_members p h.members)
        (sections_zip l p counts q plan h) (section_members_stand l p counts q plan fits h);
    commons = zip_all (CommonAt l p h.starts) StandsM (λ c. LiesInNamed q DATA false (common_span l c)) common_lies q.commons
        (common_members p h.members) (commons_zip l p counts q plan h)
        (common_members_stand l p counts q plan fits h);
    slots = slot_lies;
    stubs = stub_lies;
    init_offsets = init_lies;
    unwind = unwind_lies;
    linkedit = tables_lie;
  }
