-- Where zeros are placed, the file's bytes are 0.
--
-- A byte of the file that is in no content is 0. An address in a section of zeros, or in a common, is in no other part: not in one of
-- the same segment, since parts share no address; nor in one of another segment, since segments share no byte of the file. Contents
-- lie in their parts: load commands in the head, unwind information in its range, tables in theirs.
use Rattle.std.proofs.Common.{◌≡◌, ℕ, ◌+◌, ◌-◌, ◌<◌, ◌≤◌, ◌==◌, ◌&&◌, not, Bool, true, false, List, [], ◌∷◌, ◌++◌, length, get_or, map, filter, refl, sym, ap, subst, ◌∙◌, arith, inl, inr, All}
use Rattle.std.specs.Prelude.{Contains}
use Rattle.std.proofs.lemmas.Bool.{cases_lt, true≢false, not-true, ne_eqb}
use Rattle.std.proofs.lemmas.List.Elements.{All-contains, All-contains_itself, All-append, All-cons, All-map}
use Rattle.macho_records.specs.Sections.{is_zerofill}
use Rattle.macho_model.specs.declared.placed.Counts.{Counts}
use Rattle.macho_model.specs.declared.placed.PlacedSegment.{PlacedSegment}
use Rattle.macho_model.specs.declared.placed.PlacedSection.{PlacedSection}
use Rattle.macho_model.specs.declared.placed.PlacedCommon.{PlacedCommon}
use Rattle.macho_model.specs.declared.placed.Slot.{Slot}
use Rattle.macho_model.specs.declared.placed.Stub.{Stub}
use Rattle.macho_model.specs.declared.placed.Range64.{Range64}
use Rattle.macho_model.specs.Commands.{commands_end}
use Rattle.macho_model.specs.Links.{Link, header_at}
use Rattle.macho_model.specs.Segments.{TEXT, DATA_CONST, LINKEDIT}
use Rattle.macho_model.specs.Placement.{Placed, id_of, head_size, linkedit_ranges, is_segment_named, IsPlaced}
use Rattle.macho_model.specs.Zeros.{Span, contents_of, IsZeroElsewhere}
use Rattle.macho_model.specs.Spans.{AreApart, head_span, section_span, common_span, slot_span, IsOutsideSpan, filled_sections, stub_span, range_span, linkedit_span, in_file}
use Rattle.macho_model.specs.steps.Parts.{LiesIn, LiesInNamed, SectionLies, TableLies, RangeLies}
use Rattle.macho_model.specs.Addresses.{offset_in_file}
use Rattle.macho_model.specs.Images.{Table, tables_of, tries_of, symbol_tables_of, string_tables_of, signatures_of, fixups_header}
use Rattle.macho_model.specs.ImportTable.{names_text}
use Rattle.macho_model.specs.Lists.{of_first}
use Rattle.macho_fixups.specs.Runs.{AreSegments}
use Rattle.macho_promise.specs.FixupsSay.{fixup_segments}
use Rattle.macho_image_laws.proofs.Members.{one_or_pair}
use Rattle.macho_image_laws.proofs.Apart.{PartsAreApart, parts_apart}
use Rattle.macho_image_laws.proofs.Rests.{AreZero}
use Rattle.macho_image_laws.proofs.ZeroPlaces.{files_apart, IsByteOf, outside_of, beside}
use Rattle.macho_model.specs.steps.Zeros.{fixups_content}
use Rattle.macho_model.proofs.Parts.{apart_of, in_segment_of}
use Rattle.macho_model.proofs.Sections.{apart_back, one_named}
use Rattle.macho_bytes.proofs.Members.{contains_first, contains_later, nil_contains, contains_map, contains_filter, filter_contains}

-- A part of zeros, and an address of it in the file part of a segment: apart from all parts that have content.
pub record IsZeroPart (l : Link) (counts : Counts) (p : Placed) (a : Span) : Type 0 where
  pub head : AreApart (head_span counts p) a
  pub sections : (q : PlacedSection) → Contains p.sections q → is_zerofill (header_at l (id_of q)) ≡ false → AreApart a (section_span l q)
  pub slots : (s : Slot) → Contains p.slots s → AreApart a (slot_span s)
  pub stubs : (s : Stub) → Contains p.stubs s → AreApart a (stub_span s)
  pub ranges : (r : Span) → Contains (range_span p.init_offsets ∷ range_span p.unwind ∷ map (linkedit_span p) (linkedit_ranges p)) r
      → AreApart a r

zerofill_part : (l : Link) (counts : Counts) (p : Placed) (q : PlacedSection) → PartsAreApart l counts p → Contains p.sections q
    → is_zerofill (header_at l (id_of q)) ≡ true → IsZeroPart l counts p (section_span l q)
zerofill_part l counts p q apart one zerofill =
    record {
      head = apart.head_section q one;
      sections = λ r other filled. elim (one_or_pair (λ x y. AreApart (section_span l x) (section_span l y)) p.sections q r apart.sections
          one other) [
            | inl same ↦ absurd (true≢false (sym zerofill ∙ ap (λ (x : PlacedSection). is_zerofill (header_at l (id_of x))) same ∙ filled))
            | inr pair ↦ elim pair [ inl a ↦ a | inr a ↦ apart_back (section_span l r) (section_span l q) a ]
          ];
      slots = λ s slot. apart.section_slot q s one slot;
      stubs = λ s stub. apart.section_stub q s one stub;
      ranges = λ r range. apart.section_range q r one range;
    }

common_part : (l : Link) (counts : Counts) (p : Placed) (c : PlacedCommon) → PartsAreApart l counts p → Contains p.commons c
    → IsZeroPart l counts p (common_span l c)
common_part l counts p c apart one =
    record {
      head = apart.head_common c one;
      sections = λ q other filled. apart_back (section_span l q) (common_span l c) (apart.section_common q c other one);
      slots = λ s slot. apart.common_slot c s one slot;
      stubs = λ s stub. apart.common_stub c s one stub;
      ranges = λ r range. apart.common_range c r one range;
    }

-- What is known of the places of contents.
pub record ContentsLie (l : Link) (counts : Counts) (b : List ℕ) (p : Placed) (unwind : ℕ) : Type 0 where
  pub placed : IsPlaced l counts p
  pub order : AreSegments (fixup_segments p)
  pub head : commands_end b + counts.padding ≡ head_size counts p
  pub text : All (λ (s : PlacedSegment). is_segment_named TEXT s ≡ true → (s.file_offset ≡ 0) × (commands_end b ≤ s.file_size)) p.segments
  pub unwind_fits : unwind ≤ p.unwind.end - p.unwind.start
  pub fixups : All (λ (t : Table). (t.at ≡ p.linkedit.fixups.start) × ((fixups_header b t).symbols_offset + length
      (names_text l) ≤ p.linkedit.fixups.end - p.linkedit.fixups.start)) (tables_of b)
  pub tables : All (λ (t : Table). (r : Range64) × Contains (linkedit_ranges p) r × (t.at ≡ r.start) × (t.size ≤ r.end - r.start))
      (tries_of b ++ symbol_tables_of b ++ string_tables_of b ++ signatures_of b)

-- it is not among the load commands
outside_head : (l : Link) (counts : Counts) (b : List ℕ) (p : Placed) (unwind : ℕ) (s : PlacedSegment) (a : ℕ) (part : Span)
    → ContentsLie l counts b p unwind
    → IsByteOf p s a → part.start ≤ a → a < part.start + part.size → AreApart (head_span counts p) part
    → IsOutsideSpan (s.file_offset + (a - s.address)) (record { start = 0; size = commands_end b })
outside_head l counts b p unwind s a part lie byte from to apart =
    let begins = lie.placed.begins in
    let t = begins.0 in
    let text = All-contains (λ (x : PlacedSegment). is_segment_named TEXT x ≡ true → (x.file_offset ≡ 0) × (commands_end b ≤ x.file_size))
    p.segments t lie.text begins.1 begins.2 in
    let base : t.address ≡ p.base = begins.3 ∙ sym lie.placed.base in
    elim (files_apart p s t lie.order byte.one begins.1) [
      | inl same ↦
          let address : s.address ≡ t.address = ap (λ (x : PlacedSegment). x.address) same in
          elim (beside part (head_span counts p) a (apart_back (head_span counts p) part apart) from to) [
            | inl none ↦ inr (omega (arith, none, lie.head))
            | inr other ↦ elim other [
              | inl before ↦ absurd (omega (arith, before, byte.from, address, base))
              | inr behind ↦ inr (omega (arith, behind, lie.head, address, base))
            ]
          ]
      | inr files ↦ elim files [
        | inl before ↦ absurd (omega (arith, before, text.0, byte.from, byte.to))
        | inr behind ↦ inr (omega (arith, behind, text.1))
      ]
    ]

-- nor in a table
linkedit_at : (segment : PlacedSegment) (offset : ℕ) (ys : List PlacedSegment) → Contains ys segment
    → ((y : PlacedSegment) → Contains ys y → y ≡ segment)
    → of_first offset (λ (s : PlacedSegment). s.address + offset - s.file_offset) ys ≡ segment.address + offset - segment.file_offset
linkedit_at segment offset [] one only = absurd (nil_contains segment one)
linkedit_at segment offset (y ∷ ys) one only = ap (λ (x : PlacedSegment). x.address + offset - x.file_offset) (only y (contains_first y ys))

outside_table : (l : Link) (counts : Counts) (b : List ℕ) (p : Placed) (unwind : ℕ) (s : PlacedSegment) (a : ℕ) (part : Span) (r : Range64)
    (at size : ℕ)
    → ContentsLie l counts b p unwind → IsByteOf p s a → part.start ≤ a → a < part.start + part.size → Contains (linkedit_ranges p) r
    → AreApart part (linkedit_span p r) → at ≡ r.start → size ≤ r.end - r.start
    → IsOutsideSpan (s.file_offset + (a - s.address)) (record { start = at; size = size })
outside_table l counts b p unwind s a part r at size lie byte from to one apart begins fits =
    elim (All-contains (TableLies p) (linkedit_ranges p) r (in_segment_of lie.placed).linkedit one) [
      | inl none ↦ elim (cases_lt (s.file_offset + (a - s.address)) at)
          [ inl before ↦ inl (omega (arith, before)) | inr behind ↦ inr (omega (arith, behind, none, fits)) ]
      | inr (t, in_t, named, low, some, high) ↦
          let only : (y : PlacedSegment) → Contains (filter (is_segment_named LINKEDIT) p.segments) y → y ≡ t = λ y h.
          let f = filter_contains (is_segment_named LINKEDIT) p.segments y h in
          one_named l p.segments LINKEDIT y t lie.placed.follow f.0 in_t f.1 named in
          let start = linkedit_at t r.start (filter (is_segment_named LINKEDIT) p.segments)
          (contains_filter (is_segment_named LINKEDIT) p.segments t in_t named) only in
          elim (files_apart p s t lie.order byte.one in_t) [
            | inl same ↦
                let address : s.address ≡ t.address = ap (λ (x : PlacedSegment). x.address) same in
                let offset : s.file_offset ≡ t.file_offset = ap (λ (x : PlacedSegment). x.file_offset) same in
                elim (beside part (linkedit_span p r) a apart from to) [
                  | inl none ↦ elim (cases_lt (s.file_offset + (a - s.address)) at) [
                    | inl before ↦ inl (omega (arith, before))
                    | inr behind ↦ inr (omega (arith, behind, none, fits))
                  ]
                  | inr other ↦ elim other [
                    | inl before ↦ inl (omega (arith, before, start, address, offset, byte.from, begins, low))
                    | inr behind ↦ inr (omega (arith, behind, start, address, offset, byte.from, begins, low, fits, some))
                  ]
                ]
            | inr files ↦ elim files [
              | inl before ↦ inl (omega (arith, before, byte.from, byte.to, begins, low))
              | inr behind ↦ inr (omega (arith, behind, begins, fits, high, some))
            ]
          ]
    ]

-- nor in any content
none_has : (l : Link) (counts : Counts) (b : List ℕ) (p : Placed) (unwind : ℕ) (s : PlacedSegment) (a : ℕ) (part : Span)
    → ContentsLie l counts b p unwind
    → IsZeroPart l counts p part → IsByteOf p s a → part.start ≤ a → a < part.start + part.size
    → All (IsOutsideSpan (s.file_offset + (a - s.address))) (contents_of l b p unwind)
unfolding contents_of
none_has l counts b p unwind s a part lie zero byte from to =
    let P : Span → Type 0 = IsOutsideSpan (s.file_offset + (a - s.address)) in
    let head : List Span = record { start = 0; size = commands_end b } ∷ map (λ q. in_file p (section_span l q)) (filled_sections l p) in
    let slots : List Span = map (λ t. in_file p (slot_span t)) p.slots in
    let stubs : List Span = map (λ t. in_file p (stub_span t)) p.stubs in
    let made : List Span = in_file p (range_span p.init_offsets) ∷ in_file p (record { start = p.unwind.start; size = unwind }) ∷ map
    (fixups_content l b) (tables_of b) in
    let tables : List Span = map (λ t. record { start = t.at; size = t.size })
    (tries_of b ++ symbol_tables_of b ++ string_tables_of b ++ signatures_of b) in
    All-append P (head ++ slots ++ stubs ++ made) tables
    (All-append P (head ++ slots ++ stubs) made
    (All-append P (head ++ slots) stubs
    (All-append P head slots
    (All-cons P (record { start = 0; size = commands_end b }) (map (λ q. in_file p (section_span l q)) (filled_sections l p))
    (outside_head l counts b p unwind s a part lie byte from to zero.head)
    (All-map P (λ q. in_file p (section_span l q)) (filled_sections l p)
    (λ k d lt. of_section (get_or (filled_sections l p) k d) (All-contains_itself (filled_sections l p) k d lt))))
    (All-map P (λ t. in_file p (slot_span t)) p.slots (λ k d lt. of_slot (get_or p.slots k d) (All-contains_itself p.slots k d lt))))
    (All-map P (λ t. in_file p (stub_span t)) p.stubs (λ k d lt. of_stub (get_or p.stubs k d) (All-contains_itself p.stubs k d lt))))
    (All-cons P (in_file p (range_span p.init_offsets)) (in_file p (record { start = p.unwind.start; size = unwind }) ∷ map
    (fixups_content l b) (tables_of b))
    (of_range p.init_offsets (range_span p.init_offsets).size (in_segment_of lie.placed).init_offsets
    (contains_first (range_span p.init_offsets) (range_span p.unwind ∷ map (linkedit_span p) (linkedit_ranges p))) (omega arith))
    (All-cons P (in_file p (record { start = p.unwind.start; size = unwind })) (map (fixups_content l b) (tables_of b))
    (of_range p.unwind unwind (in_segment_of lie.placed).unwind
    (contains_later (range_span p.init_offsets) (range_span p.unwind ∷ map (linkedit_span p) (linkedit_ranges p)) (range_span p.unwind)
    (contains_first (range_span p.unwind) (map (linkedit_span p) (linkedit_ranges p)))) lie.unwind_fits)
    (All-map P (fixups_content l b) (tables_of b) (λ k d lt. of_fixups (get_or (tables_of b) k d)
    (All-contains_itself (tables_of b) k d lt))))))
    (All-map P (λ (t : Table). record { start = t.at; size = t.size })
    (tries_of b ++ symbol_tables_of b ++ string_tables_of b ++ signatures_of b)
    (λ k d lt. of_table (get_or (tries_of b ++ symbol_tables_of b ++ string_tables_of b ++ signatures_of b) k d)
    (All-contains_itself (tries_of b ++ symbol_tables_of b ++ string_tables_of b ++ signatures_of b) k d lt)))
  where
    of_section : (q : PlacedSection) → Contains (filled_sections l p) q
        → IsOutsideSpan (s.file_offset + (a - s.address)) (in_file p (section_span l q))
    of_section q h =
        let f = filter_contains (λ (x : PlacedSection). not (is_zerofill (header_at l (id_of x)))) p.sections q h in
        let some = not-true (is_zerofill (header_at l (id_of q))) f.1 in
        let lies = All-contains (SectionLies l p) p.sections q (in_segment_of lie.placed).sections f.0 in
        let there : Contains p.segments lies.0 = (q.segment, lies.1.0, lies.1.1) in
        let side = beside part (section_span l q) a (zero.sections q f.0 some) from to in
        elim (cases_lt 0 (header_at l (id_of q)).size) [
          | inl bytes ↦
              let other : ((header_at l (id_of q)).size == 0) ≡ false = ne_eqb (header_at l (id_of q)).size 0
              (λ e. omega (arith, bytes, e)) in
              let flag : (not (is_zerofill (header_at l (id_of q))) && not ((header_at l (id_of q)).size == 0))
              ≡ true = rw (some, other) refl in
              let in_part = subst (λ (t : Bool). LiesIn t (section_span l q) lies.0) flag lies.3 in
              outside_of p s lies.0 a (section_span l q) lie.order byte there in_part.from in_part.to side
          | inr none ↦
              let size : (header_at l (id_of q)).size ≡ 0 = omega (arith, none) in
              elim (cases_lt (s.file_offset + (a - s.address)) (offset_in_file p q.address)) [
                | inl before ↦ inl (omega (arith, before))
                | inr behind ↦ inr (omega (arith, behind, size))
              ]
        ]

    of_slot : (t : Slot) → Contains p.slots t → IsOutsideSpan (s.file_offset + (a - s.address)) (in_file p (slot_span t))
    of_slot t one =
        let lies =
        All-contains (λ (x : Slot). LiesInNamed p DATA_CONST true (slot_span x)) p.slots t (in_segment_of lie.placed).slots one in
        outside_of p s lies.0 a (slot_span t) lie.order byte lies.1 lies.3.from lies.3.to
        (beside part (slot_span t) a (zero.slots t one) from to)

    of_stub : (t : Stub) → Contains p.stubs t → IsOutsideSpan (s.file_offset + (a - s.address)) (in_file p (stub_span t))
    of_stub t one =
        let lies = All-contains (λ (x : Stub). LiesInNamed p TEXT true (stub_span x)) p.stubs t (in_segment_of lie.placed).stubs one in
        outside_of p s lies.0 a (stub_span t) lie.order byte lies.1 lies.3.from lies.3.to
        (beside part (stub_span t) a (zero.stubs t one) from to)

    of_range : (r : Range64) (size : ℕ) → RangeLies p r
        → Contains (range_span p.init_offsets ∷ range_span p.unwind ∷ map (linkedit_span p) (linkedit_ranges p)) (range_span r)
        → size ≤ r.end - r.start
        → IsOutsideSpan (s.file_offset + (a - s.address)) (in_file p (record { start = r.start; size = size }))
    of_range r size lies one fits =
        let side = beside part (range_span r) a (zero.ranges (range_span r) one) from to in
        elim lies.1 [
          | inl none ↦
              let empty : size ≡ 0 = omega (arith, fits, none) in
              elim (cases_lt (s.file_offset + (a - s.address)) (offset_in_file p r.start)) [
                | inl before ↦ inl (omega (arith, before))
                | inr behind ↦ inr (omega (arith, behind, empty))
              ]
          | inr (t, in_t, named, in_part) ↦
              outside_of p s t a (record { start = r.start; size = size }) lie.order byte in_t in_part.from
              (omega (arith, in_part.to, fits))
              (elim side [
                | inl none ↦ inl (omega (arith, none, fits))
                | inr other ↦ elim other [ inl before ↦ inr (inl before) | inr behind ↦ inr (inr (omega (arith, behind, fits))) ]
              ])
        ]

    linkedit_apart : (r : Range64) → Contains (linkedit_ranges p) r → AreApart part (linkedit_span p r)
    linkedit_apart r one =
        zero.ranges (linkedit_span p r) (contains_later (range_span p.init_offsets)
        (range_span p.unwind ∷ map (linkedit_span p) (linkedit_ranges p)) (linkedit_span p r)
        (contains_later (range_span p.unwind) (map (linkedit_span p) (linkedit_ranges p)) (linkedit_span p r)
        (contains_map (linkedit_span p) (linkedit_ranges p) r one)))

    of_fixups : (t : Table) → Contains (tables_of b) t → IsOutsideSpan (s.file_offset + (a - s.address)) (fixups_content l b t)
    of_fixups t one =
        let h = All-contains (λ (x : Table). (x.at ≡ p.linkedit.fixups.start)
        × ((fixups_header b x).symbols_offset + length (names_text l) ≤ p.linkedit.fixups.end - p.linkedit.fixups.start))
        (tables_of b) t lie.fixups one in
        let first = contains_first p.linkedit.fixups (p.linkedit.trie ∷ p.linkedit.symtab ∷ p.linkedit.strtab ∷ p.linkedit.signature ∷ [])
        in
        outside_table l counts b p unwind s a part p.linkedit.fixups t.at
        ((fixups_header b t).symbols_offset + length (names_text l)) lie byte from to first
        (linkedit_apart p.linkedit.fixups first) h.0 h.1

    of_table : (t : Table) → Contains (tries_of b ++ symbol_tables_of b ++ string_tables_of b ++ signatures_of b) t
        → IsOutsideSpan (s.file_offset + (a - s.address)) (record { start = t.at; size = t.size })
    of_table t one =
        let h = All-contains (λ (x : Table). (r : Range64) × Contains (linkedit_ranges p) r × (x.at ≡ r.start) × (x.size ≤ r.end - r.start))
        (tries_of b ++ symbol_tables_of b ++ string_tables_of b ++ signatures_of b) t lie.tables one in
        outside_table l counts b p unwind s a part h.0 t.at t.size lie byte from to h.1 (linkedit_apart h.0 h.1) h.2 h.3

-- THE zeros
pub are_zero : (l : Link) (counts : Counts) (b : List ℕ) (p : Placed) (unwind : ℕ) → ContentsLie l counts b p unwind
    → All (λ (s : PlacedSegment). s.file_offset + s.file_size ≤ length b) p.segments → IsZeroElsewhere l b p unwind → AreZero l b p
are_zero l counts b p unwind lie room zeros =
    let apart = parts_apart l counts p (apart_of lie.placed) in
    record {
      sections = λ q s a in_q zerofill in_s low high from to.
          let end = All-contains (λ (t : PlacedSegment). t.file_offset + t.file_size ≤ length b) p.segments s room in_s in
          zeros (s.file_offset + (a - s.address)) (omega (arith, end, low, high))
          (none_has l counts b p unwind s a (section_span l q) lie (zerofill_part l counts p q apart in_q zerofill)
          (record { one = in_s; from = low; to = high }) from to);
      commons = λ c s a in_c in_s low high from to.
          let end = All-contains (λ (t : PlacedSegment). t.file_offset + t.file_size ≤ length b) p.segments s room in_s in
          zeros (s.file_offset + (a - s.address)) (omega (arith, end, low, high))
          (none_has l counts b p unwind s a (common_span l c) lie (common_part l counts p c apart in_c)
          (record { one = in_s; from = low; to = high }) from to);
    }
