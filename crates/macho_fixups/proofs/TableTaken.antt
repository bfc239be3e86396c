-- The loader takes a table that stands in a file whose base and segments are those given.
--
-- Each test of the table's parts is one on the header, which reads back: the parts end where the table's bytes end, or in
-- front of that, and these are no more than the range. Of a segment without pages nothing is asked. The record of one
-- with pages ends in front of the imports, since the texts of the segments add up, and it says the segment's address
-- less the base: added to the base again that is the address, which is below 2 ^ 64.
use Rattle.std.proofs.Common.{◌≡◌, ℕ, suc, ◌+◌, ◌*◌, ◌-◌, ◌%◌, ◌^◌, ◌<◌, ◌≤◌, ◌==◌, ◌&&◌, ◌||◌, nat_le, Bool, true, false, List, [], ◌∷◌, length, map, get_or, arith, refl, ap, ◌∙◌, inl, inr}
use Rattle.std.specs.List.{flat_map, range_with_len, list_all}
use Rattle.std.proofs.lemmas.Bool.{cases_lt}
use Rattle.std.proofs.lemmas.Bool.Decides.{nat_tests}
use Rattle.std.proofs.lemmas.List.{get_or-map}
use Rattle.std.proofs.lemmas.List.FromFn.{length-range_with_len, get_or-range_with_len}
use Rattle.macho_bytes.specs.Texts.{Stands}
use Rattle.macho_wire.specs.declared.fixups.ChainedFixupsHeader.{ChainedFixupsHeader}
use Rattle.macho_wire.specs.declared.fixups.ChainedStartsInSegment.{ChainedStartsInSegment}
use Rattle.macho_model.specs.SegmentCommand.{SegmentCommand}
use Rattle.macho_model.specs.Images.{Table, IMPORT_FORMAT, IMPORT_ADDEND_FORMAT, fixups_header, import_entry_size, starts_place, starts_count, starts_offset, segment_starts, segments_of, base_of}
use Rattle.macho_model.specs.Segments.{SEGMENT_PAGE}
use Rattle.macho_model.specs.LoadRules.{starts_fit, table_fits}
use Rattle.macho_fixups.specs.declared.run.Fixup.{Fixup}
use Rattle.macho_fixups.specs.declared.run.FixupSegment.{FixupSegment}
use Rattle.macho_fixups.specs.declared.imports.ImportEntry.{ImportEntry}
use Rattle.macho_fixups.specs.Runs.{pages_of}
use Rattle.macho_fixups.specs.Tables.{offsets_text, segment_text, segment_size, starts_size, image_starts_size, table_header, names_place}
use Rattle.macho_fixups.specs.Calls.{FitsTable, AreEntries}
use Rattle.macho_fixups.specs.Readings.{AreSegmentsOf, HasTable}
use Rattle.macho_fixups.proofs.Cuts.{pages_of-no_bytes}
use Rattle.macho_fixups.proofs.SegmentWrites.{no_segment, segment_room}
use Rattle.macho_fixups.proofs.StartReading.{texts_before, no_offset, record_read}
use Rattle.macho_bytes.proofs.Comparing.{at_most}
use Rattle.macho_bytes.proofs.Bools.{or_first as or_left, or_second as or_right, and_both, equal_is}

-- a test of each number below n
all_below : (test : ℕ → Bool) (n : ℕ) → ((k : ℕ) → k < n → test k ≡ true) → list_all test (range_with_len 0 n) ≡ true
all_below test n each = all_of (range_with_len 0 n) (λ k lt.
    let short : k < n = omega (arith, lt, length-range_with_len 0 n) in
    ap test (get_or-range_with_len 0 n k 0 short ∙ zero_plus k) ∙ each k short)
  where
    zero_plus : (k : ℕ) → 0 + k ≡ k
    zero_plus k = omega arith

    all_of : (xs : List ℕ) → ((k : ℕ) → k < length xs → test (get_or xs k 0) ≡ true) → list_all test xs ≡ true
    all_of [] here = refl
    all_of (x ∷ xs) here = and_both (test x) (list_all test xs) (here 0 (omega arith)) (all_of xs (λ k lt. here (suc k) (omega arith)))

-- the place of a segment's record and its starts, of all starts
texts_end : (fixups : List Fixup) (segments : List FixupSegment) (k : ℕ) (d : FixupSegment) → k < length segments
    → 0 < pages_of (get_or segments k d) fixups
    → 28 + (4 + 4 * length segments + texts_before fixups segments k) + 22 + 2 * pages_of (get_or segments k d) fixups
    ≤ 28 + image_starts_size fixups segments
unfolding image_starts_size segment_size
texts_end fixups segments k d lt some =
    let no : (pages_of (get_or segments k d) fixups == 0) ≡ false = grind (arith, nat_tests) in
    let size : starts_size (pages_of (get_or segments k d) fixups) ≡ 22 + 2 * pages_of (get_or segments k d) fixups = rw no refl in
    omega (arith, size, segment_room fixups segments k d lt)

-- what is asked of segment k
segment_taken : (base at : ℕ) (fixups : List Fixup) (segments : List FixupSegment) (b : List ℕ) (t : Table) (k : ℕ)
    (h : ChainedFixupsHeader)
    → FitsTable base fixups segments → fixups_header b t ≡ h → h.starts_offset ≡ 28 → at ≡ t.at + 28
    → Stands b (record { at = at + 4; text = offsets_text (4 + 4 * length segments) fixups segments })
    → Stands b (record { at = at + 4 + 4 * length segments; text = flat_map (segment_text base fixups) segments }) → k < length segments
    → 28 + image_starts_size fixups segments ≤ t.size → base_of b ≡ base → AreSegmentsOf b segments → starts_fit b t k ≡ true
segment_taken base at fixups segments b t k h fits header begins is_at offsets texts lt room base_is agree =
    elim (cases_lt 0 pages) [ inl some ↦ with_pages some | inr none ↦ without none ]
  where
    s : FixupSegment
    s = get_or segments k no_segment

    pages : ℕ
    pages = pages_of s fixups

    starts : (fixups_header b t).starts_offset ≡ 28
    starts = ap (λ (x : ChainedFixupsHeader). x.starts_offset) header ∙ begins

    place : starts_place b t ≡ at
    place = omega (arith, starts, is_at)

    without : pages ≤ 0 → starts_fit b t k ≡ true
    without none =
        or_left (starts_offset b t k == 0) _
        (equal_is (starts_offset b t k) 0 (no_offset base at fixups segments b t k no_segment fits place offsets lt (omega arith)))

    no_command : SegmentCommand
    no_command = record {
      cmd = 0;
      cmdsize = 0;
      segname = [];
      vmaddr = 0;
      vmsize = 0;
      fileoff = 0;
      filesize = 0;
      maxprot = 0;
      initprot = 0;
      nsects = 0;
      flags = 0;
    }

    address : get_or (map (λ (c : SegmentCommand). c.vmaddr) (segments_of b)) k 0 ≡ s.address
    address =
        get_or-map (λ (c : SegmentCommand). c.vmaddr) (segments_of b) k no_command 0 (omega (arith, lt, agree.count))
        ∙ (agree.each k no_command no_segment lt).address

    with_pages : 0 < pages → starts_fit b t k ≡ true
    with_pages some =
        let told = record_read base at fixups segments b t k no_segment fits place offsets texts lt some in
        let end = texts_end fixups segments k no_segment lt some in
        let count : (segment_starts b t k).page_count ≡ pages = ap (λ (r : ChainedStartsInSegment). r.page_count) told.is in
        let offset : (segment_starts b t k).segment_offset ≡ s.address - base = ap (λ (r : ChainedStartsInSegment). r.segment_offset)
        told.is in
        let small : s.address < 2 ^ 64 = omega (
          arith,
          fits.order.ends k no_segment lt,
          fits.order.sizes k no_segment lt,
          pages_of-no_bytes s fixups some,
        ) in
        let above : base ≤ s.address = elim (fits.above k no_segment lt) [
          | inl none ↦ absurd (omega (arith, none, some))
          | inr high ↦ high
        ] in
        let listed : nat_le ((fixups_header b t).starts_offset + starts_offset b t k + 22 + 2 * (segment_starts b t k).page_count) t.size
        ≡ true =
        at_most _ _ (omega (arith, starts, told.offset, end, room, count)) in
        let paged : ((segment_starts b t k).page_size == SEGMENT_PAGE) ≡ true = equal_is _ _
        (ap (λ (r : ChainedStartsInSegment). r.page_size) told.is) in
        let formatted : ((segment_starts b t k).pointer_format == 6) ≡ true =
        equal_is _ _ (ap (λ (r : ChainedStartsInSegment). r.pointer_format) told.is) in
        let placed : (((segment_starts b t k).segment_offset + base_of b) % 2 ^ 64
        == get_or (map (λ (c : SegmentCommand). c.vmaddr) (segments_of b)) k 0) ≡ true =
        equal_is _ _ (omega (arith, offset, base_is, above, small, address)) in
        or_right (starts_offset b t k == 0) _
        (and_both _ _ (and_both _ _ (and_both _ _ listed paged) formatted) placed)

-- THE table is taken.
pub table_taken : (base size : ℕ) (fixups : List Fixup) (segments : List FixupSegment) (format : ℕ) (imports : List ImportEntry)
    (b : List ℕ) (t : Table)
    → FitsTable base fixups segments → AreEntries format imports → fixups_header b t ≡ table_header fixups segments format imports
    → starts_count b t ≡ length segments
    → Stands b (record { at = t.at + 28 + 4; text = offsets_text (4 + 4 * length segments) fixups segments })
    → Stands b (record { at = t.at + 28 + 4 + 4 * length segments; text = flat_map (segment_text base fixups) segments })
    → names_place fixups segments format imports ≤ size → HasTable b t base segments size → table_fits b t ≡ true
unfolding image_starts_size
table_taken base size fixups segments format imports b t fits entries header count offsets texts long has =
    let head = and_both _ _ (and_both _ _ (and_both _ _ (and_both _ _ (at_most _ _ has.inside) whole) version) known) plain in
    and_both _ _ (and_both _ _ (and_both _ _ (and_both _ _ (and_both _ _ head offsets_fit) there) entries_fit) names_fit) all_starts
  where
    starts : (fixups_header b t).starts_offset ≡ 28
    starts = ap (λ (h : ChainedFixupsHeader). h.starts_offset) header

    known : (((fixups_header b t).imports_format == IMPORT_FORMAT) || ((fixups_header b t).imports_format == IMPORT_ADDEND_FORMAT)) ≡ true
    known =
        let is : (fixups_header b t).imports_format ≡ format = ap (λ (h : ChainedFixupsHeader). h.imports_format) header in
        elim entries.known [
          | inl one ↦ or_left _ _ (equal_is _ _ (is ∙ one))
          | inr two ↦ or_right _ _ (equal_is _ _ (is ∙ two))
        ]

    imports_end : (fixups_header b t).imports_offset + import_entry_size (fixups_header b t).imports_format *
        (fixups_header b t).imports_count ≤ t.size
    imports_end =
        let is : (fixups_header b t).imports_offset + import_entry_size (fixups_header b t).imports_format *
        (fixups_header b t).imports_count
        ≡ names_place fixups segments format imports =
        ap (λ (h : ChainedFixupsHeader). h.imports_offset + import_entry_size h.imports_format * h.imports_count) header in
        omega (arith, is, long, has.room)

    whole : nat_le 28 t.size ≡ true
    whole = at_most _ _ (omega (arith, long, has.room))

    version : ((fixups_header b t).fixups_version == 0) ≡ true
    version = equal_is _ _ (ap (λ (h : ChainedFixupsHeader). h.fixups_version) header)

    plain : ((fixups_header b t).symbols_format == 0) ≡ true
    plain = equal_is _ _ (ap (λ (h : ChainedFixupsHeader). h.symbols_format) header)

    offsets_fit : nat_le ((fixups_header b t).starts_offset + 4 + 4 * starts_count b t) t.size ≡ true
    offsets_fit = at_most _ _ (omega (arith, long, has.room, starts, count))

    there : nat_le (starts_count b t) (length (segments_of b)) ≡ true
    there = at_most _ _ (omega (arith, count, has.agree.count))

    entries_fit : nat_le ((fixups_header b t).imports_offset
        + import_entry_size (fixups_header b t).imports_format * (fixups_header b t).imports_count) t.size ≡ true
    entries_fit = at_most _ _ imports_end

    names_fit : nat_le (fixups_header b t).symbols_offset t.size ≡ true
    names_fit = at_most _ _ (omega (arith, long, has.room, ap (λ (h : ChainedFixupsHeader). h.symbols_offset) header))

    all_starts : list_all (starts_fit b t) (range_with_len 0 (starts_count b t)) ≡ true
    all_starts =
        all_below (starts_fit b t) (starts_count b t) (λ k lt. segment_taken base (t.at + 28) fixups segments b t k
        (table_header fixups segments format imports) fits header refl refl offsets texts (omega (arith, lt, count))
        (omega (arith, long, has.room))
        has.begins has.agree)
