-- Where the parts of a placement are in the file.
--
-- Each lies in the file part of a segment, whose bytes stand in the file as they do in memory; and file parts end in the file. All
-- stubs together begin with the first and end with the last, and both lie in `__TEXT`.
use Rattle.std.proofs.Common.{◌≡◌, ℕ, ◌+◌, ◌-◌, ◌<◌, ◌≤◌, inl, inr, ◌&&◌, ◌==◌, not, if◌then◌else◌, true, false, List, length, get_or, refl, ap, arith}
use Rattle.std.specs.Prelude.{Contains}
use Rattle.std.proofs.lemmas.Bool.{cases_lt, cases_eq}
use Rattle.std.proofs.lemmas.Bool.Decides.{nat_tests}
use Rattle.macho_bytes.proofs.Members.{all_contains, contains_all, filter_contains}
use Rattle.macho_records.specs.Sections.{is_zerofill}
use Rattle.macho_model.specs.declared.placed.Counts.{Counts}
use Rattle.macho_model.specs.declared.placed.PlacedSection.{PlacedSection}
use Rattle.macho_model.specs.declared.placed.PlacedSegment.{PlacedSegment}
use Rattle.macho_model.specs.declared.placed.Range64.{Range64}
use Rattle.macho_model.specs.declared.placed.Stub.{Stub}
use Rattle.macho_model.specs.Links.{Link, header_at}
use Rattle.macho_model.specs.Segments.{TEXT, DATA_CONST}
use Rattle.macho_model.specs.Placement.{Placed, id_of}
use Rattle.macho_model.specs.Zeros.{Span}
use Rattle.macho_model.specs.Spans.{section_span, slot_span, stub_span, range_span, filled_sections}
use Rattle.macho_model.specs.steps.Parts.{LiesInNamed, SectionLies, RangeLies}
use Rattle.macho_layout_laws.specs.Laws.{IsWhollyPlaced}
use Rattle.macho_placed_laws.proofs.Room.{file_parts_end}
use Rattle.macho_placed_laws.proofs.Backed.{offset_is}
use Rattle.macho_writing_laws.specs.Files.{StandsInFile, stubs_span, PartsStand}
use Rattle.macho_writing_laws.proofs.Placed.{laid_out}
use Rattle.macho_writing_laws.proofs.Rows.{stubs_follow}
use Rattle.macho_model.proofs.Parts.{in_order_of, in_segment_of}
use Rattle.macho_model.proofs.Sections.{one_named}

-- an empty range
stands_empty : (p : Placed) (m : Span) → m.size ≡ 0 → StandsInFile p m
stands_empty p m none = record { each = λ i lt. absurd (omega (arith, none, lt)); ends = λ some. absurd (omega (arith, none, some)) }

-- a range in a file part
stands_in : (l : Link) (counts : Counts) (p : Placed) (s : PlacedSegment) (m : Span) → IsWhollyPlaced l counts p → Contains p.segments s
    → s.address ≤ m.start → m.start + m.size ≤ s.address + s.file_size → StandsInFile p m
stands_in l counts p s m whole has from to = record {
  each = λ i lt.
      let here = offset_is l p s (m.start + i) (in_order_of whole.placed) has (omega (arith, from)) (omega (arith, to, lt)) in
      let first = offset_is l p s m.start (in_order_of whole.placed) has from (omega (arith, to, lt)) in
      omega (arith, here, first, from);
  ends = λ some.
      let first = offset_is l p s m.start (in_order_of whole.placed) has from (omega (arith, to, some)) in
      let end = all_contains (λ (u : PlacedSegment). u.file_offset + u.file_size ≤ p.linkedit.signature.end) p.segments s
      (file_parts_end l counts p whole.placed.follow (laid_out l counts p whole)) has in
      omega (arith, first, end, from, to);
}

stands_named : (l : Link) (counts : Counts) (p : Placed) (name : List ℕ) (m : Span) → IsWhollyPlaced l counts p → LiesInNamed p name true m
    → StandsInFile p m
stands_named l counts p name m whole lies = stands_in l counts p lies.0 m whole lies.1 lies.3.from lies.3.to

range_stands : (l : Link) (counts : Counts) (p : Placed) (r : Range64) → IsWhollyPlaced l counts p → RangeLies p r
    → StandsInFile p (range_span r)
range_stands l counts p r whole lies = elim lies.1 [
  | inl none ↦ stands_empty p (range_span r) (omega (arith, none))
  | inr named ↦ stands_named l counts p TEXT (range_span r) whole named
]

-- a section with bytes
section_stands : (l : Link) (counts : Counts) (p : Placed) (q : PlacedSection) → IsWhollyPlaced l counts p
    → Contains (filled_sections l p) q
    → StandsInFile p (section_span l q)
section_stands l counts p q whole has =
    let both = filter_contains (λ x. not (is_zerofill (header_at l (id_of x)))) p.sections q has in
    let lies = all_contains (SectionLies l p) p.sections q (in_segment_of whole.placed).sections both.0 in
    elim (cases_eq (header_at l (id_of q)).size 0) [
      | inl none ↦ stands_empty p (section_span l q) none
      | inr some ↦
          let filled : ((header_at l (id_of q)).size == 0) ≡ false = grind (arith, nat_tests) in
          let s : PlacedSegment = lies.0 in
          let ends : (if not (is_zerofill (header_at l (id_of q))) && not ((header_at l (id_of q)).size == 0) then s.file_size else s.size)
          ≡ s.file_size = rw (both.1, filled) refl in
          stands_in l counts p s (section_span l q) whole (q.segment, lies.1.0, lies.1.1) lies.3.from (omega (arith, lies.3.to, ends))
    ]

-- all stubs
all_stubs_stand : (l : Link) (counts : Counts) (p : Placed) (d : Stub) → IsWhollyPlaced l counts p → StandsInFile p (stubs_span p d)
all_stubs_stand l counts p d whole = elim (cases_lt 0 (length p.stubs)) [
  | inr none ↦ stands_empty p (stubs_span p d) (omega (arith, none))
  | inl some ↦
      let last : ℕ = length p.stubs - 1 in
      let below : last < length p.stubs = omega (arith, some) in
      let one = (in_segment_of whole.placed).stubs 0 d some in
      let two = (in_segment_of whole.placed).stubs last d below in
      let same : one.0 ≡ two.0 = one_named l p.segments TEXT one.0 two.0 whole.placed.follow one.1 two.1 one.2 two.2 in
      let far = stubs_follow l counts p whole last d below in
      let end = ap (λ (s : PlacedSegment). s.address + s.file_size) same in
      stands_in l counts p one.0 (stubs_span p d) whole one.1 one.3.from (omega (arith, two.3.to, far, end, some))
]

pub parts_stand : PartsStand
parts_stand l counts p whole = record {
  sections = contains_all (λ q. StandsInFile p (section_span l q)) (filled_sections l p) (λ q has. section_stands l counts p q whole has);
  slots = λ k d lt. stands_named l counts p DATA_CONST (slot_span (get_or p.slots k d)) whole ((in_segment_of whole.placed).slots k d lt);
  stubs = λ k d lt. stands_named l counts p TEXT (stub_span (get_or p.stubs k d)) whole ((in_segment_of whole.placed).stubs k d lt);
  all_stubs = λ d. all_stubs_stand l counts p d whole;
  init_offsets = range_stands l counts p p.init_offsets whole (in_segment_of whole.placed).init_offsets;
  unwind = range_stands l counts p p.unwind whole (in_segment_of whole.placed).unwind;
}
