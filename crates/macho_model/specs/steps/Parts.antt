-- The clauses of the placement relation by kinds of parts, each a range of addresses.
use Rattle.std.specs.Prelude.{◌≡◌, ℕ, ◌+◌, ◌%◌, ◌^◌, ◌≤◌, ◌⊎◌, ◌==◌, ◌&&◌, not, if◌then◌else◌, Bool, true, false, List, [], length, filter, All, Contains, Option, MatchOption}
use Rattle.macho_model.specs.declared.placed.Counts.{Counts}
use Rattle.macho_model.specs.declared.placed.PlacedSegment.{PlacedSegment}
use Rattle.macho_model.specs.declared.placed.PlacedSection.{PlacedSection}
use Rattle.macho_model.specs.declared.placed.Range64.{Range64}
use Rattle.macho_records.specs.Sections.{is_zerofill, segment_name_of}
use Rattle.macho_records.specs.Symbols.{common_exponent_of}
use Rattle.macho_model.specs.Lists.{IsNumber}
use Rattle.macho_model.specs.Links.{Link, header_at, is_template, placed_exponent}
use Rattle.macho_model.specs.Resolution.{entry_at}
use Rattle.macho_model.specs.Segments.{TEXT, DATA_CONST, DATA, LINKEDIT}
use Rattle.macho_model.specs.Placement.{Placed, id_of, common_of, is_segment_named, linkedit_ranges, template_sections}
use Rattle.macho_model.specs.Zeros.{Span}
use Rattle.macho_model.specs.Spans.{AreApart, section_span, common_span, slot_span, stub_span, range_span, spans_with}

-- a range lies in a segment, and in its file part where it has file bytes
pub record LiesIn (in_file : Bool) (span : Span) (s : PlacedSegment) : Type 0 where
  pub from : s.address ≤ span.start
  pub to : span.start + span.size ≤ s.address + (if in_file then s.file_size else s.size)

-- some segment of a name holds a range
abbrev pub LiesInNamed : Placed → List ℕ → Bool → Span → Type 0
LiesInNamed p name in_file span =
    (s : PlacedSegment) × Contains p.segments s × (is_segment_named name s ≡ true) × LiesIn in_file span s

-- a section's segment has the section's segment name and holds it; an empty section lies anywhere in it
abbrev pub SectionLies : Link → Placed → PlacedSection → Type 0
SectionLies l p q =
    (s : PlacedSegment) × IsNumber p.segments q.segment s × (is_segment_named (segment_name_of (header_at l (id_of q))) s ≡ true)
    × LiesIn (not (is_zerofill (header_at l (id_of q))) && not ((header_at l (id_of q)).size == 0)) (section_span l q) s

-- a table that is not empty lies in the file part of `__LINKEDIT`
abbrev pub TableLies : Placed → Range64 → Type 0
TableLies p r =
    (r.end ≡ r.start)
    ⊎ ((s : PlacedSegment) × Contains p.segments s × (is_segment_named LINKEDIT s ≡ true) × (s.file_offset ≤ r.start) × (r.start ≤ r.end)
    × (r.end ≤ s.file_offset + s.file_size))

-- a range that is not empty lies in the file part of `__TEXT`
abbrev pub RangeLies : Placed → Range64 → Type 0
RangeLies p r = (r.start ≤ r.end) × ((r.end ≡ r.start) ⊎ LiesInNamed p TEXT true (range_span r))

-- each address is a multiple of its alignment
pub record IsAligned (l : Link) (p : Placed) : Type 0 where
  pub sections : All (λ q. q.address % 2 ^ placed_exponent l (id_of q) ≡ 0) p.sections
  pub commons : All (λ c. c.address % 2 ^ common_exponent_of (entry_at l (common_of l c.id)) ≡ 0) p.commons
  pub slots : All (λ s. s.address % 8 ≡ 0) p.slots
  pub stubs : All (λ s. s.address % 4 ≡ 0) p.stubs

-- each part lies whole in its segment; what has bytes in the file lies in its file part
pub record IsInSegment (l : Link) (p : Placed) : Type 0 where
  pub sections : All (SectionLies l p) p.sections
  pub commons : All (λ c. LiesInNamed p DATA false (common_span l c)) p.commons
  pub slots : All (λ s. LiesInNamed p DATA_CONST true (slot_span s)) p.slots
  pub stubs : All (λ s. LiesInNamed p TEXT true (stub_span s)) p.stubs
  pub init_offsets : RangeLies p p.init_offsets
  pub unwind : RangeLies p p.unwind
  pub linkedit : All (TableLies p) (linkedit_ranges p)

abbrev pub HoldsSpan : Range64 → Span → Type 0
HoldsSpan r span = (r.start ≤ span.start) × (span.start + span.size ≤ r.end)

abbrev pub other_sections : Link → Placed → List PlacedSection
other_sections l p = filter (λ q. not (is_template (header_at l (id_of q)))) p.sections

-- a range holds the whole thread-local template and shares no address with any other part
pub record HoldsTemplate (l : Link) (counts : Counts) (p : Placed) (r : Range64) : Type 0 where
  pub some : 1 ≤ length (template_sections l p)
  pub holds : All (λ q. HoldsSpan r (section_span l q)) (template_sections l p)
  pub apart : All (AreApart (range_span r)) (spans_with l counts p (other_sections l p))

-- the template is told exactly where it has sections
abbrev pub TemplateHolds : Link → Counts → Placed → Option Range64 → Type 0
TemplateHolds l counts p template = MatchOption template (template_sections l p ≡ []) (HoldsTemplate l counts p)
