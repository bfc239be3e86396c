-- The parts of a placement as ranges, without alignments, and the order of its segments, as laws of other crates tell of them.
use Rattle.std.specs.Prelude.{◌≡◌, ℕ, ◌+◌, ◌-◌, ◌≤◌, ◌⊎◌, true, List, ◌∷◌, ◌++◌, length, map, filter, All, Contains, not}
use Rattle.std.specs.List.{range_with_len}
use Rattle.macho_model.specs.declared.placed.Counts.{Counts}
use Rattle.macho_model.specs.declared.placed.PlacedSegment.{PlacedSegment}
use Rattle.macho_model.specs.declared.placed.PlacedSection.{PlacedSection}
use Rattle.macho_model.specs.declared.placed.PlacedCommon.{PlacedCommon}
use Rattle.macho_model.specs.declared.placed.Slot.{Slot}
use Rattle.macho_model.specs.declared.placed.Stub.{Stub}
use Rattle.macho_model.specs.declared.placed.Range64.{Range64}
use Rattle.macho_records.specs.Segments.{text_of, name_field}
use Rattle.macho_records.specs.Symbols.{common_size_of}
use Rattle.macho_model.specs.Lists.{EachNext, of_first}
use Rattle.macho_model.specs.Links.{Link, header_at, carried_of}
use Rattle.macho_model.specs.Resolution.{entry_at, chosen_commons}
use Rattle.macho_model.specs.Segments.{TEXT, LINKEDIT, base_of_link, segment_names_of}
use Rattle.macho_model.specs.WrittenSum.{STUB_SIZE}
use Rattle.macho_model.specs.Needs.{POINTER_SIZE}
use Rattle.macho_model.specs.Placement.{Placed, Piece, id_of, common_of, head_size, is_segment_named, linkedit_ranges, IsPaged, Follows}
use Rattle.macho_model.specs.Zeros.{Span}
use Rattle.macho_model.specs.Addresses.{offset_in_file}
use Rattle.macho_model.specs.Fields.{Field}
use Rattle.macho_records.specs.Sections.{is_zerofill}

-- two ranges share no address; an empty one shares none with anything
abbrev pub AreApart : Span → Span → Type 0
AreApart a b = (a.size ≡ 0) ⊎ (b.size ≡ 0) ⊎ (a.start + a.size ≤ b.start) ⊎ (b.start + b.size ≤ a.start)

-- the parts of a placement as ranges of addresses
abbrev pub section_span : Link → PlacedSection → Span
section_span l p = record { start = p.address; size = (header_at l (id_of p)).size }

abbrev pub common_span : Link → PlacedCommon → Span
common_span l c = record { start = c.address; size = common_size_of (entry_at l (common_of l c.id)) }

abbrev pub slot_span : Slot → Span
slot_span s = record { start = s.address; size = POINTER_SIZE }

abbrev pub stub_span : Stub → Span
stub_span s = record { start = s.address; size = STUB_SIZE }

abbrev pub range_span : Range64 → Span
range_span r = record { start = r.start; size = r.end - r.start }

abbrev pub head_span : Counts → Placed → Span
head_span counts p = record { start = p.base; size = head_size counts p }

-- a table of `__LINKEDIT` has a file range; in memory it stands where the segment's file bytes are mapped to
abbrev pub linkedit_span : Placed → Range64 → Span
linkedit_span p r = record {
  start = of_first r.start (λ s. s.address + r.start - s.file_offset) (filter (is_segment_named LINKEDIT) p.segments);
  size = r.end - r.start;
}

-- all parts, with these of the sections
unfoldable pub spans_with : Link → Counts → Placed → List PlacedSection → List Span
spans_with l counts p sections =
    head_span counts p ∷ map (section_span l) sections ++ map (common_span l) p.commons ++ map slot_span p.slots ++ map stub_span p.stubs
    ++ range_span p.init_offsets ∷ range_span p.unwind ∷ map (linkedit_span p) (linkedit_ranges p)

abbrev pub piece : ℕ → Span → Piece
piece exponent span = record { start = span.start; size = span.size; exponent = exponent }

-- a range of addresses as a range of the file
abbrev pub in_file : Placed → Span → Span
in_file p s = record { start = offset_in_file p s.start; size = s.size }

-- `__TEXT` begins at the image's base, so that all segments behind it stand there or later
abbrev pub TextBegins : Link → List PlacedSegment → Type 0
TextBegins l segments = (s : PlacedSegment) × Contains segments s × (is_segment_named TEXT s ≡ true) × (s.address ≡ base_of_link l)

pub record IsInOrder (l : Link) (p : Placed) : Type 0 where
  pub paged : All IsPaged p.segments
  pub follow : EachNext (Follows l) p.segments
  pub begins : TextBegins l p.segments

-- the order of what a placement lists
pub record StandInOrder (l : Link) (counts : Counts) (p : Placed) : Type 0 where
  -- the segments are those of the link, their names filled with zeros
  pub segments : map (λ s. text_of s.name) p.segments ≡ segment_names_of l
  pub names : map (λ s. s.name.0) p.segments ≡ map name_field (segment_names_of l)
  -- sections are listed by file, then section, and commons by number
  pub sections : map id_of p.sections ≡ carried_of l
  pub commons : map (λ c. c.id) p.commons ≡ range_with_len 0 (length (chosen_commons l))

-- an offset in a section is in none of its fields
abbrev pub IsOutsideField : ℕ → Field → Type 0
IsOutsideField i f = (i + 1 ≤ f.offset) ⊎ (f.offset + f.width ≤ i)

-- a place is in none of a range's bytes
abbrev pub IsOutsideSpan : ℕ → Span → Type 0
IsOutsideSpan i s = (i + 1 ≤ s.start) ⊎ (s.start + s.size ≤ i)

abbrev pub filled_sections : Link → Placed → List PlacedSection
filled_sections l p = filter (λ q. not (is_zerofill (header_at l (id_of q)))) p.sections
