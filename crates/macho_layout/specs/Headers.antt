-- The section headers of a placed plan.
use Rattle.std.specs.Prelude.{ℕ, ◌+◌, ◌-◌, ◌/◌, ◌%◌, ◌^◌, ◌==◌, nat_lt, if◌then◌else◌, List, length, get_or, codes, bit_and}
use Rattle.macho_records.specs.declared.header.SectionHeader.{SectionHeader}
use Rattle.macho_records.specs.declared.segments.SegmentName.{SegmentName}
use Rattle.macho_records.specs.declared.constants.TheConstants.{S_ATTR_PURE_INSTRUCTIONS, S_ATTR_SOME_INSTRUCTIONS, S_INIT_FUNC_OFFSETS, S_NON_LAZY_SYMBOL_POINTERS, S_SYMBOL_STUBS}
use Rattle.macho_records.specs.Sections.{is_zerofill_type}
use Rattle.macho_model.specs.declared.placed.PlacedSegment.{PlacedSegment}
use Rattle.macho_model.specs.OutputSections.{KEPT_FLAGS}
use Rattle.macho_model.specs.Segments.{TEXT, DATA_CONST}
use Rattle.macho_stack.specs.declared.members.Extent.{Extent}
use Rattle.macho_stack.specs.declared.place.PlacedCell.{PlacedCell}
use Rattle.macho_stack.specs.Stacks.{extent_at}
use Rattle.macho_layout.specs.declared.headers.Title.{Title}
use Rattle.macho_layout.specs.Plans.{Planning}
use Rattle.macho_layout.specs.Keys.{padded}
use Rattle.macho_layout.specs.Names.{output_at}

abbrev pub made_title : SegmentName → List ℕ → ℕ → ℕ → Title
made_title segment name flags stub_size = record {
  name = record { segment = segment; name = padded name; kind = bit_and flags 0xff };
  flags = flags;
  stub_size = stub_size;
}

-- the title of an output section, by its number
abbrev pub title_of : Planning → List Extent → ℕ → Title
title_of p extents number =
    if nat_lt number (length extents) then
    record { name = output_at p number; flags = bit_and (extent_at extents number).flags KEPT_FLAGS; stub_size = 0 }
    else if number - length extents == 0 then made_title (padded TEXT) (codes "__init_offsets") S_INIT_FUNC_OFFSETS 0
    else if number - length extents == 1 then made_title (padded TEXT) (codes "__unwind_info") 0 0
    else if number - length extents == 2 then
    made_title (padded TEXT) (codes "__stubs") (S_SYMBOL_STUBS + S_ATTR_PURE_INSTRUCTIONS + S_ATTR_SOME_INSTRUCTIONS) 12
    else made_title (padded DATA_CONST) (codes "__got") S_NON_LAZY_SYMBOL_POINTERS 0

abbrev pub no_segment : PlacedSegment
no_segment = record { name = padded TEXT; address = 0; size = 0; file_offset = 0; file_size = 0 }

-- the file offset of an output section, in 32 bits
abbrev pub file_offset_of : List PlacedSegment → PlacedCell → ℕ
file_offset_of segments q =
    if nat_lt (q.cell.rank / 9) (length segments) then
    ((q.start + (2 ^ 64 - (get_or segments (q.cell.rank / 9) no_segment).address)) % 2 ^ 64 +
    (get_or segments (q.cell.rank / 9) no_segment).file_offset)
    % 2 ^ 64 % 2 ^ 32
    else 0

-- the header of a placed output section
abbrev pub header_of : Planning → List Extent → List PlacedSegment → PlacedCell → SectionHeader
header_of p extents segments q = record {
  sectname = (title_of p extents q.cell.number).name.name.0;
  segname = (title_of p extents q.cell.number).name.segment.0;
  addr = q.start;
  size = q.cell.size;
  offset = if is_zerofill_type (title_of p extents q.cell.number).name.kind then 0 else file_offset_of segments q;
  align = q.cell.exponent;
  reloff = 0;
  nreloc = 0;
  flags = (title_of p extents q.cell.number).flags;
  reserved1 = 0;
  reserved2 = (title_of p extents q.cell.number).stub_size;
  reserved3 = 0;
}
