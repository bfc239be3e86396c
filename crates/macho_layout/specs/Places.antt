-- Addresses of parts.
use Rattle.std.specs.Prelude.{ℕ, ◌+◌, ◌*◌, ◌%◌, ◌/◌, ◌^◌, nat_lt, ◌||◌, if◌then◌else◌, Bool, List, [], length, get_or, map, filter, fold, sum_by, Option, Some, None}
use Rattle.std.specs.List.{enumerate_from}
use Rattle.macho_records.specs.declared.segments.SegmentName.{SegmentName}
use Rattle.macho_model.specs.declared.targets.Target.{Target}
use Rattle.macho_model.specs.declared.placed.PlacedSegment.{PlacedSegment}
use Rattle.macho_model.specs.declared.placed.PlacedSection.{PlacedSection}
use Rattle.macho_model.specs.declared.placed.PlacedCommon.{PlacedCommon}
use Rattle.macho_model.specs.declared.placed.Slot.{Slot}
use Rattle.macho_model.specs.declared.placed.Stub.{Stub}
use Rattle.macho_model.specs.Segments.{DATA, DATA_CONST, SEGMENT_PAGE}
use Rattle.macho_stack.specs.declared.place.PlacedCell.{PlacedCell}
use Rattle.macho_layout.specs.declared.spec.SectionSpec.{SectionSpec}
use Rattle.macho_layout.specs.declared.spec.CommonSpec.{CommonSpec}
use Rattle.macho_layout.specs.declared.spec.StubSpec.{StubSpec}
use Rattle.macho_layout.specs.declared.spec.Planned.{Planned}
use Rattle.macho_layout.specs.Keys.{padded, same_segment, segment_key_of}
use Rattle.macho_layout.specs.Cells.{segment_number, is_template_class}
use Rattle.macho_model.specs.declared.placed.Range64.{Range64}
use Rattle.macho_stack.specs.declared.members.PlacedMember.{PlacedMember}

abbrev pub behind : ℕ → ℕ → ℕ
behind address offset = (address + offset) % 2 ^ 64

abbrev pub number_at : List ℕ → ℕ → ℕ
number_at starts number = get_or starts number 0

abbrev pub no_member : PlacedMember
no_member = record { member = record { cell = 0; exponent = 0; flags = 0; size = 0 }; offset = 0 }

-- the address of a member
abbrev pub address_at : List PlacedMember → List ℕ → ℕ → ℕ
address_at members starts number =
    if nat_lt number (length members) then
    behind (number_at starts (get_or members number no_member).member.cell) (get_or members number no_member).offset
    else 0

abbrev pub range_at : ℕ → ℕ → Range64
range_at start size = record { start = start; end = behind start size }

-- the template with one output section more
abbrev pub start_or : ℕ → Option Range64 → ℕ
start_or start None = start
start_or start (Some r) = r.start

abbrev pub cover : Option Range64 → PlacedCell → Option Range64
cover range q = Some (record { start = start_or q.start range; end = behind q.start q.cell.size })

abbrev pub is_template_cell : PlacedCell → Bool
is_template_cell q = is_template_class (q.cell.rank % 9)

-- the range of the template
abbrev pub template_range : List PlacedCell → Option Range64
template_range placed = fold cover None (filter is_template_cell placed)

abbrev pub is_pointer_segment : PlacedSegment → Bool
is_pointer_segment s = same_segment s.name (padded DATA) || same_segment s.name (padded DATA_CONST)

-- the pages of a segment that the loader may write pointers in, and of all segments
abbrev pub segment_pages : PlacedSegment → ℕ
segment_pages s = if is_pointer_segment s then s.file_size / SEGMENT_PAGE else 0

abbrev pub row_pages : List PlacedSegment → ℕ
row_pages segments = sum_by segment_pages segments

abbrev pub placed_section : ℕ → List SegmentName → SectionSpec → ℕ → PlacedSection
placed_section before names s address = record {
  file = s.file;
  section = s.section;
  segment = before + segment_number names (segment_key_of s);
  address = address;
}

abbrev pub placed_sections : ℕ → List SegmentName → List PlacedMember → List ℕ → List Planned → List PlacedSection
placed_sections before names members starts sections =
    map (λ e. placed_section before names e.1.spec (address_at members starts e.0)) (enumerate_from 0 sections)

abbrev pub placed_commons : ℕ → List PlacedMember → List ℕ → List CommonSpec → List PlacedCommon
placed_commons before members starts commons =
    map (λ e. record { id = e.1.id; address = address_at members starts (before + e.0) }) (enumerate_from 0 commons)

abbrev pub placed_slots : ℕ → List Target → List Slot
placed_slots start targets = map (λ e. record { target = e.1; address = behind start (8 * e.0) }) (enumerate_from 0 targets)

abbrev pub placed_stubs : ℕ → List StubSpec → List Stub
placed_stubs start stubs =
    map (λ e. record { import = e.1.import; address = behind start (12 * e.0); slot = e.1.slot }) (enumerate_from 0 stubs)
