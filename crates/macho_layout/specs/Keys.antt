-- The names that sections are merged by, as the tables hold them.
use Rattle.std.specs.Prelude.{ℕ, List, map, Bool, ◌&&◌, ◌==◌, ◌%◌}
use Rattle.std.specs.Str.{bytes_eq}
use Rattle.macho_records.specs.declared.segments.SegmentName.{SegmentName}
pub use Rattle.macho_stack.specs.Rows.{padded}
use Rattle.macho_model.specs.Needs.{distinct}
use Rattle.macho_layout.specs.declared.spec.SectionSpec.{SectionSpec}
use Rattle.macho_layout.specs.declared.spec.OutputName.{OutputName}
use Rattle.macho_layout.specs.declared.spec.Planned.{Planned}

abbrev pub segment_key_of : SectionSpec → SegmentName
segment_key_of s = padded s.segment.0

abbrev pub output_key_of : SectionSpec → OutputName
output_key_of s = record { segment = segment_key_of s; name = padded s.name; kind = s.flags % 256 }

abbrev pub same_segment : SegmentName → SegmentName → Bool
same_segment a b = bytes_eq a.0 b.0

abbrev pub same_output : OutputName → OutputName → Bool
same_output a b = same_segment a.segment b.segment && (same_segment a.name b.name && (a.kind == b.kind))

-- the segments and the names that sections are merged by, as first seen
unfoldable pub segments_seen : List SectionSpec → List SegmentName
segments_seen sections = distinct same_segment (map segment_key_of sections)

unfoldable pub outputs_seen : List SectionSpec → List OutputName
outputs_seen sections = distinct same_output (map output_key_of sections)

-- the sections of a plan, without the numbers of their output sections
abbrev pub specs_of : List Planned → List SectionSpec
specs_of sections = map (λ s. s.spec) sections
