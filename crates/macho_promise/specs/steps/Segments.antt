-- A segment of a placement, as fixups see it.
use Rattle.macho_model.specs.declared.placed.PlacedSegment.{PlacedSegment}
use Rattle.macho_promise.specs.FixupSegment.{FixupSegment}

abbrev pub fixup_segment : PlacedSegment → FixupSegment
fixup_segment s = record { address = s.address; size = s.size; file_offset = s.file_offset; file_size = s.file_size }
