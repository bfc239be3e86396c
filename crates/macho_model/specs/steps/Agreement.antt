-- A segment's place as one value: its name, its addresses, and its bytes in the file.
use Rattle.std.specs.Prelude.{ℕ, List}
use Rattle.macho_records.specs.ByteTexts.{name_of}
use Rattle.macho_records.specs.Segments.{text_of}
use Rattle.macho_records.specs.declared.header.SegmentCommand.{SegmentCommand}
use Rattle.macho_model.specs.declared.placed.PlacedSegment.{PlacedSegment}

abbrev pub SegmentPlace : Type 0
SegmentPlace = List ℕ × ℕ × ℕ × ℕ × ℕ

-- as its command says it, and as the placement does
abbrev pub place_by_command : SegmentCommand → SegmentPlace
place_by_command s = (name_of s.segname, s.vmaddr, s.vmsize, s.fileoff, s.filesize)

abbrev pub place_told : PlacedSegment → SegmentPlace
place_told s = (text_of s.name, s.address, s.size, s.file_offset, s.file_size)
