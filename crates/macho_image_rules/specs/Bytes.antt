-- The segments that a part of a placement may lie in, and their bytes; the bytes of a section that the linker leaves as they are.
use Rattle.std.specs.Prelude.{ℕ, ◌+◌, ◌<◌, nat_lt, if◌then◌else◌, List, Contains, slice_index}
use Rattle.macho_records.specs.declared.header.SegmentCommand.{SegmentCommand}
use Rattle.macho_model.specs.declared.placed.PlacedSegment.{PlacedSegment}
use Rattle.macho_model.specs.declared.placed.PlacedSection.{PlacedSection}
use Rattle.macho_model.specs.Images.{mapped_segments}
use Rattle.macho_model.specs.Links.{Link, header_at}
use Rattle.macho_model.specs.Placement.{id_of}
use Rattle.macho_verify_laws.specs.InFile.{IsInNoField, SectionByteIs}
use Rattle.macho_image_rules.specs.Segments.{SegmentIs}

-- A segment of a placement is one that an image has mapped.
pub record IsMapped (b : List ℕ) (t : PlacedSegment) : Type 0 where
  pub command : SegmentCommand
  pub one : Contains (mapped_segments b) command
  pub is : SegmentIs command t

-- what a segment has so many bytes behind its start: the file's byte, or 0 behind its file bytes
abbrev pub byte_behind : List ℕ → PlacedSegment → ℕ → ℕ
byte_behind b t i = if nat_lt i t.file_size then slice_index b (t.file_offset + i) else 0

-- each byte of a section that stands in no field is the input's
abbrev pub SectionBytesAre : Link → List ℕ → PlacedSection → Type 0
SectionBytesAre l b q = (i : ℕ) → i < (header_at l (id_of q)).size → IsInNoField l q i → SectionByteIs l b q i

-- A byte of a section stands in no field and isn't the input's.
pub record IsWrongByte (l : Link) (b : List ℕ) (q : PlacedSection) (i : ℕ) : Type 0 where
  pub inside : i < (header_at l (id_of q)).size
  pub free : IsInNoField l q i
  pub other : SectionByteIs l b q i → ⊥
