-- The segments of an image against those of a placement.
use Rattle.std.specs.Prelude.{◌≡◌, ℕ, ◌==◌, not, List, filter}
use Rattle.std.specs.List.{AllZip}
use Rattle.macho_records.specs.ByteTexts.{name_of}
use Rattle.macho_records.specs.Segments.{text_of}
use Rattle.macho_records.specs.declared.header.SegmentCommand.{SegmentCommand}
use Rattle.macho_model.specs.declared.placed.PlacedSegment.{PlacedSegment}
use Rattle.macho_model.specs.Images.{segments_of, base_of}
use Rattle.macho_model.specs.Placement.{Placed}

-- A segment of an image has the name and the ranges of one of a placement.
pub record SegmentIs (s : SegmentCommand) (q : PlacedSegment) : Type 0 where
  pub name : name_of s.segname ≡ text_of q.name
  pub address : s.vmaddr ≡ q.address
  pub size : s.vmsize ≡ q.size
  pub offset : s.fileoff ≡ q.file_offset
  pub filed : s.filesize ≡ q.file_size

-- The base of an image is that of a placement, and so are, in order, its segments that have bytes in memory.
pub record SegmentsAre (b : List ℕ) (p : Placed) : Type 0 where
  pub base : p.base ≡ base_of b
  pub each : AllZip SegmentIs (filter (λ s. not (s.vmsize == 0)) (segments_of b)) (filter (λ s. not (s.size == 0)) p.segments)
