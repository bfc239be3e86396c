-- Laws of images and placements. Each is the contract of a function.
use Rattle.std.specs.Prelude.{◌≡◌, ℕ, ◌+◌, ◌<◌, true, false, List, Contains}
use Rattle.macho_records.specs.Sections.{segment_name_of}
use Rattle.macho_model.specs.declared.placed.PlacedSegment.{PlacedSegment}
use Rattle.macho_model.specs.declared.placed.PlacedSection.{PlacedSection}
use Rattle.macho_model.specs.Links.{Link, header_at, carried_of}
use Rattle.macho_model.specs.Segments.{PAGEZERO}
use Rattle.macho_model.specs.Loader.{IsAccepted}
use Rattle.macho_model.specs.Memory.{IsSegmentByte}
use Rattle.macho_model.specs.Placement.{Placed, id_of, is_segment_named}
use Rattle.macho_image_rules.specs.Segments.{SegmentsAre}
use Rattle.macho_image_rules.specs.Bytes.{IsMapped, byte_behind}

-- where the segments are those of a placement, each of them that has bytes in memory is mapped, but the one that keeps addresses free
abbrev pub PlacedIsMapped : Type 0
PlacedIsMapped =
    (b : List ℕ) (p : Placed) (t : PlacedSegment) → SegmentsAre b p → Contains p.segments t → 0 < t.size
    → is_segment_named PAGEZERO t ≡ false → IsMapped b t

-- at each address of a mapped segment memory gets the segment's own byte
abbrev pub MappedByteStands : Type 0
MappedByteStands =
    (b : List ℕ) (t : PlacedSegment) (i : ℕ) → IsMapped b t → i < t.size → IsSegmentByte b (t.address + i) (byte_behind b t i)

-- and in an accepted image no other one
abbrev pub MappedByteIsOne : Type 0
MappedByteIsOne =
    (b : List ℕ) (t : PlacedSegment) (i v : ℕ) → IsAccepted b → IsMapped b t → i < t.size → IsSegmentByte b (t.address + i) v
    → v ≡ byte_behind b t i

-- the segment of a carried section is never the one that keeps addresses free
abbrev pub CarriedLieElsewhere : Type 0
CarriedLieElsewhere =
    (l : Link) (q : PlacedSection) (t : PlacedSegment) → Contains (carried_of l) (id_of q)
    → is_segment_named (segment_name_of (header_at l (id_of q))) t ≡ true → is_segment_named PAGEZERO t ≡ false
