-- What holds before number k: the first k segments are those of the placement.
use Rattle.std.proofs.Common.{ℕ, ◌<◌, get_or}
use Rattle.macho_records.specs.declared.header.SegmentCommand.{SegmentCommand}
use Rattle.macho_model.specs.declared.placed.PlacedSegment.{PlacedSegment}
use Rattle.macho_image_rules.specs.Segments.{SegmentIs}
use Rattle.macho_image_rules.proofs.segments.are_segments.Given as goal

abbrev pub invariant-loop-number : goal.invariant-loop-number
invariant-loop-number l =
    (k : ℕ) (d : SegmentCommand) (e : PlacedSegment) → k < l.number → SegmentIs (get_or l.commands k d) (get_or l.segments k e)
