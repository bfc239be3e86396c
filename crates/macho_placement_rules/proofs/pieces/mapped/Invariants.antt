-- What holds before segment k: none of the first k has the name.
use Rattle.std.proofs.Common.{◌≡◌, filter, drop}
use Rattle.macho_model.specs.Segments.{LINKEDIT}
use Rattle.macho_model.specs.Placement.{is_segment_named}
use Rattle.macho_placement_rules.proofs.pieces.mapped.Given as goal

abbrev pub invariant-loop-segment : goal.invariant-loop-segment
invariant-loop-segment l =
    filter (is_segment_named LINKEDIT) l.segments ≡ filter (is_segment_named LINKEDIT) (drop l.segment-index l.segments)
