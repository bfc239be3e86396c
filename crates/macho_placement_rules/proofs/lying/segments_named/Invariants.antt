-- What holds before segment k: those of the first k that have the name are listed.
use Rattle.std.proofs.Common.{◌≡◌, filter, take}
use Rattle.macho_model.specs.Placement.{is_segment_named}
use Rattle.macho_placement_rules.proofs.lying.segments_named.Given as goal

abbrev pub invariant-loop-segment : goal.invariant-loop-segment
invariant-loop-segment l = l.named.items ≡ filter (is_segment_named l.name) (take l.segment-index l.segments)
