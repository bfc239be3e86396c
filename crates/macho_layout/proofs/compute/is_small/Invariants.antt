-- Whether all are small: what holds before segment k is that the first k are.
use Rattle.std.proofs.Common.{◌≡◌, true, take}
use Rattle.std.specs.List.{list_all}
use Rattle.macho_layout.specs.Laid.{is_small_segment}
use Rattle.macho_layout.proofs.compute.is_small.Given as goal

abbrev pub invariant-loop-segment : goal.invariant-loop-segment
invariant-loop-segment l = list_all is_small_segment (take l.segment-index l.segments) ≡ true
