-- All segments: what holds before segment k is that the first k of the mapped ones stand behind what stood before.
use Rattle.std.proofs.Common.{◌≡◌, ◌++◌, take}
use Rattle.macho_layout.proofs.compute.all_segments.Given as goal

abbrev pub invariant-loop-segment : goal.invariant-loop-segment
invariant-loop-segment l = l.segments.items ≡ l.initial.segments.items ++ take l.segment-index l.mapped
