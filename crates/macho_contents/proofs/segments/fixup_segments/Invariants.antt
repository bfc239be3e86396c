use Rattle.std.proofs.Common.{◌≡◌, take}
use Rattle.std.specs.Prelude.{map}
use Rattle.macho_promise.specs.steps.Segments.{fixup_segment}
use Rattle.macho_contents.proofs.segments.fixup_segments.Given as goal

-- the segments so far
abbrev pub invariant-loop-segment : goal.invariant-loop-segment
invariant-loop-segment l = l.segments.items ≡ map fixup_segment (take l.segment-index l.placement.segments.items)
