-- Pages of segments: what holds before segment k is that none of the first k has too many.
use Rattle.std.proofs.Common.{take}
use Rattle.macho_sizing.specs.steps.Rooms.{HasFew}
use Rattle.macho_sizing.proofs.placing.most_pages.Given as goal

abbrev pub invariant-loop-segment : goal.invariant-loop-segment
invariant-loop-segment l = HasFew (take l.segment-index l.segments)
