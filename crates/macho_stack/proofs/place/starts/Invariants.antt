-- The starts of cells: what holds before cell k is that the first k have theirs.
use Rattle.std.proofs.Common.{take}
use Rattle.macho_stack.specs.Ranks.{HasStarts}
use Rattle.macho_stack.proofs.place.starts.Given as goal

abbrev pub invariant-loop-one : goal.invariant-loop-one
invariant-loop-one l = HasStarts l.count (take l.one-index l.placed) l.starts.items
