-- Members in their cells: what holds before member k is that the first k are stacked.
use Rattle.std.proofs.Common.{take}
use Rattle.macho_stack.specs.Stacks.{AreStacked}
use Rattle.macho_stack.proofs.members.stack.Given as goal

abbrev pub invariant-loop-member : goal.invariant-loop-member
invariant-loop-member l = AreStacked l.flags (take l.member-index l.members) l.extents.items l.placed.items
