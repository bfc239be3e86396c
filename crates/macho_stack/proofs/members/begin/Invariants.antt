-- Cells without members: what holds before number k is that the first k have their flags.
use Rattle.std.proofs.Common.{◌≡◌, take}
use Rattle.macho_stack.specs.Stacks.{begun}
use Rattle.macho_stack.proofs.members.begin.Given as goal

abbrev pub invariant-loop-flags : goal.invariant-loop-flags
invariant-loop-flags l = l.extents.items ≡ begun (take l.flags-index l.flags)
