use Rattle.std.proofs.Common.{length, ◌-◌, ◌≤◌, ◌+◌}
use Rattle.macho_fixups.specs.steps.Cuts.{AreBelowFrom}
use Rattle.macho_fixups.proofs.run.skip_below.Given as goal

-- the fixups so far are below
abbrev pub invariant-loop-next : goal.invariant-loop-next
invariant-loop-next l = (l.next ≤ length l.fixups) × (l.from ≤ l.next) × AreBelowFrom l.fixups l.from (l.base + l.size) l.next

abbrev pub decreases-loop-next : goal.decreases-loop-next
decreases-loop-next l = length l.fixups - l.next
