-- The walk is on its way, and what is left becomes less.
use Rattle.std.proofs.Common.{◌-◌}
use Rattle.macho_loader.specs.steps.Held.{IsOnWay}
use Rattle.macho_loader.proofs.fixups.leads_to.Given as goal

abbrev pub invariant-loop-offset : goal.invariant-loop-offset
invariant-loop-offset l = IsOnWay l.bytes l.segment.place l.page l.from l.to l.offset

abbrev pub decreases-loop-offset : goal.decreases-loop-offset
decreases-loop-offset l = l.to - l.offset
