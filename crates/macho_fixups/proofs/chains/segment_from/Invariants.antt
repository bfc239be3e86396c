use Rattle.std.proofs.Common.{length, ◌-◌}
use Rattle.macho_fixups.specs.steps.Chains.{ArePassed}
use Rattle.macho_fixups.proofs.chains.segment_from.Given as goal

-- the segments so far are behind
abbrev pub invariant-loop-number : goal.invariant-loop-number
invariant-loop-number l = ArePassed l.segments l.number l.address

abbrev pub decreases-loop-number : goal.decreases-loop-number
decreases-loop-number l = length l.segments - l.number
