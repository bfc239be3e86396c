-- The walk came to the offset, and what is left below a bound becomes less.
use Rattle.std.proofs.Common.{◌-◌}
use Rattle.macho_loader.specs.steps.Words.{IsReached}
use Rattle.macho_loader.proofs.word_rules.unfit_from.Given as goal

abbrev pub invariant-loop-word : goal.invariant-loop-word
invariant-loop-word l = IsReached l.bytes l.segment.place l.page l.from l.offset

abbrev pub decreases-loop-word : goal.decreases-loop-word
decreases-loop-word l = 2147483648 - l.offset
