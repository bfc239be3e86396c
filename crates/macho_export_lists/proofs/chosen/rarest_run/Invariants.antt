use Rattle.std.proofs.Common.{length}
use Rattle.macho_export_lists.specs.steps.Ends.{IsRun, IsTail}
use Rattle.macho_export_lists.proofs.chosen.rarest_run.Given as goal

abbrev pub invariant-loop-star : goal.invariant-loop-star
invariant-loop-star l = IsRun l.rarest.bytes.now l.pattern × IsTail l.left l.pattern

abbrev pub decreases-loop-star : goal.decreases-loop-star
decreases-loop-star l = length l.left
