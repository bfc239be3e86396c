use Rattle.std.proofs.Common.{ℕ, List}
use Rattle.macho_export_lists.specs.steps.Ends.{IsRun}
use Rattle.macho_export_lists.proofs.chosen.rarest_in.Given as goal

abbrev pub invariant-loop-at : goal.invariant-loop-at
invariant-loop-at l = (pattern : List ℕ) → IsRun l.run.bytes.now pattern → IsRun l.between pattern → IsRun l.rarest.bytes.now pattern
