use Rattle.std.proofs.Common.{ℕ, List, sym, subst, arith}
use Rattle.macho_export_lists.specs.steps.Ends.{IsRun}
use Rattle.macho_export_lists.proofs.Runs.{run_part}
use Rattle.macho_export_lists.proofs.chosen.rarest_in.Goals as goal

pub loop-at-preserved : goal.loop-at-preserved
loop-at-preserved c pattern run between =
    c.rarer-rarest.ensures pattern (c.loop-at.invariant pattern run between)
    (subst (λ (run : List ℕ). IsRun run pattern) (sym c.part_of-other.ensures)
    (run_part c.args.between.now pattern c.loop-at.at c.run_length-width.result (omega arith) between))
