use Rattle.std.proofs.Common.{sym, subst, List, ℕ}
use Rattle.macho_export_lists.specs.steps.Lists.{IsReading}
use Rattle.macho_export_lists.proofs.Adding.{reads_line, reads_last}
use Rattle.macho_export_lists.proofs.UpTo.{on_ok}
use Rattle.macho_export_lists.proofs.list.ExportList.add_lines.Goals as goal

pub loop-end-preserved : goal.loop-end-preserved
loop-end-preserved c =
    subst (λ (left : List ℕ). IsReading c.args.self.now c.add_line.new.self c.args.text.now left) (sym c.behind-left.ensures)
    (reads_line c.args.self.now c.loop-end.self c.add_line.new.self c.args.text.now c.loop-end.left.now c.in-Some.end c.loop-end.invariant
    c.in-Some.ensures.0 c.in-Some.ensures.1
    c.in_ok-add_line.ensures.added)

pub returns-clause-added : goal.returns-clause-added
returns-clause-added c =
    on_ok c.add_line-2.result
    (reads_last c.args.self.now c.loop-end.self c.add_line-2.new.self c.args.text.now c.loop-end.left.now c.loop-end.invariant
    c.in_default.ensures)
    c.add_line-2.ensures.added
