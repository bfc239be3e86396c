-- The lines are pushed behind nothing, and what is held in the end is printed.
use Rattle.macho_printing.proofs.Pushes.{pushed-printed}
use Rattle.macho_inspect.proofs.lines.print_report.Goals as goal

pub returns : goal.returns
returns g c =
    pushed-printed _ _ _ _ _ c.flush.result (rw c.new-lines.ensures at c.in_ok-push_report.ensures.done)
    c.in_ok-push_report.ensures.counted c.flush.ensures.printed
