-- The lines of the map, and then the totals; or the map's were refused, of which a front was taken.
use Rattle.std.proofs.lemmas.Result.{err_from_is_err_and}
use Rattle.macho_printing.proofs.Prints.{first-refused, both-printed}
use Rattle.macho_report.proofs.lines.print_lines.Goals as goal

pub returns-in_err-print_wanted-clause-printed : goal.returns-in_err-print_wanted-clause-printed
returns-in_err-print_wanted-clause-printed g c =
    let p = err_from_is_err_and c.from_residual.result c.from_residual.ensures.1 in
    first-refused _ _ _ _ c.from_residual.result p.0 p.1 (rw c.deref.ensures.value at c.in_err-print_wanted.ensures.printed.left)
    c.in_err-print_wanted.ensures.printed.why c.in_err-print_wanted.ensures.printed.counted

pub returns-clause-printed : goal.returns-clause-printed
returns-clause-printed g c =
    both-printed _ _ _ _ _ c.print_totals.result (rw c.deref.ensures.value at c.in_ok-print_wanted.ensures.printed.done)
    c.in_ok-print_wanted.ensures.printed.counted c.print_totals.ensures.printed
