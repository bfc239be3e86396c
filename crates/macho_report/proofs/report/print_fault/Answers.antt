-- A line that was printed was told.
use Rattle.macho_printing.proofs.Prints.{told-by}
use Rattle.macho_report.proofs.report.print_fault.Goals as goal

pub returns-clause-told : goal.returns-clause-told
returns-clause-told g c = told-by _ _ _ c.print_line.result c.print_line.ensures
