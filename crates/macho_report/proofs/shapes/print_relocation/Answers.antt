-- Numbers are printed as they are.
use Rattle.macho_report.proofs.shapes.print_relocation.Goals as goal

pub returns : goal.returns
returns g c = rw (c.from.ensures, c.from-2.ensures) at c.print_pieces.ensures
