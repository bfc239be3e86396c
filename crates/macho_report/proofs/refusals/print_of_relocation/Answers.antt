-- The text of each refusal is that of its row.
use Rattle.macho_report.proofs.refusals.print_of_relocation.Goals as goal

pub returns-in-UnsupportedRelocation : goal.returns-in-UnsupportedRelocation
returns-in-UnsupportedRelocation g c = rw c.in-UnsupportedRelocation.is (rw c.path.ensures at c.print_relocation.ensures)

pub returns-in-BindAddend : goal.returns-in-BindAddend
returns-in-BindAddend g c = rw c.in-BindAddend.is (rw c.path-in-BindAddend.ensures at c.print_relocation-in-BindAddend.ensures)

pub returns-in-FixupPlace : goal.returns-in-FixupPlace
returns-in-FixupPlace g c = rw c.in-FixupPlace.is (rw c.path-in-FixupPlace.ensures at c.print_relocation-in-FixupPlace.ensures)
