-- The text of each place is that of its row.
use Rattle.macho_report.proofs.refusals.print_site.Goals as goal

pub returns-in-Field : goal.returns-in-Field
returns-in-Field g c = rw c.in-Field.is (rw c.path.ensures at c.print_relocation.ensures)

pub returns-in-Slot : goal.returns-in-Slot
returns-in-Slot g c = rw c.in-Slot.is (rw c.from.ensures at c.print_numbered.ensures)

pub returns-in-Stub : goal.returns-in-Stub
returns-in-Stub g c = rw c.in-Stub.is (rw c.from-in-Stub.ensures at c.print_numbered-in-Stub.ensures)
