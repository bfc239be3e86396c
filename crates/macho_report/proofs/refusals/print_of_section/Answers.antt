-- The text of each refusal is that of its row.
use Rattle.macho_report.proofs.refusals.print_of_section.Goals as goal

pub returns-in-BadInitializer : goal.returns-in-BadInitializer
returns-in-BadInitializer g c = rw c.in-BadInitializer.is (rw c.path.ensures at c.print_initializer.ensures)

pub returns-in-BadUnwind : goal.returns-in-BadUnwind
returns-in-BadUnwind g c = rw c.in-BadUnwind.is (rw (c.path-in-BadUnwind.ensures, c.unwind_rule.ensures) at c.print_unwind.ensures)

pub returns-in-OverlappingFields : goal.returns-in-OverlappingFields
returns-in-OverlappingFields g c = rw c.in-OverlappingFields.is (rw c.path-in-OverlappingFields.ensures at c.print_overlap.ensures)
