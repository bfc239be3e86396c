-- The text of each rule is that of its row.
use Rattle.macho_report.proofs.refusals.print_broken.Goals as goal

pub returns-in-Object : goal.returns-in-Object
returns-in-Object g c = rw c.in-Object.is (rw (c.last.ensures, c.object_rule.ensures) at c.print_rule.ensures)

pub returns-in-Stub : goal.returns-in-Stub
returns-in-Stub g c = rw c.in-Stub.is (rw (c.last-in-Stub.ensures, c.stub_rule.ensures) at c.print_rule-in-Stub.ensures)
