-- The text of each refusal is that of its row.
use Rattle.macho_report.proofs.refusals.print_error.Goals as goal

pub returns-in-TooMany : goal.returns-in-TooMany
returns-in-TooMany g c = rw c.in-TooMany.is (rw c.limit_name.ensures at c.print_many.ensures)

pub returns-in-ImageTooLarge : goal.returns-in-ImageTooLarge
returns-in-ImageTooLarge g c = rw c.in-ImageTooLarge.is c.print_text.ensures

pub returns-in-RebaseTarget : goal.returns-in-RebaseTarget
returns-in-RebaseTarget g c = rw c.in-RebaseTarget.is c.print_site.ensures

pub returns-in-RelocationRange : goal.returns-in-RelocationRange
returns-in-RelocationRange g c = rw c.in-RelocationRange.is c.print_site-in-RelocationRange.ensures

pub returns-in-BadName : goal.returns-in-BadName
returns-in-BadName g c = rw c.in-BadName.is c.print_text-in-BadName.ensures

pub returns-in-BadInput : goal.returns-in-BadInput
returns-in-BadInput g c = rw c.in-BadInput.is c.print_broken.ensures

pub returns-in-OutOfMemory : goal.returns-in-OutOfMemory
returns-in-OutOfMemory g c = rw c.in-OutOfMemory.is c.print_text-in-OutOfMemory.ensures
