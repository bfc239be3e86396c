-- One entry or more have one plan at most.
--
-- A plan's parts follow from the entries: its run, its codes and ranks, its pages and its tables. So two plans have equal
-- parts. The theorem of that name says it; the function does nothing, and has the statement as its contract.
use Rattle.macho_unwind_pages.proofs.OnePlan.{plans_are_one}
use Rattle.macho_unwind_pages.proofs.laws.plans_are_one.Goals as goal

pub returns : goal.returns
returns c = plans_are_one
