use Rattle.macho_unwind_pages.proofs.PlansShort.{plans_short}
use Rattle.macho_unwind_pages.proofs.laws.plans_are_short.Goals as goal

pub returns : goal.returns
returns c = plans_short
