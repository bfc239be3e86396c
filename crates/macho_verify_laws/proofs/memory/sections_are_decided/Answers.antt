-- The lemmas say just this.
use Rattle.macho_verify_laws.proofs.Free.{sections_decide, commons_decide}
use Rattle.macho_verify_laws.proofs.memory.sections_are_decided.Goals as goal

pub returns-clause-sections : goal.returns-clause-sections
returns-clause-sections c = sections_decide

pub returns-clause-commons : goal.returns-clause-commons
returns-clause-commons c = commons_decide
