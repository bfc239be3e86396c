use Rattle.macho_needs.proofs.Whole.{needs_are, names_are_found}
use Rattle.macho_needs.proofs.laws.needs_are_whole.Goals as goal

pub returns-clause-needs : goal.returns-clause-needs
returns-clause-needs c = needs_are

pub returns-clause-names : goal.returns-clause-names
returns-clause-names c = names_are_found
