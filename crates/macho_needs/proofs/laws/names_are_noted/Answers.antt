use Rattle.macho_needs.proofs.Whole.{names_are_noted, name_is_noted}
use Rattle.macho_needs.proofs.laws.names_are_noted.Goals as goal

pub returns-clause-names : goal.returns-clause-names
returns-clause-names c = names_are_noted

pub returns-clause-one : goal.returns-clause-one
returns-clause-one c = name_is_noted
