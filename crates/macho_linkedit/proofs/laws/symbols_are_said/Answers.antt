use Rattle.macho_linkedit.proofs.SymbolsSaid.{symbols_are_said, names_are_said}
use Rattle.macho_linkedit.proofs.laws.symbols_are_said.Goals as goal

pub returns-clause-entries : goal.returns-clause-entries
returns-clause-entries c = symbols_are_said

pub returns-clause-names : goal.returns-clause-names
returns-clause-names c = names_are_said
