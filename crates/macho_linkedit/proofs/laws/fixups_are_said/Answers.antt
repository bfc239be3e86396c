use Rattle.macho_linkedit.proofs.TableSays.{table_is_said}
use Rattle.macho_linkedit.proofs.FixupsSaid.{fixups_are_said}
use Rattle.macho_linkedit.proofs.laws.fixups_are_said.Goals as goal

pub returns-clause-imports : goal.returns-clause-imports
returns-clause-imports c = table_is_said

pub returns-clause-fixups : goal.returns-clause-fixups
returns-clause-fixups c = fixups_are_said
