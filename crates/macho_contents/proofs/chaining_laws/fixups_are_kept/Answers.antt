use Rattle.macho_contents.proofs.Kept.{fixups_kept, imports_kept}
use Rattle.macho_contents.proofs.chaining_laws.fixups_are_kept.Goals as goal

pub returns-clause-fixups : goal.returns-clause-fixups
returns-clause-fixups c = fixups_kept

pub returns-clause-imports : goal.returns-clause-imports
returns-clause-imports c = imports_kept
