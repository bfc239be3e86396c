-- No command has been passed.
use Rattle.macho_loader.proofs.Cursors.{at_first}
use Rattle.macho_loader.proofs.cursor.first.Goals as goal

pub returns-clause-at : goal.returns-clause-at
returns-clause-at c which b = at_first which b
