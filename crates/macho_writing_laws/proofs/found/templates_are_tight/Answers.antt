use Rattle.macho_writing_laws.proofs.Template.{templates_tight}
use Rattle.macho_writing_laws.proofs.found.templates_are_tight.Goals as goal

pub returns : goal.returns
returns c = templates_tight
