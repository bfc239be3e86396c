use Rattle.macho_writing_laws.proofs.Files.{parts_stand}
use Rattle.macho_writing_laws.proofs.found.parts_stand_in_the_file.Goals as goal

pub returns : goal.returns
returns c = parts_stand
