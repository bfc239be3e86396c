use Rattle.macho_fixups.proofs.NamesRead.{names_are_read}
use Rattle.macho_fixups.proofs.laws.names_are_read.Goals as goal

pub returns : goal.returns
returns c = names_are_read
