use Rattle.macho_fixups.proofs.FileChains.{chains_told}
use Rattle.macho_fixups.proofs.laws.chains_are_told.Goals as goal

pub returns : goal.returns
returns c = chains_told
