use Rattle.macho_placed_laws.proofs.Named.{symbol_of_link, name_of_link}
use Rattle.macho_placed_laws.proofs.Relocations.{relocation_of_link}
use Rattle.macho_placed_laws.proofs.targets.targets_are_of_the_link.Goals as goal

pub returns : goal.returns
returns c = record { symbols = symbol_of_link; names = name_of_link; relocations = relocation_of_link }
