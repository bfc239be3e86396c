use Rattle.macho_writing_laws.proofs.Inside.{symbols_have, names_have, relocations_have}
use Rattle.macho_writing_laws.proofs.Places.{places_low, places_above, of_link}
use Rattle.macho_writing_laws.proofs.found.targets_have_places.Goals as goal

pub returns : goal.returns
returns c = record {
  symbols = symbols_have;
  names = names_have;
  relocations = relocations_have;
  of_link = of_link;
  low = places_low;
  above = places_above;
}
