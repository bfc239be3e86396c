use Rattle.macho_placed_laws.proofs.Places.{places_are_had, places_are_one}
use Rattle.macho_placed_laws.proofs.Above.{targets_above}
use Rattle.macho_placed_laws.proofs.targets.targets_have_one_place.Goals as goal

pub returns : goal.returns
returns c = record { had = places_are_had; one = places_are_one; above = targets_above }
