use Rattle.macho_placed_laws.proofs.Places.{slots_are_had, slots_are_one}
use Rattle.macho_placed_laws.proofs.targets.slots_have_one_place.Goals as goal

pub returns : goal.returns
returns c = record { had = slots_are_had; one = slots_are_one }
