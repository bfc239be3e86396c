-- The base, as the placement has it.
use Rattle.std.proofs.Common.{ap}
use Rattle.macho_places.specs.Places.{Known}
use Rattle.macho_places.specs.Looked.{look_of}
use Rattle.macho_places.proofs.lookups.LinkPlacesPlaces.base.Goals as goal

pub returns : goal.returns
unfolding look_of
returns c = ap (λ (k : Known). k.placed.base) c.self.view_is
