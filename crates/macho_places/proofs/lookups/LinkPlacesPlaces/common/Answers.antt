-- The address of a common, as the tables of the placement have it.
use Rattle.std.proofs.Common.{ap, ◌∙◌, map, get_or}
use Rattle.macho_layout.specs.Placements.{placed_of}
use Rattle.macho_places.specs.Places.{Known}
use Rattle.macho_places.specs.Looked.{look_of}
use Rattle.macho_places.proofs.lookups.LinkPlacesPlaces.common.Goals as goal

pub returns : goal.returns
unfolding look_of
returns c =
    c.common.ensures (placed_of c.self.inside.placement.now) c.self.invariant.held
    ∙ ap (λ (k : Known). get_or (map (λ x. x.address) k.placed.commons) c.args.id 0) c.self.view_is
