-- The address of a section, as the tables of the placement have it.
use Rattle.std.proofs.Common.{ap, ◌∙◌}
use Rattle.macho_model.specs.Addresses.{section_address}
use Rattle.macho_layout.specs.Placements.{placed_of}
use Rattle.macho_places.specs.Places.{Known}
use Rattle.macho_places.specs.Looked.{look_of}
use Rattle.macho_places.proofs.lookups.LinkPlacesPlaces.section.Goals as goal

pub returns : goal.returns
unfolding look_of
returns c =
    c.section.ensures (placed_of c.self.inside.placement.now) c.self.invariant.held
    ∙ ap (λ (k : Known). section_address k.placed c.args.file c.args.section) c.self.view_is
