-- The number of an entry.
use Rattle.std.proofs.Common.{ap, ◌∙◌}
use Rattle.macho_places.specs.Places.{Known}
use Rattle.macho_places.specs.Looked.{look_of, entry_number}
use Rattle.macho_places.proofs.lookups.LinkPlacesPlaces.own_entry.Goals as goal

pub returns : goal.returns
unfolding look_of
returns c = c.entry_number.ensures ∙ ap (λ (k : Known). entry_number k.imports k.tables.own c.args.import c.args.addend) c.self.view_is
