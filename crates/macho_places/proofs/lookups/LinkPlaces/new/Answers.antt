-- The look-ups tell of each link that the arguments are of.
use Rattle.std.proofs.Common.{ap, length, sym, ◌∙◌}
use Rattle.macho_model.specs.Needs.{imports_of}
use Rattle.macho_layout.specs.Placements.{placed_of}
use Rattle.macho_places.proofs.Telling.{tells_link}
use Rattle.macho_places.proofs.lookups.LinkPlaces.new.Goals as goal

pub returns-clause-tells : goal.returns-clause-tells
returns-clause-tells c l counts of =
    tells_link l counts (placed_of c.args.placement.now) c.args.needs.now c.args.views.now _ of
    ((c.imports-imports.ensures l (imports_of l) of.resolved).long ∙ sym (ap length of.resolved.notes))
