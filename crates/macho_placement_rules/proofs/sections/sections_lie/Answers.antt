-- Whether the sections lie in their segments: what the plan says of each is what the link says.
use Rattle.macho_layout.specs.Placements.{placed_of}
use Rattle.macho_placement_rules.proofs.Told.{sections_held, held_sections}
use Rattle.macho_placement_rules.proofs.Rooms.{on_weaker}
use Rattle.macho_placement_rules.proofs.sections.sections_lie.Goals as goal

pub returns-clause-found : goal.returns-clause-found
returns-clause-found c = λ l told ids.
    on_weaker c.sections_in.result (sections_held l c.args.specs.now (placed_of c.args.placement.now) told ids
    c.as_slice.result.now c.as_slice-2.result.now c.as_slice.ensures.value c.as_slice-2.ensures.value)
    c.sections_in.ensures.found

pub returns-clause-only : goal.returns-clause-only
returns-clause-only c = λ l told ids all.
    c.sections_in.ensures.only (held_sections l c.args.specs.now (placed_of c.args.placement.now) told ids
    c.as_slice.result.now c.as_slice-2.result.now c.as_slice.ensures.value c.as_slice-2.ensures.value all)
