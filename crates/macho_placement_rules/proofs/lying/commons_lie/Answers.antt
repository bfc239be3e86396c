-- Whether the commons lie in their segment: each has room for what the plan says of its number.
use Rattle.std.proofs.Common.{false}
use Rattle.macho_model.specs.declared.placed.PlacedCommon.{PlacedCommon}
use Rattle.macho_model.specs.Segments.{DATA}
use Rattle.macho_layout.specs.Placements.{placed_of}
use Rattle.macho_placement_rules.specs.steps.Pieces.{common_part}
use Rattle.macho_placement_rules.proofs.Rooms.{on_weaker, rooms_of_all, rooms_of_named, commons_held, held_commons}
use Rattle.macho_placement_rules.proofs.lying.commons_lie.Goals as goal

pub returns-clause-found : goal.returns-clause-found
returns-clause-found c = λ l p plan planned whole.
    on_weaker c.commons_in-lie.result
    (λ rooms. commons_held l p plan (placed_of c.args.placement.now) whole c.args.specs.now planned
    (rooms_of_all false DATA (λ (x : PlacedCommon). x.address) (λ x. (common_part c.args.specs.now x).size)
    c.args.placement.now.segments.items c.as_slice.result.now
    c.in_ok-named.named.items c.as_slice-2.result.now c.args.placement.now.commons.items c.as_slice-3.result.now c.as_slice.ensures.value
    c.in_ok-named.ensures c.as_slice-2.ensures.value c.as_slice-3.ensures.value
    rooms))
    c.commons_in-lie.ensures.found

pub returns-clause-only : goal.returns-clause-only
returns-clause-only c = λ l p plan planned whole all.
    c.commons_in-lie.ensures.only
    (rooms_of_named false DATA (λ (x : PlacedCommon). x.address) (λ x. (common_part c.args.specs.now x).size)
    c.args.placement.now.segments.items c.as_slice.result.now
    c.in_ok-named.named.items c.as_slice-2.result.now c.args.placement.now.commons.items c.as_slice-3.result.now c.as_slice.ensures.value
    c.in_ok-named.ensures c.as_slice-2.ensures.value c.as_slice-3.ensures.value
    (held_commons l p plan (placed_of c.args.placement.now) whole c.args.specs.now planned all))
