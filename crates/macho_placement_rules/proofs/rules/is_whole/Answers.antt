-- Whether each thing of a plan has a place: list by list.
use Rattle.std.proofs.Common.{sym, ◌∙◌}
use Rattle.macho_layout.specs.Placements.{placed_of}
use Rattle.macho_placement_rules.proofs.Rooms.{on_weaker}
use Rattle.macho_placement_rules.proofs.WholeLaw.{commons_are, whole_is}
use Rattle.macho_placement_rules.proofs.rules.is_whole.Goals as goal

pub returns-then-not-are_all_commons-clause-only : goal.returns-then-not-are_all_commons-clause-only
returns-then-not-are_all_commons-clause-only c = λ l are whole.
    sym c.if-not-are_all_commons.true ∙ c.are_all_commons.ensures.only
    (commons_are l (placed_of c.args.placement.now) c.args.lists.now are c.as_slice-2.result.now c.as_slice-2.ensures.value whole)

pub returns-clause-found : goal.returns-clause-found
returns-clause-found c = λ l are.
    on_weaker c.are_all_stubs.result
    (whole_is l (placed_of c.args.placement.now) c.args.lists.now are c.as_slice.result.now c.as_slice-2.result.now
    c.as_slice-3.result.now c.as_slice-4.result.now c.as_slice.ensures.value c.as_slice-2.ensures.value c.as_slice-3.ensures.value
    c.as_slice-4.ensures.value (c.if-not-are_all_sections.ensures.found l are.plan.sections) c.if-not-are_all_commons.ensures.found
    c.if-not-are_all_slots.ensures.found)
    (c.are_all_stubs.ensures.found l (record { stubs_are = are.plan.stubs; slots_are = are.plan.stub_slots }))
