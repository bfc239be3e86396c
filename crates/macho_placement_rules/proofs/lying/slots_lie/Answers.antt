-- Whether the slots lie in the file part of their segment: each has room in one of the segments that have its name.
use Rattle.std.proofs.Common.{true}
use Rattle.macho_model.specs.declared.placed.Slot.{Slot}
use Rattle.macho_model.specs.Segments.{DATA_CONST}
use Rattle.macho_placement_rules.proofs.Rooms.{on_weaker, rooms_of_all, rooms_of_named}
use Rattle.macho_placement_rules.proofs.lying.slots_lie.Goals as goal

pub returns-clause-found : goal.returns-clause-found
returns-clause-found c =
    on_weaker c.slots_in-lie.result
    (rooms_of_all true DATA_CONST (λ (s : Slot). s.address) (λ s. 8) c.args.placement.now.segments.items c.as_slice.result.now
    c.in_ok-named.named.items c.as_slice-2.result.now c.args.placement.now.slots.items c.as_slice-3.result.now c.as_slice.ensures.value
    c.in_ok-named.ensures c.as_slice-2.ensures.value c.as_slice-3.ensures.value)
    c.slots_in-lie.ensures.found

pub returns-clause-only : goal.returns-clause-only
returns-clause-only c = λ all.
    c.slots_in-lie.ensures.only
    (rooms_of_named true DATA_CONST (λ (s : Slot). s.address) (λ s. 8) c.args.placement.now.segments.items c.as_slice.result.now
    c.in_ok-named.named.items c.as_slice-2.result.now c.args.placement.now.slots.items c.as_slice-3.result.now c.as_slice.ensures.value
    c.in_ok-named.ensures c.as_slice-2.ensures.value c.as_slice-3.ensures.value all)
