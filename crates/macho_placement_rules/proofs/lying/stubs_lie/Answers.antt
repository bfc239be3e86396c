-- Whether the stubs lie in the file part of their segment: each has room in one of the segments that have its name.
use Rattle.std.proofs.Common.{true}
use Rattle.macho_model.specs.declared.placed.Stub.{Stub}
use Rattle.macho_model.specs.Segments.{TEXT}
use Rattle.macho_placement_rules.proofs.Rooms.{on_weaker, rooms_of_all, rooms_of_named}
use Rattle.macho_placement_rules.proofs.lying.stubs_lie.Goals as goal

pub returns-clause-found : goal.returns-clause-found
returns-clause-found c =
    on_weaker c.stubs_in-lie.result
    (rooms_of_all true TEXT (λ (s : Stub). s.address) (λ s. 12) c.args.placement.now.segments.items c.as_slice.result.now
    c.in_ok-named.named.items c.as_slice-2.result.now c.args.placement.now.stubs.items c.as_slice-3.result.now c.as_slice.ensures.value
    c.in_ok-named.ensures c.as_slice-2.ensures.value c.as_slice-3.ensures.value)
    c.stubs_in-lie.ensures.found

pub returns-clause-only : goal.returns-clause-only
returns-clause-only c = λ all.
    c.stubs_in-lie.ensures.only
    (rooms_of_named true TEXT (λ (s : Stub). s.address) (λ s. 12) c.args.placement.now.segments.items c.as_slice.result.now
    c.in_ok-named.named.items c.as_slice-2.result.now c.args.placement.now.stubs.items c.as_slice-3.result.now c.as_slice.ensures.value
    c.in_ok-named.ensures c.as_slice-2.ensures.value c.as_slice-3.ensures.value all)
