-- The mapped segment with the number is the one whose command was found.
use Rattle.std.proofs.Common.{refl, subst}
use Rattle.macho_image_walks.specs.declared.walk.Listed.TheVariants as list
use Rattle.macho_model.specs.Commands.{command_at}
use Rattle.macho_model.specs.Loader.{segment_in}
use Rattle.macho_image_walks.specs.steps.Walks.{SegmentHas}
use Rattle.macho_image_walks.proofs.NumberedWalk.{nth_one}
use Rattle.macho_image_walks.proofs.LoadedMemory.{byte_found}
use Rattle.macho_image_walks.proofs.mapped.byte_of_nth.Goals as goal

pub returns-in-Some-clause-found : goal.returns-in-Some-clause-found
returns-in-Some-clause-found c v is =
    byte_found c.args.bytes.now c.args.number c.in-Some.place c.args.address v (c.in-Some.ensures.found c.in-Some.place refl)
    (c.byte_of_segment.ensures.found v is)

pub returns-in-Some-clause-only : goal.returns-in-Some-clause-only
returns-in-Some-clause-only c is place nth v has =
    let same = nth_one list.Mapped c.args.bytes.now c.args.number place c.in-Some.place nth
    (c.in-Some.ensures.found c.in-Some.place refl) in
    c.byte_of_segment.ensures.only is v (subst (λ p. SegmentHas c.args.bytes.now
    (segment_in c.args.bytes.now (command_at c.args.bytes.now p)) c.args.address v) same has)
