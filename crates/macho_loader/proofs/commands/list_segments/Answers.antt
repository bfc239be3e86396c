-- The segment that the walk came to is read, since its command stands inside the file, and is the next one of the list.
use Rattle.std.proofs.Common.{◌≡◌, ◌++◌, [], ◌∷◌, Some, refl, sym, ap, ◌∙◌}
use Rattle.macho_records.specs.declared.header.SegmentCommand.{SegmentCommand}
use Rattle.macho_model.specs.Loader.{segment_in}
use Rattle.macho_image_walks.specs.declared.walk.Listed.TheVariants as list
use Rattle.macho_image_walks.specs.Readings.{segment_there}
use Rattle.macho_image_walks.proofs.ListedLaws.{segments_are}
use Rattle.macho_image_walks.proofs.WordWalk.{some_is}
use Rattle.macho_loader.proofs.CommandLists.{said_none, said_more, said_all}
use Rattle.macho_loader.proofs.Segments.{segment_read}
use Rattle.macho_loader.proofs.commands.list_segments.Goals as goal

pub loop-step-init : goal.loop-step-init
loop-step-init c =
    (c.first-at.ensures.at list.Segments c.args.bytes.now, said_none _ _ _ c.first-at.ensures.none c.new-segments.ensures.items)

pub unreachable-requires : goal.unreachable-requires
unreachable-requires c =
    let b = c.args.bytes.now in
    let step = c.in-Some.ensures.found c.in-Some.step refl in
    c.in_default-read.not-Some (segment_there b c.in-Some.step.place)
    (c.read.ensures ∙ segment_read b c.loop-step.at.number c.in-Some.step.place c.requires step.nth)

pub loop-step-preserved : goal.loop-step-preserved
loop-step-preserved c =
    let b = c.args.bytes.now in
    let step = c.in-Some.ensures.found c.in-Some.step refl in
    let read : c.read.result ≡ Some (segment_there b c.in-Some.step.place) =
    c.read.ensures ∙ segment_read b c.loop-step.at.number c.in-Some.step.place c.requires step.nth in
    let is : c.in-Some-read.segment ≡ segment_there b c.in-Some.step.place =
    some_is c.in-Some-read.segment (segment_there b c.in-Some.step.place) (sym c.in-Some-read.is ∙ read) in (
      step.next,
      c.in_ok-push.ensures.items ∙ ap (λ (s : SegmentCommand). c.loop-step.segments.items ++ s ∷ []) is
          ∙ said_more (segment_in b) list.Segments b c.loop-step.at.number c.in-Some.step.next.number c.in-Some.step.place
          c.loop-step.segments.items step.more step.nth c.loop-step.invariant.1,
    )

pub returns : goal.returns
returns c =
    let b = c.args.bytes.now in
    said_all (segment_in b) list.Segments b c.loop-step.at.number c.loop-step.segments.items (c.step_from.ensures.only c.in_default.is)
    c.loop-step.invariant.1 ∙ sym (segments_are b)
