-- The segments are walked in order.
use Rattle.std.proofs.Common.{refl}
use Rattle.macho_image_walks.specs.declared.walk.Listed.TheVariants as list
use Rattle.macho_loader.proofs.ListingWalks.{segments_begin, segment_next, segment_passed, segments_end}
use Rattle.macho_loader.proofs.chain_list.list_words.Goals as goal

pub loop-step-init : goal.loop-step-init
loop-step-init c = (
  c.first-at.ensures.at list.Segments c.args.bytes.now,
  segments_begin c.args.bytes.now c.first-at.result.number c.new-lines.result.items c.first-at.ensures.none c.new-lines.ensures.items,
)

pub list_segment-requires-clause-chained : goal.list_segment-requires-clause-chained
list_segment-requires-clause-chained c =
    record { table = c.requires.table; nth = (c.in-Some.ensures.found c.in-Some.step refl).nth }

pub list_segment-requires-clause-so_far : goal.list_segment-requires-clause-so_far
list_segment-requires-clause-so_far c =
    segment_next c.args.bytes.now c.loop-step.at.number c.in-Some.step.place c.loop-step.lines.items c.requires.accepted
    (c.in-Some.ensures.found c.in-Some.step refl).nth c.loop-step.invariant.1

pub loop-step-preserved : goal.loop-step-preserved
loop-step-preserved c =
    let step = c.in-Some.ensures.found c.in-Some.step refl in (
      step.next,
      segment_passed c.args.bytes.now c.loop-step.at.number c.in-Some.step.next.number c.in-Some.step.place c.loop-step.lines.items
          c.list_segment.new.lines.items c.requires.accepted step.nth step.more c.loop-step.invariant.1 c.in_ok-list_segment.ensures,
    )

pub returns : goal.returns
returns c =
    segments_end c.args.bytes.now c.loop-step.at.number c.loop-step.lines.items c.requires.accepted
    (c.step_from.ensures.only c.in_default.is) c.loop-step.invariant.1
