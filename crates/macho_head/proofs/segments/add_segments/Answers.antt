-- Each step takes the headers behind those that were passed, which are the segment's own, and says the segment with them.
use Rattle.std.proofs.Common.{◌<◌, ◌∙◌, length, get_or, List, ap, arith}
use Rattle.std.specs.Prelude.{map, ◌∷◌, []}
use Rattle.std.proofs.lemmas.List.{map-append}
use Rattle.macho_model.specs.declared.placed.PlacedSegment.{PlacedSegment}
use Rattle.macho_commands.specs.Commands.{said_by}
use Rattle.macho_layout.specs.Placements.{placed_of}
use Rattle.macho_head.proofs.Split.{no_segment, next_inside, next_own, one_more}
use Rattle.macho_head.proofs.segments.add_segments.Goals as goal

pub headers_from-headers-requires : goal.headers_from-headers-requires
headers_from-headers-requires c =
    let same = c.as_slice-segment-items.ensures.value in
    let lt : c.loop-segment.segment-index < length c.args.placement.now.segments.items = omega (arith, ap length same) in
    next_inside (placed_of c.args.placement.now) _ _ c.loop-segment.at c.loop-segment.segment-index _ no_segment c.requires.split
    c.loop-segment.invariant lt
    (ap (λ (ss : List PlacedSegment). get_or ss c.loop-segment.segment-index no_segment) same)

pub loop-segment-preserved : goal.loop-segment-preserved
loop-segment-preserved c =
    let same = c.as_slice-segment-items.ensures.value in
    let lt : c.loop-segment.segment-index < length c.args.placement.now.segments.items = omega (arith, ap length same) in
    let is = ap (λ (ss : List PlacedSegment). get_or ss c.loop-segment.segment-index no_segment) same in
    let own = c.headers_from-headers.ensures
    ∙ next_own (placed_of c.args.placement.now) _ _ c.loop-segment.at c.loop-segment.segment-index _ no_segment c.requires.split
    c.loop-segment.invariant lt is in
    one_more (placed_of c.args.placement.now) _ _ _ c.loop-segment.at c.loop-segment.segment-index _ _ _ no_segment
    c.loop-segment.invariant lt is
    (c.segment_command.ensures (placed_of c.args.placement.now) own) (ap length own)
    (ap (map said_by) c.in_ok-push.ensures.items ∙ map-append said_by c.loop-segment.commands.items (c.segment_command.result ∷ []))
