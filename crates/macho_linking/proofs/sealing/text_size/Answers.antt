use Rattle.std.proofs.Common.{◌∙◌, sym, arith}
use Rattle.macho_linking.proofs.FirstText.{first_size, size_here, size_behind, size_nowhere}
use Rattle.macho_linking.proofs.sealing.text_size.Goals as goal

pub returns-then-is_text : goal.returns-then-is_text
unfolding first_size
returns-then-is_text c =
    size_here c.args.segments.now c.loop-segment.segment-index _ c.loop-segment-test.true c.loop-segment.invariant
    (sym c.is_text.ensures ∙ c.if-is_text.true)

pub loop-segment-preserved : goal.loop-segment-preserved
loop-segment-preserved c =
    size_behind c.args.segments.now c.loop-segment.segment-index _ c.loop-segment-test.true c.loop-segment.invariant
    (sym c.is_text.ensures ∙ c.if-is_text.false)

pub returns : goal.returns
unfolding first_size
returns c = size_nowhere c.args.segments.now c.loop-segment.segment-index (omega (arith, c.loop-segment-test.false))
    c.loop-segment.invariant
