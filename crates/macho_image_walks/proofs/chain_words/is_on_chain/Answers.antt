-- A segment has the address on its chain, or none has.
use Rattle.std.proofs.Common.{arith}
use Rattle.macho_image_walks.specs.steps.Walks.{IsOffSegment}
use Rattle.macho_image_walks.proofs.WordWalk.{on_no_segment, one_more_below}
use Rattle.macho_image_walks.proofs.chain_words.is_on_chain.Goals as goal

pub loop-number-preserved : goal.loop-number-preserved
loop-number-preserved c =
    one_more_below {P = λ k. IsOffSegment c.args.bytes.now k c.args.address} c.loop-number.number c.loop-number.invariant
    (c.is_on_nth.ensures.only c.if-is_on_nth.false)

pub returns-clause-only : goal.returns-clause-only
returns-clause-only c _ on =
    let past = c.loop-number-test.false in
    let end = c.count_of-number-end.ensures in
    on_no_segment c.args.bytes.now c.args.address (λ number place within nth page. c.loop-number.invariant number
    (omega (arith, past, end, within)) place nth page) on
