-- A segment has a word that the loader makes something of, or none has.
use Rattle.std.proofs.Common.{arith}
use Rattle.macho_image_walks.specs.steps.Made.{NthMakesNothing}
use Rattle.macho_image_walks.proofs.WordWalk.{one_more_below}
use Rattle.macho_image_walks.proofs.LoadedMemory.{made_lacks}
use Rattle.macho_image_walks.proofs.fixed.fixed_value.Goals as goal

pub loop-number-preserved : goal.loop-number-preserved
loop-number-preserved c =
    one_more_below {P = λ k. NthMakesNothing c.args.bytes.now k c.args.slide c.args.addresses.now c.args.word_at} c.loop-number.number
    c.loop-number.invariant
    (c.made_of_nth.ensures.only c.in_default.is)

pub returns-clause-only : goal.returns-clause-only
returns-clause-only c _ v choice gives made =
    let past = c.loop-number-test.false in
    let end = c.count_of-number-end.ensures in
    made_lacks c.args.bytes.now c.args.slide c.args.addresses.now c.args.word_at v choice
    (λ k within. c.loop-number.invariant k (omega (arith, past, end, within))) gives made
