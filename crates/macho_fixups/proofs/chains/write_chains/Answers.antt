use Rattle.std.proofs.Common.{length, arith}
use Rattle.macho_fixups.proofs.ChainWrites.{word_room, word_goes_on}
use Rattle.macho_fixups.proofs.RunPages.{chain_is_run}
use Rattle.macho_fixups.proofs.chains.write_chains.Goals as goal

pub put_little-requires : goal.put_little-requires
put_little-requires c =
    let room = word_room c.args.segments.now c.args.fixups.now _ c.loop-index.index c.segment_from-number.result (length c.args.out.now)
    c.loop-index-test.true c.requires.room c.segment_from-number.ensures in
    omega (arith, c.place_in-place.ensures, room, c.loop-index.auto.out)

pub loop-index-preserved : goal.loop-index-preserved
loop-index-preserved c =
    word_goes_on c.args.segments.now c.args.fixups.now _ c.loop-index.index c.loop-index.number c.segment_from-number.result
    c.place_in-place.result c.step_from.result c.in-Some.word c.args.out.now c.loop-index.out c.put_little.new.out c.loop-index-test.true
    c.requires.fixups c.requires.segments c.requires.room c.loop-index.invariant c.segment_from-number.ensures c.place_in-place.ensures
    c.in-Some.ensures.found c.step_from.ensures.is c.in-Some.ensures.done c.in-Some.ensures.says c.put_little.ensures.written

pub returns-clause-chain : goal.returns-clause-chain
returns-clause-chain c =
    chain_is_run c.args.segments.now c.args.fixups.now c.requires.fixups c.requires.segments
    (λ k d lt. c.loop-index.invariant.written.words k d (omega (arith, c.loop-index-test.false)))
