-- The walk goes on from a word that fits, up to the last word or to one that does not fit.
use Rattle.std.proofs.Common.{refl, arith}
use Rattle.macho_loader.proofs.ChainWalks.{reached_first, reached_more, all_fit}
use Rattle.macho_loader.proofs.word_rules.unfit_from.Goals as goal

pub loop-word-init : goal.loop-word-init
loop-word-init c = reached_first c.args.bytes.now c.args.segment.place c.args.page c.args.from c.requires.small

pub returns-then-stride-eq0-clause-only : goal.returns-then-stride-eq0-clause-only
returns-then-stride-eq0-clause-only c _ =
    let s = c.args.segment in
    all_fit c.args.bytes.now s.number s.place c.args.page c.args.from c.loop-word.offset c.in-Some.word c.stride_of-stride.result
    c.requires.apart c.requires.chained.nth c.loop-word.invariant (c.in-Some.ensures.found c.in-Some.word refl)
    c.stride_of-stride.ensures.is
    c.if-stride-eq0.true

pub loop-word-preserved : goal.loop-word-preserved
loop-word-preserved c =
    let s = c.args.segment in
    let pages = c.ranges.page.fits in
    let some = c.if-stride-eq0.false in
    reached_more c.args.bytes.now s.number s.place c.args.page c.args.from c.loop-word.offset c.in-Some.word c.stride_of-stride.result
    c.requires.apart c.requires.chained.nth (omega (arith, pages)) c.loop-word.invariant (c.in-Some.ensures.found c.in-Some.word refl)
    c.stride_of-stride.ensures.is c.stride_of-stride.ensures.small (grind (arith, some))
