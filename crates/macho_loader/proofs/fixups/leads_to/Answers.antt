-- The walk goes on from a word that fits, up to the end or to the last word.
use Rattle.std.proofs.Common.{◌<◌, refl, arith}
use Rattle.std.proofs.lemmas.Bool.Decides.{nat_tests}
use Rattle.macho_loader.proofs.ChainWalks.{reached_first}
use Rattle.macho_loader.proofs.ChainLookups.{way_first, way_more, way_ends, way_passes}
use Rattle.macho_loader.proofs.fixups.leads_to.Goals as goal

pub loop-offset-init : goal.loop-offset-init
loop-offset-init c =
    way_first c.args.bytes.now c.args.segment.place c.args.page c.args.from c.args.to
    (reached_first c.args.bytes.now c.args.segment.place c.args.page c.args.from c.requires.small)

pub returns-then-stride-eq0-clause-only : goal.returns-then-stride-eq0-clause-only
returns-then-stride-eq0-clause-only c _ leads =
    let s = c.args.segment in
    way_ends c.args.bytes.now s.number s.place c.args.page c.args.from c.args.to c.loop-offset.offset c.in-Some.word
    c.stride_of-stride.result
    c.requires.apart c.requires.chained.nth c.loop-offset.invariant (c.in-Some.ensures.found c.in-Some.word refl)
    c.stride_of-stride.ensures.is c.if-stride-eq0.true c.loop-offset-test.true leads

pub loop-offset-preserved : goal.loop-offset-preserved
loop-offset-preserved c =
    let s = c.args.segment in
    let pages = c.ranges.page.fits in
    let some = c.if-stride-eq0.false in
    way_more c.args.bytes.now s.number s.place c.args.page c.args.from c.args.to c.loop-offset.offset c.in-Some.word
    c.stride_of-stride.result
    c.requires.apart c.requires.chained.nth (omega (arith, pages)) c.loop-offset.invariant (c.in-Some.ensures.found c.in-Some.word refl)
    c.stride_of-stride.ensures.is c.stride_of-stride.ensures.small (grind (arith, some)) c.loop-offset-test.true

pub returns-clause-only : goal.returns-clause-only
returns-clause-only c other leads =
    let past = c.loop-offset-test.false in
    let behind : c.args.to < c.loop-offset.offset = grind (arith, nat_tests, other, past) in
    way_passes c.args.bytes.now c.args.segment.place c.args.page c.args.from c.args.to c.loop-offset.offset c.loop-offset.invariant behind
    leads
