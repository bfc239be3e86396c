-- A page has a word that does not fit, or each fits; a page's chain is of a page with a start.
use Rattle.std.proofs.Common.{◌+◌, refl, arith}
use Rattle.macho_model.specs.Chain.{chain_segments}
use Rattle.macho_image_walks.specs.steps.Walks.{chain_segment_at}
use Rattle.macho_image_walks.proofs.ChainSets.{page_has_start}
use Rattle.macho_image_walks.proofs.WordWalk.{some_is}
use Rattle.macho_image_walks.proofs.UnfitWords.{word_fails, begins_inside, kept_at}
use Rattle.macho_loader.proofs.ChainWalks.{pages_found}
use Rattle.macho_loader.proofs.word_rules.unfit_on_segment.Goals as goal

pub unfit_on_page-requires-clause-among : goal.unfit_on_page-requires-clause-among
unfit_on_page-requires-clause-among c =
    let within = c.loop-page-test.true in
    let end = c.pages_in-page-end.ensures in
    let same = pages_found c.args.bytes.now c.args.segment.number c.args.segment.table c.requires.chained.table in
    omega (arith, within, end, same)

pub overflow_add-result : goal.overflow_add-result
overflow_add-result c =
    let s = c.args.segment in
    let inside = begins_inside c.args.bytes.now s.place
    (kept_at c.args.bytes.now s.number s.place c.requires.apart.inside c.requires.chained.nth) in
    let small = (c.in-Some.ensures.found c.in-Some.offset refl).small in
    let start = c.segment_at-start.ensures.file_offset in
    omega (arith, inside, small, start)

pub returns-in-Some-clause-found : goal.returns-in-Some-clause-found
returns-in-Some-clause-found c x is =
    let s = c.args.segment in
    word_fails c.args.bytes.now s.number s.place c.loop-page.page c.in-Some.offset c.segment_at-start.result.file_offset x
    c.requires.chained.nth c.segment_at-start.ensures.file_offset (some_is (c.segment_at-start.result.file_offset + c.in-Some.offset) x is)
    (c.in-Some.ensures.found c.in-Some.offset refl)

pub returns-clause-only : goal.returns-clause-only
returns-clause-only c _ page a on =
    let b = c.args.bytes.now in
    let s = c.args.segment in
    let past = c.loop-page-test.false in
    let end = c.pages_in-page-end.ensures in
    let same = pages_found b s.number s.table c.requires.chained.table in
    let among = page_has_start (chain_segments b) b (chain_segment_at b s.number s.place) page a on in
    c.loop-page.invariant page (omega (arith, past, end, same, among)) a on
