-- A page has the address on its chain, or none has; a page's chain is of a page with a start.
use Rattle.std.proofs.Common.{arith}
use Rattle.macho_model.specs.Chain.{chain_segments}
use Rattle.macho_image_walks.specs.steps.Walks.{chain_segment_at}
use Rattle.macho_image_walks.proofs.ChainSets.{page_has_start}
use Rattle.macho_image_walks.proofs.WordWalk.{on_chain_of}
use Rattle.macho_image_walks.proofs.chain_words.is_on_segment.Goals as goal

pub returns-then-is_on_page-clause-found : goal.returns-then-is_on_page-clause-found
returns-then-is_on_page-clause-found c _ =
    on_chain_of c.args.bytes.now c.args.number c.args.place c.loop-page.page c.args.address c.requires.nth
    (c.is_on_page.ensures.found c.if-is_on_page.true)

pub returns-clause-only : goal.returns-clause-only
returns-clause-only c _ page on =
    let past = c.loop-page-test.false in
    let end = c.pages_of-page-end.ensures in
    let among = page_has_start (chain_segments c.args.bytes.now) c.args.bytes.now
    (chain_segment_at c.args.bytes.now c.args.number c.args.place) page c.args.address on in
    c.loop-page.invariant page (omega (arith, past, end, among)) on
