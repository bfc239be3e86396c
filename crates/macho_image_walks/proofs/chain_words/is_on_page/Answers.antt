-- The page's chain is what its start leads to.
use Rattle.macho_image_walks.proofs.WordWalk.{page_chain_found, page_chain_only, page_chain_none}
use Rattle.macho_image_walks.proofs.chain_words.is_on_page.Goals as goal

pub returns-then-start-clause-only : goal.returns-then-start-clause-only
returns-then-start-clause-only c _ on =
    page_chain_none c.args.bytes.now c.args.number c.args.place c.args.page c.args.address c.start_of-start.result
    c.start_of-start.ensures c.if-start.true on

pub returns-clause-found : goal.returns-clause-found
returns-clause-found c is =
    page_chain_found c.args.bytes.now c.args.number c.args.place c.args.page c.args.address c.segment_at.result.address
    c.start_of-start.result c.requires.among
    c.start_of-start.ensures c.if-start.false c.segment_at.ensures.address (c.reaches.ensures.found is)

pub returns-clause-only : goal.returns-clause-only
returns-clause-only c is on =
    page_chain_only c.args.bytes.now c.args.number c.args.place c.args.page c.args.address c.segment_at.result.address
    c.start_of-start.result
    c.start_of-start.ensures c.segment_at.ensures.address (c.reaches.ensures.only is) on
