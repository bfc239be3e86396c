-- The pages with a start are walked in order.
use Rattle.std.proofs.Common.{arith}
use Rattle.macho_loader.proofs.ChainWalks.{pages_found}
use Rattle.macho_loader.proofs.ListingWalks.{pages_begin, pages_end}
use Rattle.macho_loader.proofs.chain_list.list_segment.Goals as goal

pub loop-page-init : goal.loop-page-init
loop-page-init c = pages_begin c.args.bytes.now c.args.segment.place c.args.lines.now.items c.requires.so_far

pub list_page-requires-clause-among : goal.list_page-requires-clause-among
list_page-requires-clause-among c =
    let within = c.loop-page-test.true in
    let end = c.pages_in-page-end.ensures in
    let same = pages_found c.args.bytes.now c.args.segment.number c.args.segment.table c.requires.chained.table in
    omega (arith, within, end, same)

pub returns : goal.returns
returns c =
    let s = c.args.segment in
    let past = c.loop-page-test.false in
    let end = c.pages_in-page-end.ensures in
    let same = pages_found c.args.bytes.now s.number s.table c.requires.chained.table in
    pages_end c.args.bytes.now s.number s.place c.loop-page.page c.loop-page.lines.items c.requires.accepted c.requires.chained.nth
    (omega (arith, past, end, same)) c.loop-page.invariant
