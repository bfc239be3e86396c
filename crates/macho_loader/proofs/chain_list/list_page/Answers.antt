-- The words of a page are those that its start leads to; without a start there are none.
use Rattle.std.proofs.Common.{◌+◌, ◌*◌}
use Rattle.macho_image_walks.specs.steps.Walks as walks
use Rattle.macho_image_walks.specs.steps.WordTests.{address_in}
use Rattle.macho_loader.proofs.ChainWalks.{start_found}
use Rattle.macho_loader.proofs.ChainLookups.{led_from_start}
use Rattle.macho_loader.proofs.ListingWalks.{none_listed, start_listed}
use Rattle.macho_loader.proofs.chain_list.list_page.Goals as goal

pub returns-then-start : goal.returns-then-start
returns-then-start c =
    let b = c.args.bytes.now in
    let s = c.args.walk.segment in
    let start = c.start_of_page-start.result in
    none_listed b s.number s.place c.args.page start c.args.lines.now.items c.requires.accepted c.requires.walk.chained.nth
    (start_found b s.number s.table c.args.page start c.requires.walk.chained.table c.requires.among c.start_of_page-start.ensures)
    c.if-start.true c.requires.so_far

pub list_from-requires-clause-on : goal.list_from-requires-clause-on
list_from-requires-clause-on c =
    let b = c.args.bytes.now in
    let s = c.args.walk.segment in
    let start = c.start_of_page-start.result in
    let a = address_in b s.place (16384 * c.args.page + start) in
    led_from_start b s.number s.place c.args.page start a c.requires.among
    (start_found b s.number s.table c.args.page start c.requires.walk.chained.table c.requires.among c.start_of_page-start.ensures)
    c.if-start.false (walks.Leads.here a)

pub list_from-requires-clause-so_far : goal.list_from-requires-clause-so_far
list_from-requires-clause-so_far c =
    let b = c.args.bytes.now in
    let s = c.args.walk.segment in
    let start = c.start_of_page-start.result in
    let a = address_in b s.place (16384 * c.args.page + start) in
    let is = start_found b s.number s.table c.args.page start c.requires.walk.chained.table c.requires.among
    c.start_of_page-start.ensures in
    start_listed b s.number s.place c.args.page start c.args.lines.now.items c.requires.accepted c.requires.walk.chained.nth is
    (led_from_start b s.number s.place c.args.page start a c.requires.among is c.if-start.false (walks.Leads.here a)) c.requires.so_far
