-- The word is on the chain of its page, which is what the page's start leads to.
use Rattle.std.proofs.Common.{◌+◌, ◌*◌, ◌-◌, ◌/◌, ◌<◌, length, sym, ap, subst, arith}
use Rattle.macho_image_walks.specs.steps.Walks.{Leads}
use Rattle.macho_image_walks.specs.Readings.{starts_of}
use Rattle.macho_image_walks.specs.steps.WordTests.{address_in}
use Rattle.macho_image_walks.proofs.WordWalk.{on_chain_of, page_chain_none}
use Rattle.macho_loader.proofs.ChainWalks.{start_found, pages_found}
use Rattle.macho_loader.proofs.ChainLookups.{on_its_page, page_within, led_from_start, not_led_from_start, all_fit_from, address_back}
use Rattle.macho_loader.proofs.fixups.is_on_chain.Goals as goal

pub returns-then-page-pages_in-clause-only : goal.returns-then-page-pages_in-clause-only
returns-then-page-pages_in-clause-only c _ on =
    let b = c.args.bytes.now in
    let s = c.args.segment in
    let page = (c.args.address - c.segment_at.result.address) / 16384 in
    let there = on_its_page b s.number s.place page c.args.address c.args.word c.requires.accepted c.requires.chained.nth c.requires.has
    (ap (λ x. (c.args.address - x) / 16384) c.segment_at.ensures.address) on in
    let within = page_within b s.number s.place page c.args.address there in
    let same = pages_found b s.number s.table c.requires.chained.table in
    let count = c.pages_in.ensures in
    let past = c.if-page-pages_in.true in
    omega (arith, within, same, count, past)

pub returns-then-start-clause-only : goal.returns-then-start-clause-only
returns-then-start-clause-only c _ on =
    let b = c.args.bytes.now in
    let s = c.args.segment in
    let page = (c.args.address - c.segment_at.result.address) / 16384 in
    let there = on_its_page b s.number s.place page c.args.address c.args.word c.requires.accepted c.requires.chained.nth c.requires.has
    (ap (λ x. (c.args.address - x) / 16384) c.segment_at.ensures.address) on in
    page_chain_none b s.number s.place page c.args.address c.start_of_page-start.result
    (start_found b s.number s.table page c.start_of_page-start.result c.requires.chained.table
    (page_within b s.number s.place page c.args.address there) c.start_of_page-start.ensures) c.if-start.true there

pub leads_to-requires-clause-fit : goal.leads_to-requires-clause-fit
leads_to-requires-clause-fit c =
    let b = c.args.bytes.now in
    let s = c.args.segment in
    let page = (c.args.address - c.segment_at.result.address) / 16384 in
    let start = c.start_of_page-start.result in
    let same = pages_found b s.number s.table c.requires.chained.table in
    let count = c.pages_in.ensures in
    let test = c.if-page-pages_in.false in
    let within : page < length (starts_of b s.number) = omega (arith, same, count, test) in
    all_fit_from b s.number s.place page start c.requires.accepted c.requires.chained.nth
    (λ a leads. led_from_start b s.number s.place page start a within
    (start_found b s.number s.table page start c.requires.chained.table within c.start_of_page-start.ensures) c.if-start.false leads)

pub returns-clause-found : goal.returns-clause-found
returns-clause-found c is =
    let b = c.args.bytes.now in
    let s = c.args.segment in
    let page = (c.args.address - c.segment_at.result.address) / 16384 in
    let start = c.start_of_page-start.result in
    let same = pages_found b s.number s.table c.requires.chained.table in
    let count = c.pages_in.ensures in
    let test = c.if-page-pages_in.false in
    let within : page < length (starts_of b s.number) = omega (arith, same, count, test) in
    let back = address_back b s.place c.args.address c.args.word c.segment_at.result.address c.requires.has c.segment_at.ensures.address in
    on_chain_of b s.number s.place page c.args.address c.requires.chained.nth
    (led_from_start b s.number s.place page start c.args.address within
    (start_found b s.number s.table page start c.requires.chained.table within c.start_of_page-start.ensures) c.if-start.false
    (subst (λ x. Leads b (address_in b s.place (16384 * page + start)) x) back (c.leads_to.ensures.found is)))

pub returns-clause-only : goal.returns-clause-only
returns-clause-only c is on =
    let b = c.args.bytes.now in
    let s = c.args.segment in
    let page = (c.args.address - c.segment_at.result.address) / 16384 in
    let start = c.start_of_page-start.result in
    let there = on_its_page b s.number s.place page c.args.address c.args.word c.requires.accepted c.requires.chained.nth c.requires.has
    (ap (λ x. (c.args.address - x) / 16384) c.segment_at.ensures.address) on in
    let back = address_back b s.place c.args.address c.args.word c.segment_at.result.address c.requires.has c.segment_at.ensures.address in
    not_led_from_start b s.number s.place page start c.args.address
    (start_found b s.number s.table page start c.requires.chained.table (page_within b s.number s.place page c.args.address there)
    c.start_of_page-start.ensures)
    (λ leads. c.leads_to.ensures.only is (subst (λ x. Leads b (address_in b s.place (16384 * page + start)) x) (sym back) leads)) there
