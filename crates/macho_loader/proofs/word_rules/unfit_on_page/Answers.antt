-- The page's words are those that its start leads to.
use Rattle.macho_image_walks.proofs.UnfitWords.{unfit_on_page, fit_on_page, fit_without_start}
use Rattle.macho_loader.proofs.ChainWalks.{start_found}
use Rattle.macho_loader.proofs.word_rules.unfit_on_page.Goals as goal

pub returns-then-start-clause-only : goal.returns-then-start-clause-only
returns-then-start-clause-only c _ =
    let b = c.args.bytes.now in
    let s = c.args.segment in
    let start = c.start_of_page-start.result in
    fit_without_start b s.number s.place c.args.page start
    (start_found b s.number s.table c.args.page start c.requires.chained.table c.requires.among c.start_of_page-start.ensures)
    c.if-start.true

pub returns-clause-found : goal.returns-clause-found
returns-clause-found c x is =
    let b = c.args.bytes.now in
    let s = c.args.segment in
    let start = c.start_of_page-start.result in
    unfit_on_page b s.number s.place c.args.page start x c.requires.among
    (start_found b s.number s.table c.args.page start c.requires.chained.table c.requires.among c.start_of_page-start.ensures)
    c.if-start.false (c.unfit_from.ensures.found x is)

pub returns-clause-only : goal.returns-clause-only
returns-clause-only c is =
    let b = c.args.bytes.now in
    let s = c.args.segment in
    let start = c.start_of_page-start.result in
    fit_on_page b s.number s.place c.args.page start
    (start_found b s.number s.table c.args.page start c.requires.chained.table c.requires.among c.start_of_page-start.ensures)
    (c.unfit_from.ensures.only is)
