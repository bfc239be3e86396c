-- Functions in order are put on pages.
--
-- The first function begins a page. Each further one goes on the open page if that has room; otherwise the page is closed,
-- for one of the reasons for which pages close, and the function begins the next one. Both steps keep it that the closed
-- pages and the open one are pages of the functions so far. In the end the open page is closed too, and the pages are those
-- of all functions.
use Rattle.std.proofs.Common.{◌++◌, ◌∷◌, [], map, ap, ◌∙◌, arith}
use Rattle.std.proofs.lemmas.List.{map_push}
use Rattle.macho_unwind_pages.specs.Plans.{page_list}
use Rattle.macho_unwind_pages.specs.steps.Paging.{globals_in}
use Rattle.macho_unwind_pages.proofs.PagesMade.{made_first, made_taken, made_next, made_all}
use Rattle.macho_unwind_pages.proofs.paging.paged.Goals as goal
use Rattle.macho_unwind_pages.proofs.paging.paged.Goals.{then-is_closed_to+in_ok-next+in_ok-push, else-is_closed_to+in_ok-add}

pub loop-index-init : goal.loop-index-init
loop-index-init c = record {
  some = omega arith;
  pages = rw c.new-pages.ensures.items
      (made_first (globals_in c.args.ranks.now) c.args.rows.now (page_list c.in_ok-page.page) _ c.requires.some c.in_ok-page.ensures);
}

pub begun-requires-then-is_closed_to : goal.begun-requires-then-is_closed_to
begun-requires-then-is_closed_to c = c.requires.ranked c.loop-index.index _ c.loop-index-test.true

pub add-requires-clause-ranked : goal.add-requires-clause-ranked
add-requires-clause-ranked c = c.requires.ranked c.loop-index.index _ c.loop-index-test.true

pub loop-index-preserved : goal.loop-index-preserved
loop-index-preserved c =
    let g = globals_in c.args.ranks.now in
    elim c.if-is_closed_to.branch [
      | then-is_closed_to+in_ok-next+in_ok-push w ↦ rw (w.pages-is, w.page-is, w.replace.ensures.after) record {
        some = omega arith;
        pages = made_next g c.args.rows.now c.loop-index.index _ (map page_list c.loop-index.pages.items) _ (page_list c.loop-index.page) _
            c.loop-index.invariant.some c.loop-index-test.true c.requires.rising c.loop-index.invariant.pages
            w.if-is_closed_to.ensures.closed w.in_ok-next.ensures
            (ap (map page_list) (w.in_ok-push.ensures.items ∙ ap (λ p. c.loop-index.pages.items ++ p ∷ []) w.replace.ensures.value)
            ∙ map_push page_list c.loop-index.pages.items c.loop-index.page);
      }
      | else-is_closed_to+in_ok-add w ↦ rw (w.pages-is, w.page-is) record {
        some = omega arith;
        pages = made_taken g c.args.rows.now c.loop-index.index _ (map page_list c.loop-index.pages.items) (page_list c.loop-index.page) _
            c.loop-index.invariant.some c.loop-index-test.true c.requires.rising c.loop-index.invariant.pages
            w.if-is_closed_to.ensures.open w.in_ok-add.ensures;
      }
    ]

pub returns : goal.returns
returns c =
    made_all (globals_in c.args.ranks.now) c.args.rows.now c.loop-index.index _ (map page_list c.loop-index.pages.items) _
    (page_list c.loop-index.page) c.loop-index-test.false c.loop-index.invariant.pages
    (ap (map page_list) c.in_ok-push-2.ensures.items ∙ map_push page_list c.loop-index.pages.items c.loop-index.page)
