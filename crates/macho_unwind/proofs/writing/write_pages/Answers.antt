-- Pages are written one behind the other.
--
-- Before the first one nothing is put, which changes nothing. A page's text is as long as its size says, so after k pages
-- the next place is at and the sum of their sizes, just behind what is put. The sum of k + 1 sizes is at most that of all,
-- for which there is room.
use Rattle.std.proofs.Common.{◌+◌, ap, arith}
use Rattle.std.proofs.lemmas.List.Sums.{sum_by_more, sum_by_more_le}
use Rattle.macho_bytes.proofs.Sequences.{texts_begin, texts_go_on}
use Rattle.macho_unwind_pages.specs.declared.plans.Page.{Page}
use Rattle.macho_unwind_pages.specs.Plans.{page_list, page_size}
use Rattle.macho_unwind.specs.Texts.{page_text}
use Rattle.macho_unwind.proofs.writing.write_pages.Goals as goal

pub loop-page-init : goal.loop-page-init
loop-page-init c = (
  omega arith,
  record { written = texts_begin (λ (p : Page). page_text (page_list p)) c.args.at c.args.out.now (omega arith); ends = omega arith },
)

pub loop-page-preserved : goal.loop-page-preserved
loop-page-preserved c =
    let size = λ (p : Page). page_size (page_list p) in
    let more = sum_by_more size c.args.pages.now c.loop-page.page-index c.page-item.result c.loop-page-test.true in
    let room = sum_by_more_le size c.args.pages.now c.loop-page.page-index c.page-item.result c.loop-page-test.true in
    let same = ap size c.page-item.is in
    let place = c.loop-page.invariant.0 in (
      omega (arith, more, same, place, c.page_bytes-place.ensures),
      texts_go_on (λ (p : Page). page_text (page_list p)) c.args.at c.loop-page.place (c.loop-page.place + c.page_bytes-place.result)
          c.loop-page.page-index c.args.pages.now c.page-item.result c.args.out.now c.loop-page.out c.write_page.new.out
          c.loop-page-test.true c.page-item.is c.loop-page.invariant.1
          (omega (arith, c.write_page.ensures.long, c.page_bytes-place.ensures))
          (omega (arith, room, same, place, c.page_bytes-place.ensures, c.requires.room)) c.write_page.ensures.written,
    )
