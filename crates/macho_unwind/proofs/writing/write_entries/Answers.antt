-- The entries of a plan's pages are written one behind the other.
--
-- Entry k is 12 bytes at 12k from the table's place. What it says is known: the page's first offset; the page's place, which
-- is the sum of the sizes of the pages before it; and the place of the first LSDA that isn't of an earlier function, which
-- is 8 bytes from the table of LSDAs on for each one that is. Places grow, and the last one fits 32 bits, so each does. The
-- table ends where the LSDAs begin, so there is room.
use Rattle.std.proofs.Common.{◌≡◌, ◌+◌, ◌-◌, ◌<◌, List, length, get_or, map, subst, ap, ◌∙◌, arith}
use Rattle.std.specs.List.{range_with_len}
use Rattle.std.proofs.lemmas.List.{length-map}
use Rattle.std.proofs.lemmas.List.FromFn.{length-range_with_len, get_or-range_with_len}
use Rattle.macho_bytes.specs.Texts.{put}
use Rattle.macho_bytes.proofs.Sequences.{texts_begin, texts_go_on, texts_end}
use Rattle.macho_unwind_pages.specs.declared.plans.Page.{Page}
use Rattle.macho_unwind_pages.specs.Plans.{plan_list, page_list}
use Rattle.macho_unwind.specs.declared.records.PageEntry.{PageEntry}
use Rattle.macho_unwind.specs.Texts.{entries_place}
use Rattle.macho_unwind.specs.steps.Tables.{entry_text}
use Rattle.macho_unwind.proofs.Lengths.{length-entry_text}
use Rattle.macho_unwind.proofs.Places.{place-grows, page_formed, place_more, entry_is}
use Rattle.macho_unwind.proofs.writing.write_entries.Goals as goal
use Rattle.macho_bytes.specs.Spellings.{spelling}
use Rattle.macho_unwind.specs.Spellings.{page_entry_rows}

pub loop-page-init : goal.loop-page-init
loop-page-init c = (
  omega (arith, c.pages_start-place.ensures),
  omega (arith, c.entries_start-at.ensures),
  record {
    written = texts_begin (entry_text (plan_list c.args.plan.now)) (entries_place (plan_list c.args.plan.now)) c.args.out.now
        (omega (arith, c.requires.room));
    ends = omega (arith, c.entries_start-at.ensures);
  },
)

pub overflow_cast-entry : goal.overflow_cast-entry
overflow_cast-entry c =
    let long = length-map c.args.plan.now.pages.items page_list in
    let lt : c.loop-page.page-index < length c.args.plan.now.pages.items = omega (arith, c.deref-page-items.ensures.len) in
    let last = length (map page_list c.args.plan.now.pages.items) - 1 in
    let grows = place-grows (plan_list c.args.plan.now) c.loop-page.page-index last (omega (arith, long)) in
    omega (arith, grows, c.loop-page.invariant.0, c.requires.places.fits)

pub page_bytes-place-requires-clause-words : goal.page_bytes-place-requires-clause-words
page_bytes-place-requires-clause-words c =
    let is = subst (λ (xs : List Page). c.page-item.result ≡ get_or xs c.loop-page.page-index c.page-item.result)
    c.deref-page-items.ensures.value c.page-item.is in
    let formed_page = page_formed c.args.plan.now c.loop-page.page-index c.page-item.result c.requires.plan
    (omega (arith, c.deref-page-items.ensures.len)) is in
    omega (arith, formed_page.room)

pub page_bytes-place-requires-clause-locals : goal.page_bytes-place-requires-clause-locals
page_bytes-place-requires-clause-locals c =
    let is = subst (λ (xs : List Page). c.page-item.result ≡ get_or xs c.loop-page.page-index c.page-item.result)
    c.deref-page-items.ensures.value c.page-item.is in
    let formed_page = page_formed c.args.plan.now c.loop-page.page-index c.page-item.result c.requires.plan
    (omega (arith, c.deref-page-items.ensures.len)) is in
    omega (arith, formed_page.room)

pub overflow_add-place : goal.overflow_add-place
overflow_add-place c =
    let is = subst (λ (xs : List Page). c.page-item.result ≡ get_or xs c.loop-page.page-index c.page-item.result)
    c.deref-page-items.ensures.value c.page-item.is in
    let formed_page = page_formed c.args.plan.now c.loop-page.page-index c.page-item.result c.requires.plan
    (omega (arith, c.deref-page-items.ensures.len)) is in
    let long = length-map c.args.plan.now.pages.items page_list in
    let lt : c.loop-page.page-index < length c.args.plan.now.pages.items = omega (arith, c.deref-page-items.ensures.len) in
    let last = length (map page_list c.args.plan.now.pages.items) - 1 in
    let grows = place-grows (plan_list c.args.plan.now) c.loop-page.page-index last (omega (arith, long)) in
    omega (arith, formed_page.room, c.page_bytes-place.ensures, grows, c.loop-page.invariant.0, c.requires.places.fits)

pub loop-page-preserved : goal.loop-page-preserved
loop-page-preserved c =
    let plan = c.args.plan.now in
    let i = c.loop-page.page-index in
    let lt : i < length plan.pages.items = omega (arith, c.deref-page-items.ensures.len) in
    let is = subst (λ (xs : List Page). c.page-item.result ≡ get_or xs i c.page-item.result)
    c.deref-page-items.ensures.value c.page-item.is in
    let more = place_more plan i c.page-item.result lt is in
    let range = range_with_len 0 (length plan.pages.items) in
    let within : i < length range = omega (arith, length-range_with_len 0 (length plan.pages.items)) in
    let number : i ≡ get_or range i i = omega (arith, get_or-range_with_len 0 (length plan.pages.items) i i lt) in
    let entry = entry_is plan i c.page-item.result c.loop-page.place c.lsdas_start-lsdas.result c.lsdas_before-before.result
    c.as_slice.result.now lt is c.loop-page.invariant.0 c.lsdas_start-lsdas.ensures c.as_slice.ensures.value
    c.lsdas_before-before.ensures.is in (
      omega (arith, more, c.loop-page.invariant.0, c.page_bytes-place.ensures),
      omega (arith, c.loop-page.invariant.1),
      texts_go_on (entry_text (plan_list plan)) (entries_place (plan_list plan)) c.loop-page.at (c.loop-page.at + 12) i range i
          c.args.out.now c.loop-page.out c.write.new.out within number c.loop-page.invariant.2
          (omega (arith, length-entry_text (plan_list plan) i))
          (omega (arith, c.loop-page.invariant.1, c.requires.room, length-map plan.pages.items page_list))
          (c.write.ensures.written ∙ ap (λ (e : PageEntry). put c.loop-page.at (spelling page_entry_rows e) c.loop-page.out) entry),
    )

pub returns : goal.returns
returns c =
    let plan = c.args.plan.now in
    let range = range_with_len 0 (length plan.pages.items) in
    (texts_end (entry_text (plan_list plan)) (entries_place (plan_list plan)) c.loop-page.at c.loop-page.page-index range
    c.args.out.now c.loop-page.out (omega (arith, length-range_with_len 0 (length plan.pages.items), c.deref-page-items.ensures.len))
    c.loop-page.invariant.2).written
