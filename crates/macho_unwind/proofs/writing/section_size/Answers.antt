-- The size of a plan's section, or none where the last page's place doesn't fit 32 bits.
--
-- The pages stand one behind the other, so each place is the one before it and the size of the page before it. Places grow:
-- where one is 2^32 or more the last one is too. Where the plan has 2^29 pages or LSDAs, their tables alone put the last
-- page beyond 2^32. If each place fitted, the last one does, and the place behind the last page is the size.
use Rattle.std.proofs.Common.{◌≡◌, ℕ, ◌-◌, ◌<◌, ◌^◌, List, length, get_or, map, subst, below_more, arith}
use Rattle.std.proofs.lemmas.List.{length-map}
use Rattle.macho_unwind_pages.specs.declared.plans.Page.{Page}
use Rattle.macho_unwind_pages.specs.Plans.{IsPage, plan_list, page_list}
use Rattle.macho_unwind.specs.Texts.{page_place}
use Rattle.macho_unwind.proofs.Places.{place-grows, page_formed, place_more}
use Rattle.macho_unwind.proofs.writing.section_size.Goals as goal
use Rattle.macho_unwind.proofs.writing.section_size.Goals.{then-len-via-then-len, then-len-via-else-len+then-len-2}

pub returns-then-len : goal.returns-then-len
returns-then-len c =
    let long = length-map c.args.plan.now.pages.items page_list in
    elim c.then-len.branch [
      | then-len-via-then-len w ↦ omega (arith, long)
      | then-len-via-else-len+then-len-2 w ↦ omega (arith, long)
    ]

pub returns-then-place : goal.returns-then-place
returns-then-place c =
    let long = length-map c.args.plan.now.pages.items page_list in
    let lt : c.loop-page.page-index < length c.args.plan.now.pages.items = omega (arith, c.deref-page-items.ensures.len) in
    let last = length (map page_list c.args.plan.now.pages.items) - 1 in
    let grows = place-grows (plan_list c.args.plan.now) c.loop-page.page-index last (omega (arith, long)) in
    omega (arith, grows, c.loop-page.invariant.0)

-- the page that the loop is at
formed : (c : goal.Else-place) → IsPage c.args.plan.now.globals.items (page_list c.page-item.result)
formed c =
    let is = subst (λ (xs : List Page). c.page-item.result ≡ get_or xs c.loop-page.page-index c.page-item.result)
    c.deref-page-items.ensures.value c.page-item.is in
    page_formed c.args.plan.now c.loop-page.page-index c.page-item.result c.requires.plan (omega (arith, c.deref-page-items.ensures.len)) is

pub page_bytes-place-requires-clause-words : goal.page_bytes-place-requires-clause-words
page_bytes-place-requires-clause-words c = omega (arith, (formed c).room)

pub page_bytes-place-requires-clause-locals : goal.page_bytes-place-requires-clause-locals
page_bytes-place-requires-clause-locals c = omega (arith, (formed c).room)

pub overflow_add-place : goal.overflow_add-place
overflow_add-place c =
    let is = subst (λ (xs : List Page). c.page-item.result ≡ get_or xs c.loop-page.page-index c.page-item.result)
    c.deref-page-items.ensures.value c.page-item.is in
    let formed_page = page_formed c.args.plan.now c.loop-page.page-index c.page-item.result c.requires.plan
    (omega (arith, c.deref-page-items.ensures.len)) is in
    omega (arith, formed_page.room, c.page_bytes-place.ensures)

pub loop-page-preserved : goal.loop-page-preserved
loop-page-preserved c =
    let is = subst (λ (xs : List Page). c.page-item.result ≡ get_or xs c.loop-page.page-index c.page-item.result)
    c.deref-page-items.ensures.value c.page-item.is in
    let more = place_more c.args.plan.now c.loop-page.page-index c.page-item.result (omega (arith, c.deref-page-items.ensures.len)) is in (
      omega (arith, more, c.loop-page.invariant.0, c.page_bytes-place.ensures),
      below_more (λ (k : ℕ). page_place (plan_list c.args.plan.now) k < 2 ^ 32) c.loop-page.page-index c.loop-page.invariant.1
          (omega (arith, c.loop-page.invariant.0)),
    )
