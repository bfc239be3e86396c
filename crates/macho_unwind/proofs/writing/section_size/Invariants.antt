-- The size of a plan's section, or none where the last page's place doesn't fit 32 bits.
--
-- What holds before page k: the number is the place of page k, and the place of each page before k is below 2^32. At the end
-- the number is the place behind the last page, which is the size.
use Rattle.std.proofs.Common.{◌≡◌, ◌<◌, ◌^◌, ℕ}
use Rattle.macho_unwind_pages.specs.Plans.{plan_list}
use Rattle.macho_unwind.specs.Texts.{page_place}
use Rattle.macho_unwind.proofs.writing.section_size.Given as goal

-- the place of the next page, and those of the pages before it fit
abbrev pub invariant-loop-page : goal.invariant-loop-page
invariant-loop-page l =
    (l.place ≡ page_place (plan_list l.plan) l.page-index) × ((k : ℕ) → k < l.page-index → page_place (plan_list l.plan) k < 2 ^ 32)
