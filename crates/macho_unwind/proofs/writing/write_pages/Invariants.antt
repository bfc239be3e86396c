-- Pages are written one behind the other.
--
-- What holds before page k: the next place is at and the sum of the sizes of the first k pages, and the bytes are the first
-- ones with the texts of these pages put in, which end at that place.
use Rattle.std.proofs.Common.{◌≡◌, ◌+◌, take, sum_by}
use Rattle.macho_bytes.proofs.Sequences.{MoreTexts}
use Rattle.macho_unwind_pages.specs.Plans.{page_list, page_size}
use Rattle.macho_unwind_pages.specs.declared.plans.Page.{Page}
use Rattle.macho_unwind.specs.Texts.{page_text}
use Rattle.macho_unwind.proofs.writing.write_pages.Given as goal

-- the pages so far are put
abbrev pub invariant-loop-page : goal.invariant-loop-page
invariant-loop-page l =
    (l.place ≡ l.at + sum_by (λ (p : Page). page_size (page_list p)) (take l.page-index l.pages))
    × MoreTexts (λ (p : Page). page_text (page_list p)) l.at l.place (take l.page-index l.pages) l.initial.out l.out
