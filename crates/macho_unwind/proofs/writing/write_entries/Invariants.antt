-- The entries of a plan's pages are written one behind the other.
--
-- What holds before page k: the place of page k is known, the next entry goes to 12k from the table's place, and the bytes
-- are the first ones with the entries of the first k pages put in.
use Rattle.std.proofs.Common.{◌≡◌, ◌+◌, ◌*◌, length, take}
use Rattle.std.specs.List.{range_with_len}
use Rattle.macho_bytes.proofs.Sequences.{MoreTexts}
use Rattle.macho_unwind_pages.specs.Plans.{plan_list}
use Rattle.macho_unwind.specs.Texts.{page_place, entries_place}
use Rattle.macho_unwind.specs.steps.Tables.{entry_text}
use Rattle.macho_unwind.proofs.writing.write_entries.Given as goal

-- the entries so far are put, and the next page's place is known
abbrev pub invariant-loop-page : goal.invariant-loop-page
invariant-loop-page l =
    (l.place ≡ page_place (plan_list l.plan) l.page-index) × (l.at ≡ entries_place (plan_list l.plan) + 12 * l.page-index)
    × MoreTexts (entry_text (plan_list l.plan)) (entries_place (plan_list l.plan)) l.at
    (take l.page-index (range_with_len 0 (length l.plan.pages.items))) l.initial.out l.out
