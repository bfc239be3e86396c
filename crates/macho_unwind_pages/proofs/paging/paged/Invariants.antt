-- Functions in order are put on pages.
--
-- What holds before function k, which is not the first: the closed pages and the open one are pages of the first k
-- functions, the last of which starts where function k - 1 does. So function k starts behind all that stand on pages.
use Rattle.std.proofs.Common.{◌-◌, ◌<◌, map, take}
use Rattle.std.specs.Prelude.{slice_index_or}
use Rattle.macho_unwind_pages.specs.Plans.{Row, page_list}
use Rattle.macho_unwind_pages.specs.steps.Paging.{globals_in}
use Rattle.macho_unwind_pages.proofs.PagesMade.{ArePagesTo}
use Rattle.macho_unwind_pages.proofs.paging.paged.Given as goal

abbrev no_row : Row
no_row = record { start = 0; code = 0 }

-- pages of the functions so far
abbrev pub invariant-loop-index : goal.invariant-loop-index
invariant-loop-index l = record {
  some : 0 < l.index;
  pages : ArePagesTo (globals_in l.ranks) (take l.index l.rows) (slice_index_or l.rows (l.index - 1) no_row).start
      (map page_list l.pages.items) (page_list l.page);
}
