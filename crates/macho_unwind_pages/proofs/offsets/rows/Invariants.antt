-- The functions of a run of entries, each by its start and its code.
--
-- What holds before entry k: the list has the functions of the first k entries, in their order. When no entry is left, the
-- first k are all of them.
use Rattle.std.proofs.Common.{◌≡◌, take, map}
use Rattle.macho_unwind_pages.proofs.offsets.rows.Given as goal
use Rattle.macho_unwind_pages.specs.steps.Plans.{row_from}

abbrev pub invariant-loop-entry : goal.invariant-loop-entry
invariant-loop-entry l = l.rows.items ≡ map (row_from l.text_start l.ids) (take l.entry-index l.run)
