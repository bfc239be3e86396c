-- How many entries have language-specific data.
--
-- What holds before entry k: the count is that of the first k entries, and it is at most k. So one more doesn't overflow,
-- since k is a place in a slice.
use Rattle.std.proofs.Common.{◌≡◌, ◌≤◌, take}
use Rattle.std.specs.List.{count_by}
use Rattle.macho_unwind_pages.proofs.bound.lsda_count.Given as goal

abbrev pub invariant-loop-entry : goal.invariant-loop-entry
invariant-loop-entry l = record {
  value : l.count ≡ count_by (λ e. e.lsda) (take l.entry-index l.entries);
  small : l.count ≤ l.entry-index;
}
