-- How many codes of a list not every page may name.
--
-- What holds before place k: the count is that of the first k codes, and it is at most k. So one more doesn't overflow,
-- since k is a place in a slice.
use Rattle.std.proofs.Common.{◌≡◌, ◌≤◌, take}
use Rattle.indexmap.specs.IndexMap.{keys}
use Rattle.macho_unwind_pages.specs.Bounds.{MOST_GLOBALS}
use Rattle.macho_unwind_pages.specs.steps.Tallies.{locals_in}
use Rattle.macho_unwind_pages.proofs.ranking.local_count.Given as goal

abbrev pub invariant-loop-code : goal.invariant-loop-code
invariant-loop-code l = record {
  value : l.count ≡ locals_in (take MOST_GLOBALS (keys l.ranks)) (take l.code-index l.codes);
  small : l.count ≤ l.code-index;
}
