-- How often each code stands in a list.
--
-- What holds before place k: the table has the count of each code that stands among the first k, and no others. So at the
-- end it has those of the whole list.
use Rattle.std.proofs.Common.{take}
use Rattle.macho_unwind_pages.specs.steps.Ranks.{Counts}
use Rattle.macho_unwind_pages.proofs.ranking.counts.Given as goal

abbrev pub invariant-loop-code : goal.invariant-loop-code
invariant-loop-code l = Counts (take l.code-index l.codes) l.counts
