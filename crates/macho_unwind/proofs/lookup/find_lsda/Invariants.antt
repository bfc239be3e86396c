-- The first LSDA entry of a page that is of the function at a start.
--
-- What holds before entry j: no earlier entry is of that function. So entry j is the first one if it is of the function, and
-- if none is left, the page has no entry of the function.
use Rattle.std.proofs.Common.{◌≢◌, ◌<◌, ℕ}
use Rattle.macho_unwind.specs.Sections.{lsda_at}
use Rattle.macho_unwind.proofs.lookup.find_lsda.Given as goal

-- no entry so far is of this function
abbrev pub invariant-loop-j : goal.invariant-loop-j
invariant-loop-j l = (i : ℕ) → i < l.j → (lsda_at l.bytes l.page.number i).function_offset ≢ l.start
