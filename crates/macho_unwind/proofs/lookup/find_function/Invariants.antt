-- The last function of a page whose offset in the page is not above a limit.
--
-- What holds before function j: of the functions before it, the best one is known with its offset; or none was told, and
-- then each of their offsets is above the limit.
use Rattle.std.proofs.Common.{ℕ}
use Rattle.macho_unwind.specs.Sections.{word_at}
use Rattle.macho_unwind.specs.steps.Parts.{IsBest}
use Rattle.macho_unwind.proofs.lookup.find_function.Given as goal
use Rattle.macho_unwind.specs.steps.Sections.{offset_in}

-- the best function so far, by its offset in the page
abbrev pub invariant-loop-j : goal.invariant-loop-j
invariant-loop-j l = IsBest l.limit l.j (λ (j : ℕ). offset_in (word_at l.bytes l.page.number j)) l.best
