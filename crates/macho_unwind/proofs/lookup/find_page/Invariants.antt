-- The last page entry whose first address is not above an offset.
--
-- What holds before entry k: of the entries before it, the best one is known with its first address; or none was told, and
-- then each of their first addresses is above the offset.
use Rattle.macho_unwind.specs.Sections.{first_at}
use Rattle.macho_unwind.specs.steps.Parts.{IsBest}
use Rattle.macho_unwind.proofs.lookup.find_page.Given as goal

-- the best entry so far
abbrev pub invariant-loop-k : goal.invariant-loop-k
invariant-loop-k l = IsBest l.offset l.k (first_at l.bytes) l.best
