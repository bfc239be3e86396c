-- Whether the addresses of all entries are told by offsets of 32 bits.
--
-- What holds before entry k: the addresses of the first k entries are so told. At the first entry of which it doesn't hold
-- the answer is no.
use Rattle.std.proofs.Common.{take}
use Rattle.std.specs.List.{All}
use Rattle.macho_unwind_pages.specs.steps.Planning.{IsNear}
use Rattle.macho_unwind_pages.proofs.offsets.are_near.Given as goal

abbrev pub invariant-loop-entry : goal.invariant-loop-entry
invariant-loop-entry l = All (IsNear l.text_start) (take l.entry-index l.run)
