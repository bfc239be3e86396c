-- How many of some ids are lesser than an id.
--
-- What holds before place k: the count is that of the first k ids, and it is at most k. So one more doesn't overflow, and at
-- the end the count is at most the length.
use Rattle.std.proofs.Common.{◌≡◌, ◌≤◌, take}
use Rattle.macho_unwind_pages.specs.Entries.{place_in}
use Rattle.macho_unwind_pages.proofs.numbering.place.Given as goal

abbrev pub invariant-loop-other : goal.invariant-loop-other
invariant-loop-other l = record {
  value : l.place ≡ place_in (take l.other-index l.ids) l.id;
  small : l.place ≤ l.other-index;
}
