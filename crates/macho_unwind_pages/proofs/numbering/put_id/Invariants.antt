-- An id is put in its place among rising ids, unless it is there.
--
-- What holds at a place: it is in the list or at its end, and all ids before it are lesser. Each step goes one place on, so
-- what is left of the list becomes shorter.
use Rattle.std.proofs.Common.{◌<◌, ◌≤◌, ◌-◌, ℕ, length, slice_index}
use Rattle.macho_unwind_pages.proofs.numbering.put_id.Given as goal

-- the ids so far are lesser
abbrev pub invariant-loop-place : goal.invariant-loop-place
invariant-loop-place l = record {
  within : l.place ≤ length l.ids.items;
  lesser : (k : ℕ) → k < l.place → slice_index l.ids.items k < l.id;
}

abbrev pub decreases-loop-place : goal.decreases-loop-place
decreases-loop-place l = length l.ids.items - l.place
