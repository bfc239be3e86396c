-- The slots of personality functions, by the numbers of their ids.
--
-- What holds before entry k: there are as many slots as ids, each has 32 bits, and that of each of the first k entries
-- stands at the place of its id.
use Rattle.std.proofs.Common.{◌≡◌, ◌<◌, ◌^◌, take, length}
use Rattle.std.specs.List.{All}
use Rattle.macho_unwind_pages.proofs.offsets.slots.Given as goal
use Rattle.macho_unwind_pages.specs.steps.Plans.{HasSlot}

abbrev pub invariant-loop-entry : goal.invariant-loop-entry
invariant-loop-entry l = record {
  size : length l.slots.items ≡ length l.ids;
  short : All (λ slot. slot < 2 ^ 32) l.slots.items;
  all : All (HasSlot l.text_start l.ids l.slots.items) (take l.entry-index l.run);
}
