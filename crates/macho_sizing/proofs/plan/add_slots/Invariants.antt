-- Slots of a plan: what holds before slot k is that the first k were added.
use Rattle.std.proofs.Common.{◌≡◌, take}
use Rattle.macho_sizing.proofs.Adding.{with_slots}
use Rattle.macho_sizing.proofs.plan.add_slots.Given as goal

abbrev pub invariant-loop-number : goal.invariant-loop-number
invariant-loop-number l = l.plan ≡ with_slots l.initial.plan (take l.number l.tables.slots)
