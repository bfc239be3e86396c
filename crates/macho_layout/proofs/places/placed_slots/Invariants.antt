-- What holds before number k is that the list has the first k.
use Rattle.std.proofs.Common.{◌≡◌, take}
use Rattle.macho_layout.specs.Places.{placed_slots}
use Rattle.macho_layout.proofs.places.placed_slots.Given as goal

abbrev pub invariant-loop-number : goal.invariant-loop-number
invariant-loop-number l = l.slots.items ≡ placed_slots l.start (take l.number l.targets)
