-- What holds before number k is that the list has the first k.
use Rattle.std.proofs.Common.{◌≡◌, take}
use Rattle.macho_layout.specs.Places.{placed_commons}
use Rattle.macho_layout.proofs.places.placed_commons.Given as goal

abbrev pub invariant-loop-number : goal.invariant-loop-number
invariant-loop-number l = l.placed.items ≡ placed_commons l.before l.members l.starts (take l.number l.commons)
