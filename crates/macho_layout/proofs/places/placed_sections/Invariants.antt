-- What holds before number k is that the list has the first k.
use Rattle.std.proofs.Common.{◌≡◌, take}
use Rattle.macho_layout.specs.Places.{placed_sections}
use Rattle.macho_layout.proofs.places.placed_sections.Given as goal

abbrev pub invariant-loop-number : goal.invariant-loop-number
invariant-loop-number l = l.placed.items ≡ placed_sections l.before l.names l.members l.starts (take l.number l.sections)
