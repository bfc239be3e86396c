-- What holds before number k: the first k have been added.
use Rattle.std.proofs.Common.{◌≡◌, ◌++◌, map, take}
use Rattle.macho_placement_rules.specs.steps.Pieces.{slot_part}
use Rattle.macho_placement_rules.proofs.pieces.push_slots.Given as goal

abbrev pub invariant-loop-slot : goal.invariant-loop-slot
invariant-loop-slot l = l.parts.items ≡ l.initial.parts.items ++ map slot_part (take l.slot-index l.slots)
