-- The words of the slots so far stand behind those that were there.
use Rattle.std.proofs.Common.{◌≡◌, ◌++◌}
use Rattle.macho_image_rules.specs.steps.Gathered.{slot_words}
use Rattle.macho_image_rules.proofs.needing.push_slots.Given as goal

abbrev pub invariant-loop-index : goal.invariant-loop-index
invariant-loop-index l = l.needed.items ≡ l.initial.needed.items ++ slot_words l.slots l.index
