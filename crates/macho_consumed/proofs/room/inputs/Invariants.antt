use Rattle.std.proofs.Common.{◌≡◌, map, take}
use Rattle.macho_model.specs.Links.{Link}
use Rattle.macho_consumed.specs.Sizes.{AreNoted}
use Rattle.macho_consumed.specs.steps.Inputs.{input_by}
use Rattle.macho_consumed.proofs.room.inputs.Given as goal

abbrev pub invariant-loop-entry : goal.invariant-loop-entry
invariant-loop-entry l = (m : Link) → AreNoted m l.needs → l.inputs.items ≡ map (input_by m) (take l.entry-index l.entries)
