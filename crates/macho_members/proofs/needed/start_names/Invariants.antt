use Rattle.std.proofs.Common.{◌≡◌, take}
use Rattle.std.specs.List.{flat_map}
use Rattle.macho_members.specs.Views.{texts}
use Rattle.macho_members.specs.steps.Held.{starts_in}
use Rattle.macho_members.proofs.needed.start_names.Given as goal

-- the names that the inputs so far bring up
abbrev pub invariant-loop-input : goal.invariant-loop-input
invariant-loop-input l = texts l.names.items ≡ flat_map starts_in (take l.input-index l.inputs)
