use Rattle.std.proofs.Common.{map, take}
use Rattle.macho_symbol_names.specs.Kept.{Keeps}
use Rattle.macho_linker.specs.Owned.{input_of}
use Rattle.macho_inputs.proofs.resolving.resolve_inputs.Given as goal

abbrev pub invariant-loop-input : goal.invariant-loop-input
invariant-loop-input l = Keeps (map input_of (take l.input-index l.inputs)) l.resolver
