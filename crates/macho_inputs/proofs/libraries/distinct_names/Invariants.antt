use Rattle.std.proofs.Common.{◌≡◌, take}
use Rattle.std.specs.Str.{bytes_eq}
use Rattle.macho_model.specs.Needs.{distinct}
use Rattle.macho_stub_lines.specs.Lists.{texts}
use Rattle.macho_inputs.proofs.libraries.distinct_names.Given as goal

abbrev pub invariant-loop-name : goal.invariant-loop-name
invariant-loop-name l = texts l.set.keys ≡ distinct bytes_eq (texts (take l.name-index l.names))
