use Rattle.std.proofs.Common.{◌≡◌, take}
use Rattle.macho_stub_lines.specs.Lists.{texts}
use Rattle.macho_inputs.specs.steps.Libraries.{asked_of}
use Rattle.macho_inputs.proofs.libraries.asked_names.Given as goal

abbrev pub invariant-loop-import : goal.invariant-loop-import
invariant-loop-import l = texts l.names.items ≡ asked_of (take l.import-index l.imports)
