use Rattle.std.proofs.Common.{◌≡◌, map, filter, take}
use Rattle.macho_stub_lines.specs.Lists.{texts}
use Rattle.macho_inputs.specs.steps.Libraries.{is_kept}
use Rattle.macho_inputs.proofs.libraries.kept_names.Given as goal

abbrev pub invariant-loop-name : goal.invariant-loop-name
invariant-loop-name l = map (λ name. name.items) l.kept.items
    ≡ filter (is_kept l.dead_strip_dylibs (texts l.asked.keys)) (texts (take l.name-index l.names))
