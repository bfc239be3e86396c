-- The commands so far have their parts.
use Rattle.std.proofs.Common.{◌≡◌, ◌++◌, take}
use Rattle.std.specs.List.{flat_map}
use Rattle.macho_model.specs.Commands.{command_at}
use Rattle.macho_retool.specs.Parts.{parts_of_segment}
use Rattle.macho_retool.proofs.parts.add_segments.Given as goal

abbrev pub invariant-loop-command : goal.invariant-loop-command
invariant-loop-command l =
    l.parts.items ≡ l.fn.parts.items ++ flat_map (λ r. parts_of_segment l.bytes (command_at l.bytes r.command))
    (take l.command-index l.commands)
