use Rattle.std.proofs.Common.{◌≡◌, take}
use Rattle.std.specs.Prelude.{sum_by}
use Rattle.macho_commands.specs.Commands.{size_of_command}
use Rattle.macho_commands.proofs.list.commands_size.Given as goal

abbrev pub invariant-loop-command : goal.invariant-loop-command
invariant-loop-command l = l.size ≡ sum_by size_of_command (take l.command-index l.commands)
