use Rattle.macho_commands.proofs.Texts.{CommandsSoFar}
use Rattle.macho_commands.proofs.Reading.{ReadableSoFar}
use Rattle.macho_commands.proofs.list.write_commands.Given as goal

-- the commands so far are put, and can be read
abbrev pub invariant-loop-command : goal.invariant-loop-command
invariant-loop-command l = CommandsSoFar l.at l.place l.command-index l.commands l.initial.out l.out
    × ReadableSoFar l.command-index l.commands
