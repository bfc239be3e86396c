use Rattle.std.proofs.Common.{map}
use Rattle.macho_model.specs.HeadCommands.{needed_dylib_for}
use Rattle.macho_commands.specs.Commands.{said_by}
use Rattle.macho_head.proofs.Made.{IsMade}
use Rattle.macho_head.proofs.commands.add_libraries.Given as goal

abbrev pub invariant-loop-name : goal.invariant-loop-name
invariant-loop-name l =
    IsMade needed_dylib_for (λ n. n.items) l.libraries (map said_by l.initial.commands.items)
    (map said_by l.commands.items) l.name-index
