use Rattle.std.proofs.Common.{map}
use Rattle.macho_model.specs.HeadCommands.{rpath_for}
use Rattle.macho_commands.specs.Commands.{said_by}
use Rattle.macho_head.proofs.Made.{IsMade}
use Rattle.macho_head.proofs.commands.add_rpaths.Given as goal

abbrev pub invariant-loop-path : goal.invariant-loop-path
invariant-loop-path l =
    IsMade rpath_for (λ n. n.items) l.rpaths (map said_by l.initial.commands.items) (map said_by l.commands.items) l.path-index
