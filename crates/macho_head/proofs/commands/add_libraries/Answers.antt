-- Each step says one more of the texts.
use Rattle.std.proofs.Common.{map, ap, ◌∙◌, arith}
use Rattle.std.proofs.lemmas.List.{map-append}
use Rattle.macho_model.specs.HeadCommands.{needed_dylib_for}
use Rattle.macho_commands.specs.Commands.{said_by}
use Rattle.macho_head.proofs.Made.{more_made}
use Rattle.macho_head.proofs.commands.add_libraries.Goals as goal

pub loop-name-preserved : goal.loop-name-preserved
loop-name-preserved c =
    more_made needed_dylib_for (λ n. n.items) c.args.libraries.now
    (map said_by c.args.commands.now.items) (map said_by c.loop-name.commands.items) (map said_by c.push.new.self.items)
    c.loop-name.name-index c.name-item.result _
    (needed_dylib_for c.as_slice.result.now) c.loop-name.invariant (omega arith) c.name-item.is
    (ap needed_dylib_for c.as_slice.ensures.value)
    (ap (map said_by) c.in_ok-push.ensures.items ∙ map-append said_by c.loop-name.commands.items _)
