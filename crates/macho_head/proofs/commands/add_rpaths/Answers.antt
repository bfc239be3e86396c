-- Each step says one more of the texts.
use Rattle.std.proofs.Common.{map, ap, ◌∙◌, arith}
use Rattle.std.proofs.lemmas.List.{map-append}
use Rattle.macho_model.specs.HeadCommands.{rpath_for}
use Rattle.macho_commands.specs.Commands.{said_by}
use Rattle.macho_head.proofs.Made.{more_made}
use Rattle.macho_head.proofs.commands.add_rpaths.Goals as goal

pub loop-path-preserved : goal.loop-path-preserved
loop-path-preserved c =
    more_made rpath_for (λ n. n.items) c.args.rpaths.now (map said_by c.args.commands.now.items)
    (map said_by c.loop-path.commands.items) (map said_by c.push.new.self.items)
    c.loop-path.path-index c.path-item.result _ (rpath_for c.as_slice.result.now) c.loop-path.invariant (omega arith) c.path-item.is
    (ap rpath_for c.as_slice.ensures.value) (ap (map said_by) c.in_ok-push.ensures.items ∙ map-append said_by c.loop-path.commands.items _)
