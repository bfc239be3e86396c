-- The command with the number, of those that have the change's kind.
use Rattle.std.proofs.Common.{arith}
use Rattle.macho_retool.proofs.Found.{named_found}
use Rattle.macho_retool.proofs.commands.named_command.Goals as goal

pub returns : goal.returns
returns c =
    let some = c.if-count-eq0.false in
    let within = c.if-count-len.false in
    let len = c.len.ensures in
    named_found c.args.change.now c.args.loaded.now c.command_number.result c.count-count.result c.in_ok-commands.commands.items
    c.index.result.now c.command_number.ensures c.in_ok-commands.ensures c.count-count.ensures (omega (arith, some))
    (omega (arith, within, len)) c.index.ensures
