-- The commands are written over zeros, and the whole text is what was written.
use Rattle.std.proofs.Common.{arith}
use Rattle.macho_retool.proofs.Writes.{commands_written}
use Rattle.macho_retool.proofs.rewriting.changed_commands.Goals as goal

pub returns : goal.returns
returns c =
    commands_written c.args.change.now c.args.bytes.now c.args.place.now _ c.in_ok-text.text.len c.in_ok-text.text.items
    c.deref_mut.result.now c.write_commands.new.out c.deref_mut.ensures.value (c.in_ok-text.ensures.items_if_clones_equal (λ y e. e))
    (omega (arith, c.max.ensures)) (omega arith) c.write_commands.ensures c.write_commands.auto.out
