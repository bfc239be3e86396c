use Rattle.std.proofs.Common.{ℕ, ◌+◌, sym, subst, arith}
use Rattle.macho_commands.specs.Commands.{commands_text}
use Rattle.macho_commands.proofs.Texts.{CommandsSoFar, commands_begin, commands_go_on, command_room, commands_end}
use Rattle.macho_commands.proofs.Reading.{readable_begins, readable_goes_on, readable_ends}
use Rattle.macho_commands.proofs.list.write_commands.Goals as goal

pub loop-command-init : goal.loop-command-init
loop-command-init c = (commands_begin c.args.at c.args.commands.now c.args.out.now (omega arith), readable_begins c.args.commands.now)

pub write-requires-clause-room : goal.write-requires-clause-room
write-requires-clause-room c =
    command_room c.args.at c.loop-command.place c.loop-command.command-index c.args.commands.now _ c.args.out.now c.loop-command.out
    c.loop-command-test.true c.requires.room c.loop-command.invariant.0

pub loop-command-preserved : goal.loop-command-preserved
loop-command-preserved c =
    let Next : ℕ → Type 0 = λ size. CommandsSoFar c.args.at (c.loop-command.place + size) (c.loop-command.command-index + 1)
    c.args.commands.now
    c.args.out.now c.write.new.out in (
      subst Next (sym c.size-place.ensures)
          (commands_go_on c.args.at c.loop-command.place c.loop-command.command-index c.args.commands.now _ c.args.out.now
          c.loop-command.out
          c.write.new.out c.loop-command-test.true c.requires.room c.loop-command.invariant.0 c.write.ensures.long c.write.ensures.written),
      readable_goes_on c.loop-command.command-index c.args.commands.now _ c.loop-command-test.true c.loop-command.invariant.1
          c.write.ensures.readable
          c.write.ensures.long,
    )

pub returns-clause-written : goal.returns-clause-written
unfolding commands_text
returns-clause-written c =
    (commands_end c.args.at c.loop-command.place c.loop-command.command-index c.args.commands.now c.args.out.now c.loop-command.out
    c.loop-command-test.false c.loop-command.invariant.0).0

pub returns-clause-long : goal.returns-clause-long
unfolding commands_text
returns-clause-long c =
    (commands_end c.args.at c.loop-command.place c.loop-command.command-index c.args.commands.now c.args.out.now c.loop-command.out
    c.loop-command-test.false c.loop-command.invariant.0).1

pub returns-clause-readable : goal.returns-clause-readable
returns-clause-readable c = readable_ends c.loop-command.command-index c.args.commands.now c.loop-command-test.false
    c.loop-command.invariant.1
