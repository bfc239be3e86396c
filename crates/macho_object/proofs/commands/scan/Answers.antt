use Rattle.std.proofs.Common.{refl, ap, arith}
use Rattle.macho_bytes.specs.Layouts.{reading}
use Rattle.macho_records.specs.Layouts.{load_command}
use Rattle.macho_model.specs.Commands.{command_at, commands_end, command_fits}
use Rattle.macho_model.specs.ObjectRules.{commands_inside}
use Rattle.macho_object.specs.steps.Scans.{needed_of}
use Rattle.macho_object.proofs.Options.{some_if, none_if}
use Rattle.macho_object.proofs.Passes.{passes_none, passes_read, passes_all, breaks_here, breaks_front}
use Rattle.macho_object.proofs.commands.scan.Goals as goal

pub loop-number-init : goal.loop-number-init
loop-number-init c =
    passes_none c.args.is_dynamic c.args.input.now c.args.header.ncmds _ (ap (λ h. h.ncmds) c.requires.is) refl refl

pub loop-number-preserved : goal.loop-number-preserved
loop-number-preserved c =
    let b = c.args.input.now in
    let at = c.loop-number.at in
    let fits = some_if (command_fits (needed_of c.args.is_dynamic b) b (command_at b at)) _ (reading load_command b at)
    c.in-Some-read_command.ensures in
    passes_read c.args.is_dynamic b c.args.header.ncmds c.loop-number._number at c.loop-number.tally _ c.in-Some-read_command.command
    c.loop-number.invariant (omega arith) fits.0 fits.1 c.noted-tally.ensures.main c.noted-tally.ensures.symtab

pub returns-in_default-clause-why : goal.returns-in_default-clause-why
returns-in_default-clause-why c =
    rw (c.broken.ensures.rule, c.broken.ensures.place)
    (breaks_front c.args.is_dynamic c.args.input.now
    (none_if (commands_inside c.args.input.now) (commands_end c.args.input.now) c.in_default.ensures))

pub returns-in_default-read_command-clause-why : goal.returns-in_default-read_command-clause-why
returns-in_default-read_command-clause-why c =
    let b = c.args.input.now in
    let at = c.loop-number.at in
    let fails = none_if (command_fits (needed_of c.args.is_dynamic b) b (command_at b at)) (reading load_command b at)
    c.in_default-read_command.ensures in
    rw (c.broken-in_default-read_command.ensures.rule, c.broken-in_default-read_command.ensures.place)
    (breaks_here c.args.is_dynamic b c.args.header.ncmds c.loop-number._number at c.loop-number.tally
    c.loop-number.invariant (omega arith) fails)

pub returns-clause-found : goal.returns-clause-found
returns-clause-found c =
    let b = c.args.input.now in
    let inside = some_if (commands_inside b) c.in-Some.end (commands_end b) c.in-Some.ensures in
    passes_all c.args.is_dynamic b c.args.header.ncmds c.loop-number._number c.loop-number.at c.loop-number.tally
    c.loop-number.invariant (omega arith) inside.0
