-- A fault is that of the command line.
use Rattle.std.proofs.lemmas.Result.{err_from_is_err_and}
use Rattle.macho_args.proofs.fields.MachOArgs.parse.Goals as goal

pub returns-in_err-read_command_line-clause-why : goal.returns-in_err-read_command_line-clause-why
returns-in_err-read_command_line-clause-why g c =
    let p = err_from_is_err_and c.from_residual-in_err-read_command_line.result c.from_residual-in_err-read_command_line.ensures.1 in
    rw (p.1, p.2) c.in_err-read_command_line.ensures.why
