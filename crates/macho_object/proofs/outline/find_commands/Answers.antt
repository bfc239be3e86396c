use Rattle.std.proofs.lemmas.Result.{err_from_is_err_and}
use Rattle.macho_object.proofs.Places.{has_commands, breaks_main, breaks_symtab}
use Rattle.macho_object.proofs.outline.find_commands.Goals as goal

pub returns-in_err-main-clause-why : goal.returns-in_err-main-clause-why
returns-in_err-main-clause-why c =
    let p = err_from_is_err_and c.from_residual-in_err-main.result c.from_residual-in_err-main.ensures.1 in
    rw (p.1, p.2, c.in_err-main.ensures.rule)
    (breaks_main c.args.is_dynamic c.args.input.now c.in_ok-tally.tally _ c.in_ok-tally.ensures.found c.in_err-main.ensures.why)

pub returns-in_err-symtab-clause-why : goal.returns-in_err-symtab-clause-why
returns-in_err-symtab-clause-why c =
    let p = err_from_is_err_and c.from_residual-in_err-symtab.result c.from_residual-in_err-symtab.ensures.1 in
    rw (p.1, p.2, c.in_err-symtab.ensures.rule)
    (breaks_symtab c.args.is_dynamic c.args.input.now c.in_ok-tally.tally _ c.in_ok-tally.ensures.found c.in_err-symtab.ensures.why)

pub returns-clause-found : goal.returns-clause-found
returns-clause-found c =
    has_commands c.args.is_dynamic c.args.input.now c.in_ok-tally.tally _ c.in_ok-header.ensures.found.1 c.in_ok-tally.ensures.found
    c.in_ok-main.ensures.found c.in_ok-symtab.ensures.found
