-- What is noted and read is the link's, and is handed on with the exports.
use Rattle.std.proofs.Common.{sym, subst}
use Rattle.std.specs.Option.{option_copied}
use Rattle.std.proofs.lemmas.Result.{err_from_is_err_and}
use Rattle.macho_symbols.specs.Kept.{ResolvedRows}
use Rattle.macho_reading.specs.Read.{IsLinkOf}
use Rattle.macho_reading.proofs.reading.read_link.Goals as goal

pub returns-in_err-rows-clause-why : goal.returns-in_err-rows-clause-why
returns-in_err-rows-clause-why c l counts of =
    let e = err_from_is_err_and c.from_residual.result c.from_residual.ensures.1 in
    let given = subst (λ (r : ResolvedRows). IsLinkOf l c.args.views.now r (option_copied c.args.entry) (option_copied c.args.list))
    (sym c.begun-needs.ensures.same) of in
    rw (e.1, e.2) (c.in_err-rows.ensures.why l counts given (c.begun-needs.ensures.noted l of.resolved))

pub returns-clause-why : goal.returns-clause-why
returns-clause-why c l counts of =
    let given = subst (λ (r : ResolvedRows). IsLinkOf l c.args.views.now r (option_copied c.args.entry) (option_copied c.args.list))
    (sym c.begun-needs.ensures.same) of in
    c.with_exports.ensures.why l counts (c.in_ok-rows.ensures.done l given (c.begun-needs.ensures.noted l of.resolved)).0 of.lists
