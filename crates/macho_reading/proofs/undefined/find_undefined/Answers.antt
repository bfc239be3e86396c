-- Initializers are looked through first; then rows of symbols are still those of the inputs.
use Rattle.std.proofs.lemmas.Result.{err_from_is_err_and}
use Rattle.macho_reading.proofs.undefined.find_undefined.Goals as goal

pub returns-in_err-use_kind-clause-why : goal.returns-in_err-use_kind-clause-why
returns-in_err-use_kind-clause-why c l counts are keeps =
    let e = err_from_is_err_and c.from_residual.result c.from_residual.ensures.1 in
    rw (e.1, e.2) (c.in_err-use_kind.ensures.why l counts are keeps)

pub returns-clause-why : goal.returns-clause-why
returns-clause-why c l counts are keeps = c.use_kind-2.ensures.why l counts are (c.in_ok-use_kind.ensures.kept l.inputs keeps)
