-- Rows are read, and what they use is noted; or they are broken, and a refusal is told.
use Rattle.macho_promise.specs.Noted.{imports_in, uses_of_carried}
use Rattle.std.specs.Option.{option_copied}
use Rattle.std.proofs.lemmas.Result.{err_from_is_err_and}
use Rattle.macho_reading.proofs.Finished.{half_read}
use Rattle.macho_reading.proofs.reading.read_behind.Goals as goal

pub returns-in-Err-clause-why : goal.returns-in-Err-clause-why
returns-in-Err-clause-why c l counts at =
    let noted = imports_in l (uses_of_carried l) in
    c.refusal.ensures.told l counts noted at.views_are at.noted.imports at.entry_is at.lists
    (c.in-Err.ensures.why l noted at.views_are at.noted.imports)

pub returns-clause-done : goal.returns-clause-done
returns-clause-done c l at =
    let keep = c.in-Ok.ensures.keeps l (imports_in l (uses_of_carried l)) at.views_are at.noted.imports in
    let are = c.in-Ok.ensures.rows l at.views_are in
    let half =
    half_read l c.args.views.now (option_copied c.args.entry) (option_copied c.args.list) c.args.needs.now c.in-Ok.rows at are keep in
    record { noted = c.in_ok-note_rest.ensures.noted l half; are = are; keep = keep; entry = c.in_ok-note_rest.ensures.found l half }

pub returns-in_err-note_rest-clause-why : goal.returns-in_err-note_rest-clause-why
returns-in_err-note_rest-clause-why c l counts at =
    let keep = c.in-Ok.ensures.keeps l (imports_in l (uses_of_carried l)) at.views_are at.noted.imports in
    let e = err_from_is_err_and c.from_residual.result c.from_residual.ensures.1 in
    rw (e.1, e.2)
    (c.in_err-note_rest.ensures.why l counts
    (half_read l c.args.views.now (option_copied c.args.entry) (option_copied c.args.list) c.args.needs.now c.in-Ok.rows at
    (c.in-Ok.ensures.rows l at.views_are) keep))
