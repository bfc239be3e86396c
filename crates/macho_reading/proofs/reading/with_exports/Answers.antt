use Rattle.std.proofs.Common.{refl}
use Rattle.std.proofs.lemmas.Result.{err_from_is_err_and}
use Rattle.macho_model.specs.ExportLists.{plain_entries}
use Rattle.macho_model.specs.Needs.{imports_of}
use Rattle.macho_reading.proofs.Named.{missing_stands}
use Rattle.macho_reading.proofs.Finished.{all_imports, is_read, are_known}
use Rattle.macho_reading.proofs.reading.with_exports.Goals as goal

pub returns-clause-done : goal.returns-clause-done
returns-clause-done c l noted sound lists =
    let symbols = all_imports l c.args.needs noted.noted in
    is_read l _ c.args.rows refl noted sound (c.in_ok-exports.ensures.found l (imports_of l) symbols lists)
    (c.in_ok-exports.ensures.exported l (imports_of l) symbols lists)

pub returns-clause-known : goal.returns-clause-known
returns-clause-known c views of usable = are_known views _ c.args.rows refl of usable

pub returns-in_err-exports-clause-why : goal.returns-in_err-exports-clause-why
returns-in_err-exports-clause-why c l counts noted lists =
    let e = err_from_is_err_and c.from_residual.result c.from_residual.ensures.1 in
    rw (e.1, e.2)
    (missing_stands l counts (plain_entries l.export_lists) c.in_err-exports.field-0.0 refl
    (c.in_err-exports.ensures.why l (imports_of l) (all_imports l c.args.needs noted.noted) lists))
