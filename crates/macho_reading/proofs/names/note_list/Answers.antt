use Rattle.std.proofs.Common.{ap, subst, refl, Option}
use Rattle.std.specs.Option.{option_copied}
use Rattle.std.proofs.lemmas.Result.{err_from_is_err_and}
use Rattle.macho_export_lists.specs.Entries.{ListEntries}
use Rattle.macho_symbols.specs.Exported.{AreLists}
use Rattle.macho_symbols.specs.Told.{noting_names}
use Rattle.macho_promise.specs.Noted.{imports_in}
use Rattle.macho_reading.specs.steps.Steps.{uses_before_names}
use Rattle.macho_reading.proofs.Named.{list_noted, none_noted, missing_stands, files_stay}
use Rattle.macho_reading.proofs.names.note_list.Goals as goal

pub returns-in_default-clause-noted : goal.returns-in_default-clause-noted
returns-in_default-clause-noted c l noted lists =
    none_noted l c.args.needs.now
    (subst (λ (o : Option ListEntries). AreLists l o) (ap option_copied c.in_default.is) lists) noted

pub returns-in_err-note_exports-clause-why : goal.returns-in_err-note_exports-clause-why
returns-in_err-note_exports-clause-why c l counts noted resolved lists =
    let of = subst (λ (o : Option ListEntries). AreLists l o) (ap option_copied c.in-Some.is) lists in
    let missing = c.in_err-note_exports.ensures.why l noted resolved in
    let e = err_from_is_err_and c.from_residual.result c.from_residual.ensures.1 in
    rw (e.1, e.2) (missing_stands l counts c.in-Some.list.now.plain c.in_err-note_exports.field-0.0 of.1.plain missing)

pub returns-clause-noted : goal.returns-clause-noted
returns-clause-noted c l noted lists =
    let of = subst (λ (o : Option ListEntries). AreLists l o) (ap option_copied c.in-Some.is) lists in
    list_noted l c.in-Some.list.now.plain c.args.needs.now (record { resolved = c.note_exports.new.self; tables = c.args.needs.now.tables })
    of.1.plain refl noted (c.in_ok-note_exports.ensures.noted l (imports_in l (uses_before_names l)) noted.imports)

pub returns-clause-kept : goal.returns-clause-kept
returns-clause-kept c inputs keeps =
    files_stay c.note_exports.result inputs c.args.needs.now.resolved c.note_exports.new.self
    (λ l noted. noting_names l noted c.in-Some.list.now.plain) keeps c.note_exports.ensures.noted c.note_exports.ensures.kept
