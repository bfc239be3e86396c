use Rattle.std.proofs.Common.{◌≢◌, ◌∙◌, subst, List}
use Rattle.std.specs.List.{AllPairs}
use Rattle.std.proofs.lemmas.Result.{err_from_is_err_and}
use Rattle.macho_consumed.specs.declared.rows.UnwindEntry.{UnwindEntry}
use Rattle.macho_consumed.specs.steps.Checked.{start_key}
use Rattle.macho_consumed.proofs.EntryRules.{again_stands, rules_kept}
use Rattle.macho_consumed.proofs.ReadEntries.{rows_read, bad_stands}
use Rattle.macho_consumed.proofs.reading.read_entries.Goals as goal

pub returns-in_err-rows-clause-why : goal.returns-in_err-rows-clause-why
returns-in_err-rows-clause-why c = λ l noted views resolved.
    let e = err_from_is_err_and c.from_residual.result c.from_residual.ensures.1 in
    rw (e.1, e.2)
    (bad_stands l noted _ _ _ views resolved c.in_err-rows.ensures.why)

pub returns-clause-rows : goal.returns-clause-rows
returns-clause-rows c = λ l views. c.in_ok-rows.ensures.rows ∙ rows_read l _ views

pub returns-in_err-check_starts-clause-why : goal.returns-in_err-check_starts-clause-why
returns-in_err-check_starts-clause-why c = λ l noted views resolved.
    let e = err_from_is_err_and c.from_residual-in_err-check_starts.result c.from_residual-in_err-check_starts.ensures.1 in
    rw (e.1, e.2)
    (again_stands l c.args.files.now c.args.symbols.now _ _ views c.in_ok-rows.ensures.found (c.deref.ensures.value
    ∙ c.in_ok-rows.ensures.rows) c.in_err-check_starts.ensures.why)

pub returns-clause-keeps : goal.returns-clause-keeps
returns-clause-keeps c = λ l noted views resolved.
    rules_kept l noted c.args.files.now c.args.symbols.now c.in_ok-rows.rows.items views resolved c.in_ok-rows.ensures.found
    c.in_ok-rows.ensures.rows
    (subst (λ (xs : List UnwindEntry). AllPairs
    (λ d e. start_key d ≢ start_key e) xs) c.deref.ensures.value c.in_ok-check_starts.ensures.found)
