use Rattle.std.proofs.Common.{ap, sym, ◌∙◌, refl}
use Rattle.std.proofs.lemmas.Bool.{false≢true}
use Rattle.std.proofs.lemmas.Result.{err_from_is_err_and}
use Rattle.macho_symbol_names.proofs.FoundRows.{same_grown, added_grown, added_entry, entry_stays}
use Rattle.macho_symbol_names.proofs.Taking.{takes_nameless, takes_new}
use Rattle.macho_symbol_names.proofs.table.Table.take_row.Goals as goal

pub returns-then-not-note_in-clause-done : goal.returns-then-not-note_in-clause-done
returns-then-not-note_in-clause-done c = takes_nameless _ _ _ _ _ (sym (ap (λ r. r.global) c.note_in.ensures.row)
    ∙ c.if-not-note_in.true)

pub returns-then-not-note_in-clause-grown : goal.returns-then-not-note_in-clause-grown
returns-then-not-note_in-clause-grown c = same_grown _ _ _ refl

pub returns-then-not-note_in-clause-found : goal.returns-then-not-note_in-clause-found
returns-then-not-note_in-clause-found c global =
    absurd (false≢true (sym (sym (ap (λ r. r.global) c.note_in.ensures.row) ∙ c.if-not-note_in.true) ∙ global))

pub returns-in_default-clause-done : goal.returns-in_default-clause-done
returns-in_default-clause-done c =
    let nowhere = c.in_default.ensures.none in
    takes_new _ _ _ _ _ _ _ (sym (ap (λ r. r.global) c.note_in.ensures.row)
    ∙ c.if-not-note_in.false) nowhere c.in_ok-add.ensures.added c.in_ok-add.ensures.table

pub returns-in_default-clause-grown : goal.returns-in_default-clause-grown
returns-in_default-clause-grown c = added_grown _ _ _ _ _ c.in_ok-add.ensures.added

pub returns-in_default-clause-found : goal.returns-in_default-clause-found
returns-in_default-clause-found c global = added_entry _ _ _ _ _ _ c.in_ok-add.ensures.added c.in_ok-add.ensures.number

pub returns-in_err-improve-clause-why : goal.returns-in_err-improve-clause-why
returns-in_err-improve-clause-why c =
    let p = err_from_is_err_and c.from_residual-in_err-improve.result c.from_residual-in_err-improve.ensures.1 in
    rw (p.1, p.2) c.in_err-improve.ensures.why

pub returns-clause-found : goal.returns-clause-found
returns-clause-found c global = entry_stays _ _ _ _ _ c.in_ok-improve.ensures.grown c.in-Some.ensures.found
