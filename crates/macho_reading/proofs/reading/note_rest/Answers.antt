-- Rows are noted, the entry is looked for, names of lists are noted: each step stands on the one before.
use Rattle.std.proofs.lemmas.Result.{err_from_is_err_and}
use Rattle.macho_promise.specs.Noted.{imports_in}
use Rattle.macho_reading.specs.steps.Steps.{uses_before_names}
use Rattle.macho_reading.proofs.reading.note_rest.Goals as goal
use Rattle.macho_bytes.proofs.Comparing.{on_ok_always}

pub returns-in_err-use_rows-clause-why : goal.returns-in_err-use_rows-clause-why
returns-in_err-use_rows-clause-why c l counts half =
    let e = err_from_is_err_and c.from_residual.result c.from_residual.ensures.1 in
    rw (e.1, e.2) (c.in_err-use_rows.ensures.why l counts half.noted half.are half.keep)

pub returns-in_err-find_entry-clause-why : goal.returns-in_err-find_entry-clause-why
returns-in_err-find_entry-clause-why c l counts half =
    let noted = c.in_ok-use_rows.ensures.noted l half.noted half.are half.keep in
    let e = err_from_is_err_and c.from_residual-in_err-find_entry.result c.from_residual-in_err-find_entry.ensures.1 in
    rw (e.1, e.2) (c.in_err-find_entry.ensures.why l counts (imports_in l (uses_before_names l)) noted.imports half.entry_is)

pub returns-clause-noted : goal.returns-clause-noted
returns-clause-noted c l half = c.note_list.ensures.noted l (c.in_ok-use_rows.ensures.noted l half.noted half.are half.keep) half.lists

pub returns-clause-found : goal.returns-clause-found
returns-clause-found c l half =
    let noted = c.in_ok-use_rows.ensures.noted l half.noted half.are half.keep in
    on_ok_always c.note_list.result (c.in_ok-find_entry.ensures.found l (imports_in l (uses_before_names l)) noted.imports half.entry_is)

pub returns-clause-why : goal.returns-clause-why
returns-clause-why c l counts half =
    let noted = c.in_ok-use_rows.ensures.noted l half.noted half.are half.keep in
    c.note_list.ensures.why l counts (imports_in l (uses_before_names l)) noted.imports half.lists
