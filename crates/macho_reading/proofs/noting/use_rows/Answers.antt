-- Initializers are noted behind carried relocations, personality functions behind initializers.
use Rattle.std.proofs.Common.{◌++◌, ◌∙◌}
use Rattle.std.proofs.lemmas.Result.{err_from_is_err_and, on_ok_weaker}
use Rattle.macho_promise.specs.Noted.{uses_of_carried, uses_of_initializers}
use Rattle.macho_reading.proofs.Used.{rows_of, rows_begin, rows_noted, entries_of, entries_begin, entries_noted}
use Rattle.macho_reading.proofs.noting.use_rows.Goals as goal

pub returns-in_err-use_initializers-clause-why : goal.returns-in_err-use_initializers-clause-why
returns-in_err-use_initializers-clause-why c l counts noted are keep =
    let rows = c.deref.ensures.value ∙ are.initializers in
    let e = err_from_is_err_and c.from_residual.result c.from_residual.ensures.1 in
    rw (e.1, e.2)
    (c.in_err-use_initializers.ensures.why l counts (uses_of_carried l) noted (rows_of l c.deref.result.now rows)
    (rows_begin l c.deref.result.now rows))

pub returns-clause-noted : goal.returns-clause-noted
returns-clause-noted c l noted are keep =
    let rows = c.deref.ensures.value ∙ are.initializers in
    let entries = c.deref-2.ensures.value ∙ are.entries in
    let before = rows_noted l c.deref.result.now c.use_initializers.new.needs rows
    (c.in_ok-use_initializers.ensures.noted l (uses_of_carried l) noted (rows_of l c.deref.result.now rows)
    (rows_begin l c.deref.result.now rows)) in
    on_ok_weaker c.use_entries.result (entries_noted l c.deref-2.result.now c.use_entries.new.needs keep entries)
    (c.use_entries.ensures.noted l (uses_of_carried l ++ uses_of_initializers l) before (entries_of l c.deref-2.result.now entries)
    (entries_begin l c.deref-2.result.now keep entries))

pub returns-clause-why : goal.returns-clause-why
returns-clause-why c l counts noted are keep =
    let rows = c.deref.ensures.value ∙ are.initializers in
    let entries = c.deref-2.ensures.value ∙ are.entries in
    let before = rows_noted l c.deref.result.now c.use_initializers.new.needs rows
    (c.in_ok-use_initializers.ensures.noted l (uses_of_carried l) noted (rows_of l c.deref.result.now rows)
    (rows_begin l c.deref.result.now rows)) in
    c.use_entries.ensures.why l counts (uses_of_carried l ++ uses_of_initializers l) before (entries_of l c.deref-2.result.now entries)
    (entries_begin l c.deref-2.result.now keep entries)
