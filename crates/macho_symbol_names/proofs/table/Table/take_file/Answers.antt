use Rattle.std.proofs.Common.{◌≡◌, length, ap, arith, refl, subst}
use Rattle.std.proofs.lemmas.Result.{err_from_is_err_and}
use Rattle.macho_symbol_names.specs.Events.{row_count}
use Rattle.macho_symbol_names.specs.Found.{AreFoundIn}
use Rattle.macho_symbol_names.proofs.FoundRows.{same_grown, both_grown, no_row_found, row_found}
use Rattle.macho_symbol_names.proofs.Taking.{takes_none, takes_both, refuses_file, file_rows_more, file_rows_none}
use Rattle.macho_symbol_names.proofs.table.Table.take_file.Goals as goal

pub loop-row-init : goal.loop-row-init
loop-row-init c = record {
  table = c.requires.table;
  taken = rw (file_rows_none _ _) (takes_none _ _ _);
  grown = same_grown _ _ _ refl;
  found = no_row_found _ _ _ _ (ap length c.in_ok-found.ensures.items);
}

pub loop-row-preserved : goal.loop-row-preserved
loop-row-preserved c = record {
  table = c.in_ok-take_row.ensures.table;
  taken = rw (file_rows_more _ _ _) (takes_both _ _ _ _ _ _ _ _ _ c.loop-row.invariant.taken c.in_ok-take_row.ensures.done);
  grown = both_grown _ _ _ _ c.loop-row.invariant.grown c.in_ok-take_row.ensures.grown;
  found = rw c.in_ok-push.ensures.items
      (row_found _ _ _ _ _ _ _ c.loop-row.invariant.found c.in_ok-take_row.ensures.grown c.in_ok-take_row.ensures.found);
}

pub returns-in_err-take_row-clause-why : goal.returns-in_err-take_row-clause-why
returns-in_err-take_row-clause-why c =
    let p = err_from_is_err_and c.from_residual-in_err-take_row.result c.from_residual-in_err-take_row.ensures.1 in
    rw (p.1, p.2)
    (refuses_file _ _ _ _ _ _ _ _ _ (omega (arith, c.loop-row-test.true, c.rows_in-count.ensures)) c.loop-row.invariant.taken
    c.in_err-take_row.ensures.why)

pub returns-clause-done : goal.returns-clause-done
returns-clause-done c =
    let all : c.loop-row.row ≡ row_count c.args.files.now c.args.file = omega (arith, c.loop-row-test.false, c.rows_in-count.ensures) in
    rw all at c.loop-row.invariant.taken

pub returns-clause-found : goal.returns-clause-found
returns-clause-found c =
    let all : c.loop-row.row ≡ row_count c.args.files.now c.args.file = omega (arith, c.loop-row-test.false, c.rows_in-count.ensures) in
    subst (λ n. AreFoundIn c.args.files.now c.loop-row.self.entries.items c.args.file n c.loop-row.found.items) all
    c.loop-row.invariant.found
