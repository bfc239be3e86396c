use Rattle.std.proofs.Common.{◌≡◌, length, ap, arith, subst}
use Rattle.std.proofs.lemmas.Result.{err_from_is_err_and}
use Rattle.macho_symbol_names.specs.Events.{events_of}
use Rattle.macho_symbol_names.specs.Found.{AreFound}
use Rattle.macho_symbol_names.specs.Tables.{heads_of, IsKnown}
use Rattle.macho_symbol_names.proofs.FoundRows.{no_file_found, file_found}
use Rattle.macho_symbol_names.proofs.Taking.{clash_in_files, files_more, files_none}
use Rattle.macho_symbol_names.proofs.table.Table.take_files.Goals as goal

pub loop-file-init : goal.loop-file-init
loop-file-init c = record {
  known = rw (files_none _) c.requires.known;
  found = no_file_found _ _ _ (ap length c.in_ok-found.ensures.items);
}

pub loop-file-preserved : goal.loop-file-preserved
loop-file-preserved c = record {
  known = rw (files_more _ _) (c.in_ok-take_file.ensures.done.says _ c.loop-file.invariant.known);
  found = rw c.in_ok-push.ensures.items
      (file_found _ _ _ _ _ _ c.loop-file.invariant.found c.in_ok-take_file.ensures.grown c.in_ok-take_file.ensures.found);
}

pub returns-in_err-take_file-clause-why : goal.returns-in_err-take_file-clause-why
returns-in_err-take_file-clause-why c =
    let p = err_from_is_err_and c.from_residual-in_err-take_file.result c.from_residual-in_err-take_file.ensures.1 in
    rw (p.1, p.2) (clash_in_files _ _ _ _ _ _ c.loop-file-test.true c.loop-file.invariant.known c.in_err-take_file.ensures.why)

pub returns-clause-done : goal.returns-clause-done
returns-clause-done c =
    let all : c.loop-file.file ≡ length c.args.files.now = omega arith in
    subst (λ n. IsKnown c.args.files.now (heads_of c.loop-file.self) c.loop-file.self.entries.items (events_of c.args.files.now n)) all
    c.loop-file.invariant.known

pub returns-clause-found : goal.returns-clause-found
returns-clause-found c =
    let all : c.loop-file.file ≡ length c.args.files.now = omega arith in
    subst (λ n. AreFound c.args.files.now c.loop-file.self.entries.items n c.loop-file.found.items) all c.loop-file.invariant.found
