-- Rows of symbols stay those of the inputs, file by file.
use Rattle.std.proofs.lemmas.Result.{err_from_is_err_and}
use Rattle.macho_relocation_scan.proofs.Viewing.{views_kept}
use Rattle.macho_reading.proofs.undefined.use_kind.Goals as goal

pub loop-file-init : goal.loop-file-init
loop-file-init c inputs keeps = keeps

pub use_file-requires-clause-same : goal.use_file-requires-clause-same
use_file-requires-clause-same c =
    views_kept c.args.views.now c.args.needs.now.resolved.files c.loop-file.needs.resolved.files c.requires.same c.loop-file.invariant

pub loop-file-preserved : goal.loop-file-preserved
loop-file-preserved c inputs keeps = c.in_ok-use_file.ensures.kept inputs (c.loop-file.invariant inputs keeps)

pub returns-in_err-use_file-clause-why : goal.returns-in_err-use_file-clause-why
returns-in_err-use_file-clause-why c l counts are keeps =
    let e = err_from_is_err_and c.from_residual.result c.from_residual.ensures.1 in
    rw (e.1, e.2)
    (c.in_err-use_file.ensures.why l counts are (c.loop-file.invariant l.inputs keeps))
