-- A linker that isn't made is refused for a cause of the job.
use Rattle.std.proofs.lemmas.Result.{err_from_is_err_and}
use Rattle.macho_report.specs.Names.{names_of}
use Rattle.wild_macho.proofs.preparing.gather_linker.Goals as goal

pub returns-in_err-linker-clause-why : goal.returns-in_err-linker-clause-why
returns-in_err-linker-clause-why g c =
    let p = err_from_is_err_and c.from_residual.result c.from_residual.ensures.1 in
    let told = g.F.Paths.state c.args.files.now in
    rw (p.1, p.2) (c.in_err-linker.ensures.why told.files (names_of c.args.names.now) told.failed_reads told.failed_reads)
