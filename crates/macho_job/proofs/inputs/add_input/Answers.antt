-- The file that was found is taken; a refusal before is the input's, whatever was read.
use Rattle.std.proofs.lemmas.Result.{err_from_is_err_and}
use Rattle.macho_args.specs.Settings.{settings_of, input_of}
use Rattle.macho_job.specs.Names.{names_of}
use Rattle.macho_job.proofs.Gathers.{takes-file}
use Rattle.macho_job.proofs.inputs.add_input.Goals as goal
use Rattle.macho_bytes.proofs.Comparing.{on_ok_one}

pub returns-in_err-path-clause-why : goal.returns-in_err-path-clause-why
returns-in_err-path-clause-why g c =
    let p = err_from_is_err_and c.from_residual.result c.from_residual.ensures.1 in
    rw (p.1, p.2) (c.in_err-path.ensures.why (names_of c.args.names.now))

pub returns-clause-added : goal.returns-clause-added
returns-clause-added g c =
    on_ok_one c.take_input.result
    (takes-file (g.F.Paths.state c.args.files.now).files (settings_of c.args.args.now) (input_of c.args.spec.now)
    (names_of c.args.names.now)
    (names_of c.push.new.self) c.args.linker.now c.take_input.new.linker _ _ c.in_ok-path.ensures.found c.in_ok-push.ensures.added)
    c.take_input.ensures.added
