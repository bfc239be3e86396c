-- What is gathered is what the settings link, and what the link refuses is refused of them.
use Rattle.std.proofs.lemmas.Result.{err_from_is_err_and}
use Rattle.macho_args.specs.Settings.{settings_of}
use Rattle.macho_report.specs.Names.{names_of}
use Rattle.wild_macho.proofs.passes.make_image.Goals as goal

pub returns-in_err-image-clause-why : goal.returns-in_err-image-clause-why
returns-in_err-image-clause-why g c =
    let p = err_from_is_err_and c.from_residual-in_err-image.result c.from_residual-in_err-image.ensures.1 in
    rw (p.1, p.2) (c.in_err-image.ensures.why.fails (g.F.Paths.state c.args.files.now).files (settings_of c.args.args.now)
    (names_of c.gather_linker.new.names) _ _
    c.in_ok-linker.ensures.gathered)

pub returns-clause-made : goal.returns-clause-made
returns-clause-made g c = record { links = c.in_ok-linker.ensures.gathered; is_image = c.in_ok-image.ensures.done }
