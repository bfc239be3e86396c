-- The objects that are made.
use Rattle.macho_args.specs.Settings.{settings_of}
use Rattle.macho_job.proofs.sources.add_files.Goals as goal

pub returns-in-Some-clause-added : goal.returns-in-Some-clause-added
returns-in-Some-clause-added g c =
    c.add_made.ensures.added (g.F.Paths.state c.args.files.now).files (settings_of c.args.args.now) c.in-Some.is
    c.requires.empty

pub returns-in-Some-clause-why : goal.returns-in-Some-clause-why
returns-in-Some-clause-why g c =
    c.add_made.ensures.why (g.F.Paths.state c.args.files.now).files (settings_of c.args.args.now) _ _ c.in-Some.is
