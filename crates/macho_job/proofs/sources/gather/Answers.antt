-- The files that were added and then the lists are what the settings link; what refuses a list later is a cause of the whole.
use Rattle.macho_args.specs.Settings.{settings_of}
use Rattle.macho_job.specs.Names.{names_of}
use Rattle.macho_job.proofs.Gathers.{lists-joined, lists-fail}
use Rattle.macho_job.proofs.sources.gather.Goals as goal

pub returns-clause-gathered : goal.returns-clause-gathered
returns-clause-gathered g c =
    lists-joined (g.F.Paths.state c.args.files.now).files (g.F.Paths.state c.add_files.new.files).files (settings_of c.args.args.now)
    (names_of c.add_files.new.names) c.add_files.new.linker c.add_lists.new.linker c.add_lists.result
    c.add_files.ensures.kept.same_files c.in_ok-add_files.ensures.added (c.add_lists.ensures.added (names_of c.add_files.new.names))

pub returns-clause-why : goal.returns-clause-why
returns-clause-why g c =
    lists-fail (g.F.Paths.state c.args.files.now).files (g.F.Paths.state c.add_files.new.files).files (settings_of c.args.args.now)
    (names_of c.add_files.new.names) c.add_files.new.linker _ _ _ c.add_lists.result c.add_files.ensures.kept.same_files
    c.add_files.ensures.kept.counted c.add_lists.ensures.kept.counted c.in_ok-add_files.ensures.added c.add_lists.ensures.why
