-- Names end in front of the place behind the last NUL.
use Rattle.macho_loader.proofs.NameEnds.{ends_at, never_ends}
use Rattle.macho_loader.proofs.import_rules.end_of_names.Goals as goal

pub returns-in-Some : goal.returns-in-Some
returns-in-Some c = ends_at c.args.names.now c.in-Some.last c.in-Some.ensures.0 c.in-Some.ensures.1

pub returns-in-None : goal.returns-in-None
returns-in-None c = never_ends c.args.names.now c.in-None.ensures
