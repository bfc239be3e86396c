use Rattle.std.proofs.Common.{sym}
use Rattle.macho_model.specs.ExportLists.{STAR}
use Rattle.macho_export_lists.proofs.Trims.{before_is, before_all}
use Rattle.macho_export_lists.proofs.ends.front_of.Goals as goal

pub returns-in-Some : goal.returns-in-Some
returns-in-Some c = sym (before_is STAR c.args.pattern.now c.in-Some.star c.in-Some.ensures.0 c.in-Some.ensures.1)

pub returns-in-None : goal.returns-in-None
returns-in-None c = sym (before_all STAR c.args.pattern.now c.in-None.ensures)
