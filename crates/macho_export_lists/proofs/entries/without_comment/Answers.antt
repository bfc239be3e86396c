use Rattle.std.proofs.Common.{sym}
use Rattle.macho_export_lists.specs.steps.Lines.{HASH}
use Rattle.macho_export_lists.proofs.Trims.{before_is, before_all}
use Rattle.macho_export_lists.proofs.entries.without_comment.Goals as goal

pub returns-in-Some : goal.returns-in-Some
returns-in-Some c = sym (before_is HASH c.args.line.now c.in-Some.at c.in-Some.ensures.0 c.in-Some.ensures.1)

pub returns-in-None : goal.returns-in-None
returns-in-None c = sym (before_all HASH c.args.line.now c.in-None.ensures)
