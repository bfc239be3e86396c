use Rattle.std.proofs.Common.{sym, ◌∙◌}
use Rattle.macho_export_lists.proofs.Stands.{back_is, back_all}
use Rattle.macho_export_lists.proofs.ends.back_of.Goals as goal

pub returns-in-Some : goal.returns-in-Some
returns-in-Some c = c.behind.ensures ∙ sym (back_is c.args.pattern.now c.in-Some.star c.in-Some.ensures.0 c.in-Some.ensures.1)

pub returns-in-None : goal.returns-in-None
returns-in-None c = sym (back_all c.args.pattern.now c.in-None.ensures)
