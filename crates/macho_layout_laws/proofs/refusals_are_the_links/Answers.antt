-- A plan is refused only where its link passes a limit.
use Rattle.macho_layout_laws.proofs.Placing.{refusals_are_links, answered_pass_none}
use Rattle.macho_layout_laws.proofs.refusals_are_the_links.Goals as goal

pub returns : goal.returns
returns c = record { why = refusals_are_links; none = answered_pass_none }
