-- A test that fails is one that is asked.
use Rattle.macho_image_walks.proofs.BrokenRules.{breaks_not_accepted}
use Rattle.macho_model_checks.proofs.laws.what_breaks_a_rule_is_refused.Goals as goal

pub returns : goal.returns
returns c = breaks_not_accepted
