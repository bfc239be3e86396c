-- The lemma says just this.
use Rattle.macho_model.proofs.CommonNumbers.{commons_are_counted}
use Rattle.macho_model.proofs.laws.chosen_commons_are_counted.Goals as goal

pub returns : goal.returns
returns c = commons_are_counted
