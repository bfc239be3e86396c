use Rattle.macho_refusal_laws.proofs.Told.{standing_is_told}
use Rattle.macho_refusal_laws.proofs.laws.standing_refusals_are_told.Goals as goal

pub returns : goal.returns
returns c = standing_is_told
