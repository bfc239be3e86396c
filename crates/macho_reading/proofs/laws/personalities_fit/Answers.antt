use Rattle.macho_reading.proofs.Refusals.{personalities_are_fit}
use Rattle.macho_reading.proofs.laws.personalities_fit.Goals as goal

pub returns : goal.returns
returns c = personalities_are_fit
