use Rattle.macho_sizing.proofs.OfLink.{specs_are}
use Rattle.macho_sizing.proofs.laws.sections_are_planned.Goals as goal

pub returns : goal.returns
returns c = specs_are
