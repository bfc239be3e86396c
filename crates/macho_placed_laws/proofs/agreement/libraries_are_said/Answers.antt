use Rattle.macho_placed_laws.proofs.Ties.{libraries_said}
use Rattle.macho_placed_laws.proofs.agreement.libraries_are_said.Goals as goal

pub returns : goal.returns
returns c = libraries_said
