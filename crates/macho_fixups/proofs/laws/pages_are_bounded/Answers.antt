use Rattle.macho_fixups.proofs.Bounds.{pages_bounded}
use Rattle.macho_fixups.proofs.laws.pages_are_bounded.Goals as goal

pub returns : goal.returns
returns c = pages_bounded
