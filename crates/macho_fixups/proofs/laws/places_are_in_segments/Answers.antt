use Rattle.macho_fixups.proofs.RunChain.{place_in}
use Rattle.macho_fixups.proofs.laws.places_are_in_segments.Goals as goal

pub returns : goal.returns
returns c = place_in
