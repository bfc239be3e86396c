-- The lemma says just this.
use Rattle.macho_model.proofs.Apart.{share_no_address}
use Rattle.macho_model.proofs.laws.segments_are_apart.Goals as goal

pub returns : goal.returns
returns c = share_no_address
