-- The lemma says just this.
use Rattle.macho_writing_laws.proofs.PlacementRefusals.{placement_is_not_refused}
use Rattle.macho_writing_laws.proofs.valid.valid_placements_are_not_refused.Goals as goal

pub returns : goal.returns
returns c = placement_is_not_refused
