-- The lemma says just this, by the laws that are called.
use Rattle.macho_image_laws.proofs.Accepted.{composed_is_accepted}
use Rattle.macho_image_laws.proofs.laws.composed_images_are_accepted.Goals as goal

pub returns : goal.returns
returns c = composed_is_accepted c.head_keeps_rules.ensures c.chains_are_told.ensures
