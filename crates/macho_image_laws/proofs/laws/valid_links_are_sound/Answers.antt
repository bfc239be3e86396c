-- The lemma says just this.
use Rattle.macho_image_laws.proofs.Sounding.{valid_is_sound}
use Rattle.macho_image_laws.proofs.laws.valid_links_are_sound.Goals as goal

pub returns : goal.returns
returns c = valid_is_sound
