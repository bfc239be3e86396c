-- The lemma says just this.
use Rattle.macho_image_laws.proofs.Whole.{links_lead}
use Rattle.macho_image_laws.proofs.laws.links_lead.Goals as goal

pub returns : goal.returns
returns c = links_lead
