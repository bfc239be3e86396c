-- The lemma says just this.
use Rattle.macho_image_laws.proofs.TemplateTold.{headers_tell_template}
use Rattle.macho_image_laws.proofs.laws.headers_tell_the_template.Goals as goal

pub returns : goal.returns
returns c = headers_tell_template
