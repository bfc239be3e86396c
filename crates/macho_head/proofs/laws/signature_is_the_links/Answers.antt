use Rattle.macho_head.proofs.Signing.{signature_said}
use Rattle.macho_head.proofs.laws.signature_is_the_links.Goals as goal

pub returns : goal.returns
returns c = signature_said
