-- The law is that of `Differing`.
use Rattle.macho_image_rules.proofs.Differing.{of_the_link}
use Rattle.macho_image_rules.proofs.laws.differences_are_of_the_link.Goals as goal

pub returns : goal.returns
returns c = of_the_link
