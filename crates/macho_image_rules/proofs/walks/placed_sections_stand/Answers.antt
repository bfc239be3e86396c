-- A placed section is one of a viewed object, in a mapped segment.
use Rattle.macho_image_rules.proofs.Standing.{placed_stand}
use Rattle.macho_image_rules.proofs.walks.placed_sections_stand.Goals as goal

pub returns : goal.returns
returns c = placed_stand
