-- The segment has the section's segment name, which isn't `__PAGEZERO`.
use Rattle.macho_image_rules.proofs.Elsewhere.{carried_lie_elsewhere}
use Rattle.macho_image_rules.proofs.bytes.carried_sections_lie_elsewhere.Goals as goal

pub returns : goal.returns
returns c = carried_lie_elsewhere
