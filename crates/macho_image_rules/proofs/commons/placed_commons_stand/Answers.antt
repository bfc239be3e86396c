-- A placed common lies in a mapped `__DATA`.
use Rattle.macho_image_rules.proofs.Unfilled.{placed_commons}
use Rattle.macho_image_rules.proofs.commons.placed_commons_stand.Goals as goal

pub returns : goal.returns
returns c = placed_commons
