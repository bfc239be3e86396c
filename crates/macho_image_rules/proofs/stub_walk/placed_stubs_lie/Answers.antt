-- A placed stub lies in the file part of a mapped `__TEXT`.
use Rattle.macho_image_rules.proofs.Stubbed.{placed_lie}
use Rattle.macho_image_rules.proofs.stub_walk.placed_stubs_lie.Goals as goal

pub returns : goal.returns
returns c = placed_lie
