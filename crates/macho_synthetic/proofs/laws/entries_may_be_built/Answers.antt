use Rattle.macho_synthetic.proofs.Sound.{rows_sound}
use Rattle.macho_synthetic.proofs.laws.entries_may_be_built.Goals as goal

pub returns : goal.returns
returns c = rows_sound
