use Rattle.macho_synthetic.proofs.Nothing.{nothing_passes}
use Rattle.macho_synthetic.proofs.laws.nothing_written_passes.Goals as goal

pub returns : goal.returns
returns c = nothing_passes
