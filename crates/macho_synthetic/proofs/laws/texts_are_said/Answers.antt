use Rattle.macho_synthetic.proofs.Said.{offsets_said, unwind_said}
use Rattle.macho_synthetic.proofs.laws.texts_are_said.Goals as goal

pub returns : goal.returns
returns c = record { offsets = offsets_said; unwind = unwind_said }
