-- The lemmas say just this.
use Rattle.macho_model.proofs.Unchained.{unchained}
use Rattle.macho_model.proofs.ChainMemory.{memory_moves, memory_moves_back}
use Rattle.macho_model.proofs.laws.memory_moves_by_the_slide.Goals as goal

pub returns-clause-unchained : goal.returns-clause-unchained
returns-clause-unchained c = unchained

pub returns-clause-there : goal.returns-clause-there
returns-clause-there c = memory_moves

pub returns-clause-back : goal.returns-clause-back
returns-clause-back c = memory_moves_back
