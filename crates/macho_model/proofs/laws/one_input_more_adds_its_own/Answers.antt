-- The lemmas say just this.
use Rattle.macho_model.proofs.LinkLaws.{symbols_grow, sections_grow}
use Rattle.macho_model.proofs.laws.one_input_more_adds_its_own.Goals as goal

pub returns-clause-symbols : goal.returns-clause-symbols
returns-clause-symbols c = symbols_grow

pub returns-clause-sections : goal.returns-clause-sections
returns-clause-sections c = sections_grow
