-- The lemmas say just this.
use Rattle.macho_model.proofs.LinkLaws.{imports_agree, slots_agree, stubs_agree, all_are_noted}
use Rattle.macho_model.proofs.laws.equal_lists_have_equal_needs.Goals as goal

pub returns-clause-imports : goal.returns-clause-imports
returns-clause-imports c = imports_agree

pub returns-clause-slots : goal.returns-clause-slots
returns-clause-slots c = slots_agree

pub returns-clause-stubs : goal.returns-clause-stubs
returns-clause-stubs c = stubs_agree

pub returns-clause-noted : goal.returns-clause-noted
returns-clause-noted c = all_are_noted
