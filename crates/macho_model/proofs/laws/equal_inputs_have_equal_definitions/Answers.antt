-- The lemmas say just this.
use Rattle.macho_model.proofs.LinkLaws.{definitions_agree, noted_targets_agree, commons_agree, carried_agree}
use Rattle.macho_model.proofs.laws.equal_inputs_have_equal_definitions.Goals as goal

pub returns-clause-definitions : goal.returns-clause-definitions
returns-clause-definitions c = definitions_agree

pub returns-clause-targets : goal.returns-clause-targets
returns-clause-targets c = noted_targets_agree

pub returns-clause-commons : goal.returns-clause-commons
returns-clause-commons c = commons_agree

pub returns-clause-carried : goal.returns-clause-carried
returns-clause-carried c = carried_agree
