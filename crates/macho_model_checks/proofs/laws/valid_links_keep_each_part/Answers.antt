-- No refusal stands just where each part is kept.
use Rattle.macho_model_checks.proofs.ValidTests.{valid_keeping, keeping_valid}
use Rattle.macho_model_checks.proofs.laws.valid_links_keep_each_part.Goals as goal

pub returns-clause-parts : goal.returns-clause-parts
returns-clause-parts c = keeping_valid

pub returns-clause-valid : goal.returns-clause-valid
returns-clause-valid c = valid_keeping
