-- Each part by its own law.
use Rattle.macho_verify_laws.proofs.Decided.{slots_decide}
use Rattle.macho_verify_laws.proofs.Stubs.{stubs_decide}
use Rattle.macho_verify_laws.proofs.Whole.{all_fields_decide, all_decides}
use Rattle.macho_verify_laws.proofs.words.words_are_decided.Goals as goal

pub returns-clause-fields : goal.returns-clause-fields
returns-clause-fields c = all_fields_decide

pub returns-clause-slots : goal.returns-clause-slots
returns-clause-slots c = slots_decide

pub returns-clause-stubs : goal.returns-clause-stubs
returns-clause-stubs c = stubs_decide

pub returns-clause-file : goal.returns-clause-file
returns-clause-file c = all_decides
