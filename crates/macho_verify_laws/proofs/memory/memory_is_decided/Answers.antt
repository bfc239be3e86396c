-- The lemmas say just this.
use Rattle.macho_verify_laws.proofs.OneMemory.{memory_is_one}
use Rattle.macho_verify_laws.proofs.Choices.{choices_exist}
use Rattle.macho_verify_laws.proofs.Bytes.{bytes_decide}
use Rattle.macho_verify_laws.proofs.memory.memory_is_decided.Goals as goal

pub returns-clause-one : goal.returns-clause-one
returns-clause-one c = memory_is_one

pub returns-clause-choices : goal.returns-clause-choices
returns-clause-choices c = choices_exist

pub returns-clause-bytes : goal.returns-clause-bytes
returns-clause-bytes c = bytes_decide
