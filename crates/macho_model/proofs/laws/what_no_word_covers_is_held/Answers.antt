-- The lemmas say just this.
use Rattle.macho_model.proofs.Memory.{text_is_held, zeros_are_held, number_is_held}
use Rattle.macho_model.proofs.laws.what_no_word_covers_is_held.Goals as goal

pub returns-clause-texts : goal.returns-clause-texts
returns-clause-texts c = text_is_held

pub returns-clause-zeros : goal.returns-clause-zeros
returns-clause-zeros c = zeros_are_held

pub returns-clause-numbers : goal.returns-clause-numbers
returns-clause-numbers c = number_is_held
