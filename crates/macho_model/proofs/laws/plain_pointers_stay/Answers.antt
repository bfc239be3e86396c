-- The lemma says just this.
use Rattle.macho_model.proofs.PlainPointers.{plain_pointer_stays}
use Rattle.macho_model.proofs.laws.plain_pointers_stay.Goals as goal

pub returns : goal.returns
returns c = plain_pointer_stays
