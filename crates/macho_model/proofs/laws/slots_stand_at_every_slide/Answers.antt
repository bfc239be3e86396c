-- The lemmas say just this.
use Rattle.macho_model.proofs.PointerFixups.{slot_denotes, import_slot_denotes}
use Rattle.macho_model.proofs.laws.slots_stand_at_every_slide.Goals as goal

pub returns-clause-moved : goal.returns-clause-moved
returns-clause-moved c = slot_denotes

pub returns-clause-bound : goal.returns-clause-bound
returns-clause-bound c = import_slot_denotes
