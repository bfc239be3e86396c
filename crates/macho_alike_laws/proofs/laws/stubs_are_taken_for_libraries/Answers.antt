use Rattle.macho_alike_laws.proofs.Alike.{hold_stubs, inputs_taken, stubs_taken}
use Rattle.macho_alike_laws.proofs.laws.stubs_are_taken_for_libraries.Goals as goal

pub returns : goal.returns
returns c = record { begin = hold_stubs; inputs = inputs_taken; stubs = stubs_taken }
