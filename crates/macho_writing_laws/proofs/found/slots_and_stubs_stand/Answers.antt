use Rattle.macho_writing_laws.proofs.Rows.{stubs_follow, slots_follow}
use Rattle.macho_writing_laws.proofs.Slots.{slots_stand}
use Rattle.macho_writing_laws.proofs.Stubs.{stubs_stand}
use Rattle.macho_writing_laws.proofs.found.slots_and_stubs_stand.Goals as goal

pub returns : goal.returns
returns c = record { slots = slots_stand; stubs = stubs_stand; stubs_follow = stubs_follow; slots_follow = slots_follow }
