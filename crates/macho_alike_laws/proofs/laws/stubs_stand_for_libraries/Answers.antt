use Rattle.macho_alike_laws.proofs.Alike.{stubs_alike, stubs_link_alike}
use Rattle.macho_alike_laws.proofs.laws.stubs_stand_for_libraries.Goals as goal

pub returns : goal.returns
returns c = record { alike = stubs_alike; linked = stubs_link_alike }
