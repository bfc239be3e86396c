use Rattle.macho_fixups.proofs.Bounds.{room_grows}
use Rattle.macho_fixups.proofs.laws.room_grows.Goals as goal

pub returns : goal.returns
returns c = room_grows
