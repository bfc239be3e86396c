use Rattle.macho_placed_laws.proofs.Ties.{segments_have_room}
use Rattle.macho_placed_laws.proofs.agreement.segments_have_room.Goals as goal

pub returns : goal.returns
returns c = segments_have_room
