use Rattle.macho_unwind.proofs.OnePlace.{far_page}
use Rattle.macho_unwind.proofs.laws.far_page_needs_room.Goals as goal

pub returns : goal.returns
returns c = far_page
