-- The room of the fixup table holds all page starts.
use Rattle.macho_layout_laws.proofs.Placing.{pages_do_fit}
use Rattle.macho_layout_laws.proofs.pages_fit.Goals as goal

pub returns : goal.returns
returns c = pages_do_fit
