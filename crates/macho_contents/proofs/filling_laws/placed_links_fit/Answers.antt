-- A placed link fits.
use Rattle.macho_contents.proofs.Fit.{sections_have_room, stubs_have_room, symbols_are_known}
use Rattle.macho_contents.proofs.filling_laws.placed_links_fit.Goals as goal

pub returns : goal.returns
returns c = record { sections = sections_have_room; stubs = stubs_have_room; symbols = symbols_are_known }
