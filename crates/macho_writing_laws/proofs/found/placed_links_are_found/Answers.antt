use Rattle.macho_writing_laws.proofs.Placed.{things_found, things_listed, laid_out, link_placed}
use Rattle.macho_writing_laws.proofs.found.placed_links_are_found.Goals as goal

pub returns : goal.returns
returns c = record { found = things_found; listed = things_listed; laid = laid_out; link = link_placed }
