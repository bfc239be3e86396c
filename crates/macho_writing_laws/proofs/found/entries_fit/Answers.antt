use Rattle.macho_writing_laws.proofs.Entries.{own_fit, entries_fit, entries_of_link}
use Rattle.macho_writing_laws.proofs.found.entries_fit.Goals as goal

pub returns : goal.returns
returns c = record { own = own_fit; fit = entries_fit; of_link = entries_of_link }
