use Rattle.macho_unwind.proofs.EntryLookup.{sections_are_read}
use Rattle.macho_unwind.proofs.laws.sections_are_read.Goals as goal

pub returns : goal.returns
returns c = sections_are_read
