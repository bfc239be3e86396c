use Rattle.macho_linkedit.proofs.Exporting.{values_are_found, reexports_are_found}
use Rattle.macho_linkedit.proofs.laws.exports_are_found.Goals as goal

pub returns : goal.returns
returns c = record { values = values_are_found; reexports = reexports_are_found }
