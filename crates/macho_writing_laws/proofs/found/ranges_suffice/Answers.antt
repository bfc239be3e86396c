use Rattle.macho_writing_laws.proofs.Sizes.{ranges_suffice, symbols_fill, signatures_fill, runs_counted}
use Rattle.macho_writing_laws.proofs.found.ranges_suffice.Goals as goal

pub returns : goal.returns
returns c = record { kept = ranges_suffice; symbols = symbols_fill; signature = signatures_fill; run = runs_counted }
