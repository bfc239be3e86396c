use Rattle.macho_reading.proofs.Refusals.{read_is_not_refused}
use Rattle.macho_reading.proofs.laws.what_is_read_is_not_refused.Goals as goal

pub returns : goal.returns
returns c = read_is_not_refused
