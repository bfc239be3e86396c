use Rattle.macho_consumed.proofs.RowLaws.{are_rows}
use Rattle.macho_consumed.proofs.laws.initializers_are_rows.Goals as goal

pub returns : goal.returns
returns c = record { rows = are_rows }
