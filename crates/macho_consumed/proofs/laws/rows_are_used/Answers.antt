use Rattle.macho_consumed.proofs.RowLaws.{are_used, are_used_by_entries}
use Rattle.macho_consumed.proofs.laws.rows_are_used.Goals as goal

pub returns : goal.returns
returns c = record { initializers = are_used; personalities = are_used_by_entries }
