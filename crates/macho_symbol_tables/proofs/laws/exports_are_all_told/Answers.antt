use Rattle.macho_symbol_tables.proofs.Exported.{exports_are_told}
use Rattle.macho_symbol_tables.proofs.laws.exports_are_all_told.Goals as goal

pub returns-clause-told : goal.returns-clause-told
returns-clause-told c = exports_are_told
