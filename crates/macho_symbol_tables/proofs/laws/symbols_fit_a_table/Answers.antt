use Rattle.macho_symbol_tables.proofs.Short.{sections_are_few, strings_are_short}
use Rattle.macho_symbol_tables.proofs.laws.symbols_fit_a_table.Goals as goal

pub returns-clause-sections : goal.returns-clause-sections
returns-clause-sections c = sections_are_few

pub returns-clause-strings : goal.returns-clause-strings
returns-clause-strings c = strings_are_short
