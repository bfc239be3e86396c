use Rattle.macho_unwind_pages.proofs.NamedIds.{ids_named, ids_numbers}
use Rattle.macho_unwind_pages.proofs.laws.ids_are_named.Goals as goal

pub returns-clause-named : goal.returns-clause-named
returns-clause-named c = ids_named

pub returns-clause-numbers : goal.returns-clause-numbers
returns-clause-numbers c = ids_numbers
