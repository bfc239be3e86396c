use Rattle.macho_symbol_names.specs.Tables.{heads_of}
use Rattle.macho_symbol_names.specs.steps.Tables.{IsAhead}
use Rattle.macho_symbol_names.proofs.table.Table.find_from.Given as goal

abbrev pub invariant-loop-at : goal.invariant-loop-at
invariant-loop-at l = IsAhead l.files (heads_of l.self) l.self.entries.items l.name l.at

abbrev pub decreases-loop-at : goal.decreases-loop-at
decreases-loop-at l = l.at
