-- The refusal of a name that is defined twice stands as it is told.
use Rattle.macho_model.specs.declared.placed.Counts.{Counts}
use Rattle.macho_model.specs.Links.{Link}
use Rattle.macho_symbol_names.specs.declared.fault.SymbolFault.{SymbolFault}
use Rattle.macho_symbol_names.specs.declared.fault.SymbolFault.TheVariants as symbol
use Rattle.macho_symbols.specs.Told.{IsDuplicateOf}
use Rattle.macho_answer.specs.Errors.{error_of}
use Rattle.macho_answer.specs.Standing.{Stands}

pub duplicate_stands : (l : Link) (counts : Counts) (f : SymbolFault) → IsDuplicateOf l f → Stands l counts (error_of f)
duplicate_stands l counts (symbol.DuplicateSymbol name first second) twice = record { stands = twice; kept = tt }
duplicate_stands l counts (symbol.UndefinedSymbol name file) never = absurd never
duplicate_stands l counts (symbol.ExportListMissing name) never = absurd never
duplicate_stands l counts symbol.OutOfMemory free = tt
