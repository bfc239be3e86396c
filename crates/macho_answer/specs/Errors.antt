-- Refusals without memory: what each says, in plain lists; and those of symbols as refusals of a link.
use Rattle.std.specs.Prelude.{Option, Some, None}
use Rattle.std.specs.Option.{option_map}
use Rattle.macho_layout.specs.Placements.{placed_of}
use Rattle.macho_model.specs.Faults as model
use Rattle.macho_symbols.specs.SymbolFault.{SymbolFault}
use Rattle.macho_symbols.specs.SymbolFault.TheVariants as symbol
use Rattle.macho_answer.specs.declared.fault.LinkError.{LinkError}
use Rattle.macho_answer.specs.declared.fault.LinkError.TheVariants.{DuplicateSymbol, UndefinedSymbol, EntryNotDefined, ExportListMissing, BadInitializer, BadUnwind, UnsupportedRelocation, OverlappingFields, BindAddend, FixupPlace, TooMany, ImageTooLarge, RebaseTarget, RelocationRange, BadName, OutOfMemory}

-- What a refusal says of a link. A bad input is none of a link's inputs, and want of memory says nothing.
abbrev pub fault_of : LinkError → Option model.LinkFault
fault_of (DuplicateSymbol name first second) = Some (model.DuplicateSymbol name.items first second)
fault_of (UndefinedSymbol name file) = Some (model.UndefinedSymbol name.items file)
fault_of (EntryNotDefined name) = Some (model.EntryNotDefined name.items)
fault_of (ExportListMissing name) = Some (model.ExportListMissing name.items)
fault_of (BadInitializer file section offset) = Some (model.BadInitializer file section offset)
fault_of (BadUnwind file section entry rule) = Some (model.BadUnwind file section entry rule)
fault_of (UnsupportedRelocation file section relocation) = Some (model.UnsupportedRelocation file section relocation)
fault_of (OverlappingFields file section first second) = Some (model.OverlappingFields file section first second)
fault_of (BindAddend file section relocation addend) = Some (model.BindAddend file section relocation addend)
fault_of (FixupPlace file section relocation placement) = Some (model.FixupPlace file section relocation (option_map placed_of placement))
fault_of (TooMany what number placement) = Some (model.TooMany what number (option_map placed_of placement))
fault_of (ImageTooLarge placement) = Some (model.ImageTooLarge (option_map placed_of placement))
fault_of (RebaseTarget at placement) = Some (model.RebaseTarget at (placed_of placement))
fault_of (RelocationRange at placement) = Some (model.RelocationRange at (placed_of placement))
fault_of BadName = Some model.BadName
fault_of refusal = None

-- a refusal of symbols, as one of a link
abbrev pub error_of : SymbolFault → LinkError
error_of (symbol.DuplicateSymbol name first second) = DuplicateSymbol name first second
error_of (symbol.UndefinedSymbol name file) = UndefinedSymbol name file
error_of (symbol.ExportListMissing name) = ExportListMissing name
error_of symbol.OutOfMemory = OutOfMemory
