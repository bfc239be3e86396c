-- The refusals of a linker that are printed together, by what they are of.
use Rattle.std.specs.Prelude.{Bool, true, false}
use Rattle.macho_answer.specs.declared.fault.LinkError.{LinkError}
use Rattle.macho_answer.specs.declared.fault.LinkError.TheVariants as error

abbrev pub is_of_name : LinkError → Bool
is_of_name (error.DuplicateSymbol name first second) = true
is_of_name (error.UndefinedSymbol name file) = true
is_of_name (error.EntryNotDefined name) = true
is_of_name (error.ExportListMissing name) = true
is_of_name refusal = false

abbrev pub is_of_section : LinkError → Bool
is_of_section (error.BadInitializer file section offset) = true
is_of_section (error.BadUnwind file section entry rule) = true
is_of_section (error.OverlappingFields file section first second) = true
is_of_section refusal = false

abbrev pub is_of_relocation : LinkError → Bool
is_of_relocation (error.UnsupportedRelocation file section relocation) = true
is_of_relocation (error.BindAddend file section relocation addend) = true
is_of_relocation (error.FixupPlace file section relocation placement) = true
is_of_relocation refusal = false
