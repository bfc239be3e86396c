-- The names that an image exports, and the flags of each (`mach-o/loader.h`, `EXPORT_SYMBOL_FLAGS_..`).
use Rattle.std.specs.Prelude.{◌≡◌, ℕ, ◌+◌, ◌==◌, ◌||◌, not, if◌then◌else◌, Bool, true, false, List, length, Some}
use Rattle.std.specs.List.{position_or_len}
use Rattle.std.specs.Str.{bytes_eq}
use Rattle.macho_records.specs.Symbols.{is_hidden_of}
use Rattle.macho_records.specs.Sections.{type_of}
use Rattle.macho_records.specs.declared.constants.TheConstants.{S_THREAD_LOCAL_VARIABLES}
use Rattle.macho_model.specs.ExportLists.{listed}
use Rattle.macho_model.specs.Links.{Link, section_id, header_at}
use Rattle.macho_model.specs.Resolution.{SymbolId, Symbol, entry_at, definition_of}
use Rattle.macho_model.specs.Needs.{libraries_needed}

abbrev pub FLAG_THREAD_LOCAL : ℕ
FLAG_THREAD_LOCAL = 1

abbrev pub FLAG_ABSOLUTE : ℕ
FLAG_ABSOLUTE = 2

abbrev pub FLAG_WEAK : ℕ
FLAG_WEAK = 4

-- some export list was given
abbrev pub has_lists : Link → Bool
has_lists l = not (length l.export_lists == 0)

-- a name may be exported: the lists contain it, where there are any
abbrev pub is_listed : Link → List ℕ → Bool
is_listed l name = not (has_lists l) || listed l.export_lists name

-- a name is exported from an object: its definition stands there and is visible, and the name may be exported
abbrev pub IsExported : Link → List ℕ → SymbolId → Type 0
IsExported l name s = (definition_of l name ≡ Some (Symbol s)) × (is_hidden_of (entry_at l s) ≡ false) × (is_listed l name ≡ true)

abbrev pub section_flag : Link → ℕ → ℕ → ℕ
section_flag l file section = if type_of (header_at l (section_id file section)) == S_THREAD_LOCAL_VARIABLES then FLAG_THREAD_LOCAL else 0

-- the number of a library among those of the image, from 1
abbrev pub library_number : Link → List ℕ → ℕ
library_number l library = position_or_len (bytes_eq library) (libraries_needed l) + 1
