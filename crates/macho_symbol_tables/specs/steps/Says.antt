-- What an exported name says, by plain lists: imports, libraries, views of objects, look-ups.
use Rattle.std.specs.Prelude.{ℕ, ◌+◌, ◌<◌, ◌==◌, Bool, false, List, [], map, get_or, max, Option, Some, None}
use Rattle.std.specs.List.{position_or_len}
use Rattle.std.specs.Str.{bytes_eq}
use Rattle.macho_records.specs.Sections.{type_of}
use Rattle.macho_records.specs.declared.constants.TheConstants.{S_THREAD_LOCAL_VARIABLES}
use Rattle.macho_records.specs.declared.header.SectionHeader.{SectionHeader}
use Rattle.macho_model.specs.declared.targets.Target.{Target}
use Rattle.macho_model.specs.declared.targets.Target.TheVariants as target
use Rattle.macho_model.specs.Objects.{section_at}
use Rattle.macho_object.specs.Views.{FileBytes, of_section}
use Rattle.macho_symbols.specs.declared.exports.ExportName.{ExportName}
use Rattle.macho_symbols.specs.declared.solved.Import.{Import}
use Rattle.macho_fields.specs.Looks.{Look, wrapped_in}
use Rattle.macho_linkedit.specs.declared.exports.ExportSays.{ExportSays}
use Rattle.macho_linkedit.specs.declared.exports.ExportSays.TheVariants.{Value, Reexport}
use Rattle.macho_linkedit.specs.declared.exports.NamedExport.{NamedExport}
use Rattle.macho_linkedit.specs.Tries.{value_said}
use Rattle.macho_model.specs.Told.{ToldImport}

-- the number of a library from 1, behind all others where it is none of them
abbrev pub number_in : List (List ℕ) → List ℕ → ℕ
number_in libraries library = position_or_len (bytes_eq library) libraries + 1

-- the library of an import by its number
abbrev pub library_at : List Import → ℕ → List ℕ
library_at imports id = get_or (map (λ i. i.library.items) imports) id []

-- a target that is an import is one of so many
abbrev pub IsAmong : ℕ → Target → Type 0
IsAmong n (target.Import id) = id < n
IsAmong n (target.Section file section offset) = Unit {0}
IsAmong n (target.Common id) = Unit {0}
IsAmong n target.Base = Unit {0}
IsAmong n (target.Absolute value) = Unit {0}
IsAmong n target.None = Unit {0}

-- what keeps the place of a target
abbrev pub says_kept : List Import → List (List ℕ) → Target → ExportSays
says_kept imports libraries (target.Import id) = Reexport (number_in libraries (library_at imports id))
says_kept imports libraries (target.Section file section offset) = Value 0 0
says_kept imports libraries (target.Common id) = Value 0 0
says_kept imports libraries target.Base = Value 0 0
says_kept imports libraries (target.Absolute value) = Value 0 0
says_kept imports libraries target.None = Value 0 0

-- the section of a target describes thread-local variables, as its object's view shows it
abbrev pub is_local_header : Option SectionHeader → Bool
is_local_header None = false
is_local_header (Some h) = type_of h == S_THREAD_LOCAL_VARIABLES

abbrev pub header_in : Option FileBytes → ℕ → Option SectionHeader
header_in None section = None
header_in (Some f) section = of_section f section (section_at f.bytes section)

abbrev pub is_local_in : List (Option FileBytes) → Target → Bool
is_local_in views (target.Section file section offset) = is_local_header (header_in (get_or views file None) section)
is_local_in views (target.Common id) = false
is_local_in views target.Base = false
is_local_in views (target.Absolute value) = false
is_local_in views (target.Import id) = false
is_local_in views target.None = false

-- what a target that is no import says: no address is below the base
abbrev pub value_in : Look → List (Option FileBytes) → Bool → Target → ExportSays
value_in look views weak t = value_said t weak (is_local_in views t) (max look.base (wrapped_in look t)) look.base

-- what a target says
abbrev pub says_said : Look → List (Option FileBytes) → List Import → List (List ℕ) → Bool → Target → ExportSays
says_said look views imports libraries weak (target.Import id) = says_kept imports libraries (target.Import id)
says_said look views imports libraries weak (target.Section file section offset) =
    value_in look views weak (target.Section file section offset)
says_said look views imports libraries weak (target.Common id) = value_in look views weak (target.Common id)
says_said look views imports libraries weak target.Base = value_in look views weak target.Base
says_said look views imports libraries weak (target.Absolute value) = value_in look views weak (target.Absolute value)
says_said look views imports libraries weak target.None = value_in look views weak target.None

-- an exported name with what it says
abbrev pub seen : NamedExport → List ℕ × ExportSays
seen e = (e.name.now, e.says)

-- the names, each with what keeps its place, and each with what it is exported as
abbrev pub all_kept : List Import → List (List ℕ) → List ExportName → List (List ℕ × ExportSays)
all_kept imports libraries exports = map (λ e. (e.name.items, says_kept imports libraries e.target)) exports

abbrev pub all_said : Look → List (Option FileBytes) → List Import → List (List ℕ) → List ExportName → List (List ℕ × ExportSays)
all_said look views imports libraries exports = map (λ e. (e.name.items, says_said look views imports libraries e.weak e.target)) exports

-- an import as it is told
abbrev pub told_in : List (List ℕ) → Import → ToldImport
told_in libraries i = record { library = number_in libraries i.library.items; name = i.name.items }
