-- Laws: what the rows of a link say of its initializers, and of what it uses.
use Rattle.std.specs.Prelude.{◌≡◌, List, map, option_map, option_to_list}
use Rattle.std.specs.List.{flat_map}
use Rattle.macho_model.specs.declared.targets.Target.{Target}
use Rattle.macho_model.specs.Links.{Link, SectionId}
use Rattle.macho_model.specs.Uses.{Use, ByInitializer, ByPersonality}
use Rattle.macho_model.specs.Targets.{target_of_relocation}
use Rattle.macho_model.specs.Made.{initializers_of}
use Rattle.macho_promise.specs.Noted.{uses_of_initializers, uses_of_personalities}
use Rattle.macho_consumed.specs.declared.rows.Initializer.{Initializer}
use Rattle.macho_consumed.specs.declared.rows.PersonalityUse.{PersonalityUse}
use Rattle.macho_consumed.specs.declared.rows.UnwindEntry.{UnwindEntry}
use Rattle.macho_consumed.specs.Rows.{initializer_rows, entry_rows}
use Rattle.macho_consumed.specs.Told.{EntriesKeepRules}

-- the section of a row, and where its pointer leads
abbrev pub section_of_initializer : Initializer → SectionId
section_of_initializer row = record { file = row.file; section = row.section }

abbrev pub target_of_initializer : Link → Initializer → Target
target_of_initializer l row = target_of_relocation l (section_of_initializer row) row.number

-- what a row uses
abbrev pub use_of_initializer : Initializer → Use
use_of_initializer row = ByInitializer (section_of_initializer row) row.number

abbrev pub use_of_personality : UnwindEntry → PersonalityUse → Use
use_of_personality e p = ByPersonality (record { file = e.file; section = e.section }) p.number

abbrev pub uses_of_entry : UnwindEntry → List Use
uses_of_entry e = option_to_list (option_map (use_of_personality e) e.personality)

-- the initializers are the targets of the rows, in order
abbrev pub InitializersAreRows : Type 0
InitializersAreRows = (l : Link) → initializers_of l ≡ map (target_of_initializer l) (initializer_rows l)

-- the walk over initializers uses what the rows use, in order
abbrev pub InitializersAreUsed : Type 0
InitializersAreUsed = (l : Link) → uses_of_initializers l ≡ map use_of_initializer (initializer_rows l)

-- and that over personality functions, where entries keep their rules
abbrev pub PersonalitiesAreUsed : Type 0
PersonalitiesAreUsed = (l : Link) → EntriesKeepRules l → uses_of_personalities l ≡ flat_map uses_of_entry (entry_rows l)
