-- What is known of a file whose commands were passed: where its tables stand.
use Rattle.std.specs.Prelude.{◌≡◌, ℕ, ◌+◌, ◌*◌, ◌<◌, ◌≤◌, Bool, true, false, List, [], ◌∷◌, if◌then◌else◌, length, slice_range, Option, Some, None}
use Rattle.macho_bytes.specs.Layouts.{reading, size_of}
use Rattle.macho_records.specs.Layouts.{segment_command, section_header, symtab_command, load_command}
use Rattle.macho_records.specs.CommandLayouts.{dylib_command}
use Rattle.macho_records.specs.declared.constants.TheConstants.{LC_SEGMENT_64, LC_SYMTAB}
use Rattle.macho_model.specs.Commands.{command_at, commands_of, numbered, command_fits, segment_size}
use Rattle.macho_model.specs.Objects.{install_name_of, num_sections, section_place, symtab_of}
use Rattle.macho_model.specs.ObjectRules.{head_fits, commands_inside, has_one, tables_inside, path_ends}
use Rattle.macho_model.specs.Grammar.{EachCommand}
use Rattle.macho_object.specs.declared.commands.Found.{Found}
use Rattle.macho_object.specs.declared.commands.Found.TheVariants.{Nowhere, Once, Twice}
use Rattle.macho_object.specs.declared.outline.Places.{Places}
use Rattle.macho_object.specs.declared.outline.Outline.{Outline}
use Rattle.macho_object.specs.Views.{section_count}
use Rattle.macho_object.specs.steps.Scans.{filetype_of, main_number, needed_of}

-- a command that is to stand once stands nowhere, told at 0, or twice, told at the second's place
abbrev pub IsNotOnce : Found → ℕ → Type 0
IsNotOnce Nowhere place = place ≡ 0
IsNotOnce (Once at) place = ⊥
IsNotOnce (Twice second) place = place ≡ second

-- the bytes that the grammar reads of a file's first command, from its start on
abbrev pub main_size : Bool → List ℕ → ℕ → ℕ
main_size false b at = segment_size b at
main_size true b at = (reading load_command b at).cmdsize

-- The header and the commands keep their rules, and both commands stand at these places.
pub record HasCommands (dyn : Bool) (b : List ℕ) (p : Places) : Type 0 where
  pub head : head_fits (filetype_of dyn) b ≡ true
  pub inside : commands_inside b ≡ true
  pub each : EachCommand (commands_of b) (command_fits (needed_of dyn b) b)
  pub main_only : numbered (main_number dyn) b ≡ command_at b p.main ∷ []
  pub one_symtab : has_one LC_SYMTAB b ≡ true
  pub symtab_only : numbered LC_SYMTAB b ≡ command_at b p.symtab ∷ []
  pub main_room : p.main + main_size dyn b p.main ≤ length b
  pub main_long : size_of dylib_command ≤ main_size dyn b p.main
  pub symtab_room : p.symtab + size_of symtab_command ≤ length b

-- A section's header stands in the one segment's command, inside the file.
pub record SectionStands (b : List ℕ) (main k : ℕ) : Type 0 where
  pub among : k < num_sections b
  pub place : section_place b k ≡ main + size_of segment_command + size_of section_header * k
  pub room : section_place b k + size_of section_header ≤ length b

-- The header and the commands keep their rules, and the symbol table and the strings stand inside the file.
pub record IsOutlined (o : Outline) : Type 0 where
  pub commands : HasCommands o.is_dynamic o.input.now o.places
  pub tables : tables_inside o.input.now ≡ true
  pub symtab_is : o.symtab ≡ symtab_of o.input.now
  pub sections : (k : ℕ) → k < o.num_sections → SectionStands o.input.now o.places.main k
  pub sections_is : o.num_sections ≡ section_count o.is_dynamic o.input.now

-- the bytes of a library's command from its path's place on
abbrev pub path_field_of : List ℕ → ℕ → List ℕ
path_field_of b at =
    slice_range b (at + (reading dylib_command b at).name_offset) (at + (reading load_command b at).cmdsize)

-- a library's path, where a NUL ends it in its command
abbrev pub ending_path : List ℕ → ℕ → Option (List ℕ)
ending_path b main = if path_ends b (command_at b main) then Some (install_name_of b) else None
