-- What one pass over the load commands finds (`mach-o/loader.h`).
use Rattle.std.specs.Prelude.{◌≡◌, ℕ, Bool, true, false, if◌then◌else◌, List, [], ◌∷◌, Option, Some, None}
use Rattle.macho_bytes.specs.Layouts.{reading}
use Rattle.macho_records.specs.Layouts.{load_command}
use Rattle.macho_records.specs.declared.constants.TheConstants.{LC_ID_DYLIB, LC_SEGMENT_64, LC_SYMTAB, MH_DYLIB, MH_OBJECT}
use Rattle.macho_records.specs.declared.header.LoadCommand.{LoadCommand}
use Rattle.macho_model.specs.Commands.{Command, command_at, commands_of, numbered, command_fits}
use Rattle.macho_model.specs.ObjectRules.{commands_inside, needed_in_object, needed_in_dylib}
use Rattle.macho_model.specs.Grammar.{EachCommand}
use Rattle.macho_object.specs.declared.commands.Found.{Found}
use Rattle.macho_object.specs.declared.commands.Found.TheVariants.{Nowhere, Once, Twice}
use Rattle.macho_object.specs.declared.commands.Tally.{Tally}

-- the file type of each kind
abbrev pub filetype_of : Bool → ℕ
filetype_of false = MH_OBJECT
filetype_of true = MH_DYLIB

-- the command that each kind has beside its symbol table: the segment of an object, the install name of a library
abbrev pub main_number : Bool → ℕ
main_number false = LC_SEGMENT_64
main_number true = LC_ID_DYLIB

-- how long a command of each kind has to be
abbrev pub needed_of : Bool → List ℕ → Command → ℕ
needed_of false b = needed_in_object b
needed_of true b = needed_in_dylib

-- the command's record, where it is whole
abbrev pub whole_command : Bool → List ℕ → ℕ → Option LoadCommand
whole_command dyn b at =
    if command_fits (needed_of dyn b) b (command_at b at) then Some (reading load_command b at) else None

-- where commands stand of which there is to be one
abbrev pub found_in : List Command → Found
found_in [] = Nowhere
found_in (c ∷ []) = Once c.at
found_in (c ∷ d ∷ cs) = Twice d.at

-- the same with one more command at a place
abbrev pub found_again : Found → ℕ → Found
found_again Nowhere at = Once at
found_again (Once first) at = Twice at
found_again (Twice second) at = Twice second

-- the same with one more command at a place, if it counts
abbrev pub found_if : Bool → Found → ℕ → Found
found_if true f at = found_again f at
found_if false f at = f

-- A file's commands are all whole, and the pass told where those of both numbers stand.
pub record IsScanned (dyn : Bool) (b : List ℕ) (t : Tally) : Type 0 where
  pub inside : commands_inside b ≡ true
  pub each : EachCommand (commands_of b) (command_fits (needed_of dyn b) b)
  pub main_is : t.main ≡ found_in (numbered (main_number dyn) b)
  pub symtab_is : t.symtab ≡ found_in (numbered LC_SYMTAB b)
