-- The load command that a change names, and what is in its place afterwards (`mach-o/loader.h`, `struct dylib_command`, `struct
-- rpath_command`).
use Rattle.std.specs.Prelude.{ℕ, ◌+◌, ◌-◌, ◌≤◌, nat_lt, ◌==◌, if◌then◌else◌, List, [], ◌∷◌, ◌++◌, length, replicate, slice_range}
use Rattle.macho_bytes.specs.Numbers.{little, row_bytes, rounded_up}
use Rattle.macho_bytes.specs.Layouts.{size_of}
use Rattle.macho_records.specs.CommandLayouts.{dylib_command, rpath_command}
use Rattle.macho_records.specs.declared.constants.TheConstants.{LC_ID_DYLIB, LC_LOAD_DYLIB, LC_RPATH}
use Rattle.macho_model.specs.Commands.{Command, numbered, commands_end}
use Rattle.macho_model.specs.Lists.{IsNumber}
use Rattle.macho_retool.specs.declared.change.Change.{Change}
use Rattle.macho_retool.specs.declared.change.Change.TheVariants.{Id, Library, Rpath}

-- the number of the load commands that a change is about
abbrev pub command_number : Change → ℕ
command_number (Id name) = LC_ID_DYLIB
command_number (Library number name) = LC_LOAD_DYLIB
command_number (Rpath number name) = LC_RPATH

-- which of these commands, counted from 1
abbrev pub count_of_change : Change → ℕ
count_of_change (Id name) = 1
count_of_change (Library number name) = number
count_of_change (Rpath number name) = number

-- the new name
abbrev pub path_for : Change → List ℕ
path_for (Id name) = name.items
path_for (Library number name) = name.items
path_for (Rpath number name) = name.items

-- the bytes of the command's record, behind which its path stands
abbrev pub record_size : Change → ℕ
record_size (Id name) = size_of dylib_command
record_size (Library number name) = size_of dylib_command
record_size (Rpath number name) = size_of rpath_command

-- THE command that a change names.
pub record IsNamed (change : Change) (b : List ℕ) (c : Command) : Type 0 where
  pub from_one : 1 ≤ count_of_change change
  pub one : IsNumber (numbered (command_number change) b) (count_of_change change - 1) c

-- the size of the new command: its record, the path and at least one NUL, filled to a multiple of 8
abbrev pub new_size : Change → ℕ
new_size change = rounded_up 8 (record_size change + length (path_for change) + 1)

-- The bytes of the new command: its number, its size and where its path stands; the rest of the record (a library's timestamp and
-- versions) as in the old one; the path, and zeros.
unfoldable pub new_text : Change → List ℕ → Command → List ℕ
new_text change b c =
    row_bytes little 4 (command_number change ∷ new_size change ∷ record_size change ∷ [])
    ++ slice_range b (c.at + size_of rpath_command) (c.at + record_size change) ++ path_for change
    ++ replicate (new_size change - (record_size change + length (path_for change))) 0

-- where the load commands end afterwards
abbrev pub new_end : Change → List ℕ → Command → ℕ
new_end change b c = commands_end b + new_size change - c.size

-- a command afterwards: the named one has its new size, and those behind it have moved by the change of that size
abbrev pub moved : Change → Command → Command → Command
moved change c x =
    record {
      at = if nat_lt c.at x.at then x.at + new_size change - c.size else x.at;
      number = x.number;
      size = if x.at == c.at then new_size change else x.size;
    }
