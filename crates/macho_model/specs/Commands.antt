-- The load commands of a Mach-O file (`mach-o/loader.h`): a list behind the header, each with its number and its size.
use Rattle.std.specs.Prelude.{ℕ, zero, suc, ◌+◌, ◌*◌, ◌==◌, nat_le, ◌&&◌, Bool, List, [], ◌∷◌, filter, slice_range}
use Rattle.macho_records.specs.ByteLayouts.{reading, size_of}
use Rattle.macho_records.specs.ByteTexts.{name_of}
use Rattle.macho_records.specs.Layouts.{mach_header, load_command, segment_command, section_header}
use Rattle.macho_records.specs.declared.header.MachHeader.{MachHeader}
use Rattle.macho_model.specs.Lists.{of_first}

-- A load command: its place in the file, its number and its size in bytes.
pub record Command : Type 0 where
  pub at : ℕ
  pub number : ℕ
  pub size : ℕ

unfoldable pub header_of : List ℕ → MachHeader
header_of b = reading mach_header b 0

-- the command that begins at a place
abbrev pub command_at : List ℕ → ℕ → Command
command_at b at = record { at = at; number = (reading load_command b at).cmd; size = (reading load_command b at).cmdsize }

-- so many commands from a place on, each where the one before it ends
unfoldable pub commands_from : List ℕ → ℕ → ℕ → List Command
commands_from b at zero = []
commands_from b at (suc count) = command_at b at ∷ commands_from b (at + (command_at b at).size) count

-- the load commands of a file: as many as its header says, behind the header
unfoldable pub commands_of : List ℕ → List Command
commands_of b = commands_from b (size_of mach_header) (header_of b).ncmds

unfoldable pub commands_end : List ℕ → ℕ
commands_end b = size_of mach_header + (header_of b).sizeofcmds

abbrev pub numbered : ℕ → List ℕ → List Command
numbered n b = filter (λ c. c.number == n) (commands_of b)

-- the place of the first command of a number, 0 where there is none
abbrev pub place_of : ℕ → List ℕ → ℕ
place_of n b = of_first 0 (λ c. c.at) (numbered n b)

-- the path of a command: from the offset that stands in it up to the first NUL or the command's end
abbrev pub path_of : List ℕ → Command → ℕ → List ℕ
path_of b c offset = name_of (slice_range b (c.at + offset) (c.at + c.size))

-- a segment's command has its section headers behind it
abbrev pub segment_size : List ℕ → ℕ → ℕ
segment_size b at = size_of segment_command + size_of section_header * (reading segment_command b at).nsects

-- a command has at least its head, ends where the commands end or before, and is as long as what it holds needs
abbrev pub command_fits : (Command → ℕ) → List ℕ → Command → Bool
command_fits needed b c = nat_le (size_of load_command) c.size && nat_le (c.at + c.size) (commands_end b) && nat_le (needed c) c.size
