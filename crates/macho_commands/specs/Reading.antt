-- What a reader finds where a command, or a list of them, stands.
use Rattle.std.specs.Prelude.{◌≡◌, ℕ, ◌+◌, List, [], ◌∷◌, length, map}
use Rattle.macho_bytes.specs.Texts.{Stands}
use Rattle.macho_bytes.specs.Layouts.{reading}
use Rattle.macho_records.specs.Layouts.{load_command}
use Rattle.macho_model.specs.Commands as found
use Rattle.macho_model.specs.HeadCommands.{HeadCommand, command_in, size_said}
use Rattle.macho_commands.specs.declared.command.Command.{Command}
use Rattle.macho_commands.specs.Texts.{text_said, number_said}
use Rattle.macho_commands.specs.Commands.{said_by, size_of_command, commands_text}

-- a command as it lies at a place
abbrev pub placed_at : ℕ → HeadCommand → found.Command
placed_at at h = record { at = at; number = number_said h; size = size_said h }

-- a command is found at a place: its number, its size, and all that it says
pub record IsFound (b : List ℕ) (at : ℕ) (h : HeadCommand) : Type 0 where
  pub number : (reading load_command b at).cmd ≡ number_said h
  pub size : (reading load_command b at).cmdsize ≡ size_said h
  pub says : command_in b (placed_at at h) ≡ h

-- wherever its text stands, a command is found
pub record IsReadable (h : HeadCommand) : Type 0 where
  pub found : (b : List ℕ) (at : ℕ) → Stands b (record { at = at; text = text_said h }) → IsFound b at h

-- a list of commands as a reader finds it, each behind the one before
abbrev pub placed_commands : ℕ → List Command → List found.Command
placed_commands at [] = []
placed_commands at (c ∷ cs) = placed_at at (said_by c) ∷ placed_commands (at + size_of_command c) cs

abbrev pub EachFound : List ℕ → ℕ → List Command → Type 0
EachFound b at [] = Unit {0}
EachFound b at (c ∷ cs) = IsFound b at (said_by c) × EachFound b (at + size_of_command c) cs

-- the list is found where its text stands, and says what each of its commands does
pub record ListIsFound (b : List ℕ) (at : ℕ) (commands : List Command) : Type 0 where
  pub list : found.commands_from b at (length commands) ≡ placed_commands at commands
  pub each : EachFound b at commands
  pub said : map (command_in b) (placed_commands at commands) ≡ map said_by commands

pub record ListIsReadable (commands : List Command) : Type 0 where
  pub found : (b : List ℕ) (at : ℕ) → Stands b (record { at = at; text = commands_text commands }) → ListIsFound b at commands
