-- What the look-up of a named command answers.
use Rattle.std.specs.Prelude.{ℕ, List, Option, Some, None}
use Rattle.macho_model.specs.Commands.{Command, command_at}
use Rattle.macho_retool.specs.declared.change.Change.{Change}
use Rattle.macho_retool.specs.Changes.{IsNamed}

-- the place of the command that a change names, or there is none
abbrev pub IsNamedPlace : Change → List ℕ → Option ℕ → Type 0
IsNamedPlace change b (Some place) = IsNamed change b (command_at b place)
IsNamedPlace change b None = (c : Command) → IsNamed change b c → ⊥
