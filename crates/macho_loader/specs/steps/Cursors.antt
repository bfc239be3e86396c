-- What a walk over the load commands says of where it stands.
use Rattle.std.specs.Prelude.{◌≡◌, ℕ, ◌+◌, ◌*◌, ◌-◌, ◌<◌, ◌≤◌, List, length, filter, drop, take}
use Rattle.macho_model.specs.Commands.{header_of, commands_of, commands_from}
use Rattle.macho_image_walks.specs.declared.walk.Listed.{Listed}
use Rattle.macho_image_walks.specs.Readings.{is_listed, IsNth}
use Rattle.macho_loader.specs.declared.cursor.Cursor.{Cursor}
use Rattle.macho_loader.specs.declared.cursor.Step.{Step}

-- a walk stands before a command, or behind the last: so many of the list stand before it
pub record IsAt (which : Listed) (b : List ℕ) (at : Cursor) : Type 0 where
  pub among : at.index ≤ (header_of b).ncmds
  pub stands : drop at.index (commands_of b) ≡ commands_from b at.place ((header_of b).ncmds - at.index)
  pub before : length (filter (is_listed which b) (take at.index (commands_of b))) ≡ at.number
  pub near : at.place ≤ 32 + 4294967295 * at.index

-- it came to the next command of the list
pub record IsStep (which : Listed) (b : List ℕ) (from : Cursor) (step : Step) : Type 0 where
  pub nth : IsNth which b from.number step.place
  pub next : IsAt which b step.next
  pub more : step.next.number ≡ from.number + 1
  pub on : from.index < step.next.index
