-- What is known of records of starts in which no page has a start.
use Rattle.std.specs.Prelude.{◌≡◌, ℕ, ◌<◌, List, length, slice_index, All}
use Rattle.macho_model.specs.Images.{segment_starts_place, NO_START}
use Rattle.macho_image_walks.specs.Readings.{starts_of, table_there}
use Rattle.macho_loader.specs.declared.blank.Blank.{Blank}

-- no page of a segment has a start
abbrev pub HasNoStart : List ℕ → ℕ → Type 0
HasNoStart b number = (page : ℕ) → page < length (starts_of b number) → slice_index (starts_of b number) page ≡ NO_START

-- no page of a segment has a start whose record stands at a place, by the table of a command
pub record IsBlank (b : List ℕ) (table place : ℕ) : Type 0 where
  pub none : (number : ℕ) → segment_starts_place b (table_there b table) number ≡ place → HasNoStart b number

-- so it is at all places that are kept, and the next one is put among them
pub record AreBlank (b : List ℕ) (table : ℕ) (known : Blank) : Type 0 where
  pub each : All (IsBlank b table) known.places
  pub among : known.next < 64
