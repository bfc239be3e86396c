-- The rows of all files as one list, in input order, and the best of those with a name. A resolver takes them in this
-- order, and keeps of each name the best so far: that is the definition that the model gives the name.
use Rattle.std.specs.Prelude.{ℕ, ◌==◌, nat_lt, ◌&&◌, ◌||◌, if◌then◌else◌, Bool, List, [], length, map, Option, Some, None, get_or}
use Rattle.std.specs.List.{flat_map, fold, range_with_len}
use Rattle.std.specs.Str.{bytes_eq}
use Rattle.macho_symbol_names.specs.declared.notes.Sort.{Sort}
use Rattle.macho_symbol_names.specs.declared.notes.Sort.TheVariants.{Section, Absolute, Common, Offered, Nowhere}
use Rattle.macho_symbol_names.specs.Kept.{Row, FileRows, no_row, no_file}

-- A row with its place: its file and its number there.
pub record Event : Type 0 where
  pub file : ℕ
  pub at : ℕ
  pub row : Row

abbrev pub row_at : List FileRows → ℕ → ℕ → Row
row_at files file at = get_or (get_or files file no_file).rows at no_row

abbrev pub event_at : List FileRows → ℕ → ℕ → Event
event_at files file at = record { file = file; at = at; row = row_at files file at }

-- the first rows of a file, and the rows of the first files
unfoldable pub events_of_file : List FileRows → ℕ → ℕ → List Event
events_of_file files file count = map (event_at files file) (range_with_len 0 count)

abbrev pub row_count : List FileRows → ℕ → ℕ
row_count files file = length (get_or files file no_file).rows

unfoldable pub events_of : List FileRows → ℕ → List Event
events_of files count = flat_map (λ file. events_of_file files file (row_count files file)) (range_with_len 0 count)

abbrev pub events : List FileRows → List Event
events files = events_of files (length files)

-- how strong a definition is
abbrev pub strength_of : Sort → Bool → ℕ
strength_of Section weak = if weak then 3 else 4
strength_of Absolute weak = if weak then 3 else 4
strength_of Common weak = 2
strength_of Offered weak = 1
strength_of Nowhere weak = 0

abbrev pub strength : Row → ℕ
strength r = strength_of r.sort r.weak

-- how large a common is
abbrev pub size_of_common : Sort → ℕ → ℕ
size_of_common Common value = value
size_of_common Section value = 0
size_of_common Absolute value = 0
size_of_common Offered value = 0
size_of_common Nowhere value = 0

abbrev pub common_size : Row → ℕ
common_size r = size_of_common r.sort r.value

-- a row is a better definition than another: stronger, or a greater common
abbrev pub beats : Row → Row → Bool
beats new old =
    nat_lt (strength old) (strength new) || ((strength old == strength new) && nat_lt (common_size old) (common_size new))

-- an event is of a name
abbrev pub is_of : List ℕ → Event → Bool
is_of name e = e.row.global && bytes_eq e.row.name name

abbrev pub better : Option Event → Event → Option Event
better None e = Some e
better (Some b) e = if beats e.row b.row then Some e else Some b

abbrev pub with_event : List ℕ → Option Event → Event → Option Event
with_event name best e = if is_of name e then better best e else best

-- the best event of a name, the first of those that none beats
unfoldable pub best_of : List ℕ → List Event → Option Event
best_of name es = fold (with_event name) None es

-- a strong definition of a name
abbrev pub is_strong_of : List ℕ → Event → Bool
is_strong_of name e = (strength e.row == 4) && is_of name e

-- an install name, empty where there is none
abbrev pub library_text : Option (List ℕ) → List ℕ
library_text None = []
library_text (Some name) = name
