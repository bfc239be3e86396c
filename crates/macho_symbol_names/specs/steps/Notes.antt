-- Notes that were made: their names stand in the bytes of the file.
use Rattle.std.specs.Prelude.{◌≡◌, ℕ, ◌+◌, ◌≤◌, ◌==◌, if◌then◌else◌, List, [], length, map, drop, slice_range, All}
use Rattle.macho_bytes.specs.Texts.{name_of}
use Rattle.macho_symbol_names.specs.declared.notes.Note.{Note}
use Rattle.macho_symbol_names.specs.declared.notes.Name.{Name}
use Rattle.macho_symbol_names.specs.Kept.{Row}
use Rattle.macho_symbol_names.specs.Notes.{row_in, CommonFits}

-- the name of a note stands in the bytes
abbrev pub IsWithin : List ℕ → Note → Type 0
IsWithin text n = n.name.at + n.name.length ≤ length text

-- the name that begins at a place of a string table; place 0 stands for none
abbrev pub string_at : List ℕ → ℕ → List ℕ
string_at strings at = if at == 0 then [] else name_of (drop at strings)

-- A name was found in a string table: it stands there whole.
pub record IsString (strings : List ℕ) (n : Name) : Type 0 where
  pub within : n.at + n.length ≤ length strings
  pub is : slice_range strings n.at (n.at + n.length) ≡ string_at strings n.at

-- Notes stand for rows: their names stand in the bytes, and commons are small.
pub record IsHeld (text : List ℕ) (notes : List Note) : Type 0 where
  pub within : All (IsWithin text) notes
  pub small : All (λ n. CommonFits n.sort n.number n.value) notes

-- The first of some rows are noted, in the order of their indexes.
pub record AreNoted (text : List ℕ) (notes : List Note) (rows : List Row) : Type 0 where
  pub held : IsHeld text notes
  pub are : map (row_in text) notes ≡ rows
