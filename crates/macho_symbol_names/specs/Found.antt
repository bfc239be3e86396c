-- The entries of rows: for each row of each file one number, which for a global row is that of the entry of its name.
use Rattle.std.specs.Prelude.{◌≡◌, ℕ, ◌<◌, true, List, length, get_or}
use Rattle.std.specs.declared.vec.Vec.{Vec}
use Rattle.macho_symbol_names.specs.declared.table.Entry.{Entry}
use Rattle.macho_symbol_names.specs.Kept.{FileRows}
use Rattle.macho_symbol_names.specs.Events.{row_at, row_count}
use Rattle.macho_symbol_names.specs.Tables.{IsEntryOf}

-- the number of a global row is that of the entry of its name
abbrev pub IsFound : List FileRows → List Entry → ℕ → ℕ → ℕ → Type 0
IsFound files entries file row number =
    (row_at files file row).global ≡ true → IsEntryOf files entries (row_at files file row).name number

-- The first rows of a file have these numbers.
pub record AreFoundIn (files : List FileRows) (entries : List Entry) (file count : ℕ) (found : List ℕ) : Type 0 where
  pub long : length found ≡ count
  pub each : (row none : ℕ) → row < count → IsFound files entries file row (get_or found row none)

-- All rows of the first files have these numbers.
pub record AreFound {A : Type 0} (files : List FileRows) (entries : List Entry) (count : ℕ) (found : List (Vec ℕ A)) : Type 0 where
  pub long : length found ≡ count
  pub each : (file : ℕ) (none : Vec ℕ A) → file < count
      → AreFoundIn files entries file (row_count files file) (get_or found file none).items
