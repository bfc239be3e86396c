-- How the table of names takes a row in: the look-up of its name, an entry that is added, and one that leads to a better row.
use Rattle.std.specs.Prelude.{◌≡◌, ℕ, ◌+◌, ◌<◌, ◌≤◌, List, [], ◌∷◌, ◌++◌, length, get_or, set, ◌==◌, ◌&&◌, true, false, Bool}
use Rattle.macho_symbol_names.specs.declared.table.Entry.{Entry}
use Rattle.macho_symbol_names.specs.declared.table.Place.{Place}
use Rattle.macho_symbol_names.specs.declared.fault.SymbolFault.{SymbolFault}
use Rattle.macho_symbol_names.specs.declared.fault.SymbolFault.TheVariants.{DuplicateSymbol, UndefinedSymbol, ExportListMissing, OutOfMemory}
use Rattle.macho_symbol_names.specs.Kept.{FileRows, Row}
use Rattle.macho_symbol_names.specs.Events.{Event, row_at, row_count, beats, strength}
use Rattle.macho_symbol_names.specs.Tables.{no_entry, Heads, bucket_of, names_of, IsClash, IsKnown}

-- a row has a name
abbrev pub IsPlaceOfName : List FileRows → List ℕ → Place → Type 0
IsPlaceOfName files name p = (p.file < length files) × (p.row < row_count files p.file) × ((row_at files p.file p.row).name ≡ name)

-- Where a look-up of a name has come: all its entries are older than the one before this place, which is of its bucket.
pub record IsAhead (files : List FileRows) (heads : Heads) (entries : List Entry) (name : List ℕ) (at : ℕ) : Type 0 where
  pub within : at ≤ length entries
  pub ahead : (k : ℕ) → k < length entries → get_or (names_of files entries) k [] ≡ name → k < at
  pub same : (m : ℕ) → at ≡ m + 1 → bucket_of heads (get_or (names_of files entries) m []) ≡ bucket_of heads name

-- an entry was added, for the row of a file
pub record IsAdded (old new : List Entry) (file row : ℕ) : Type 0 where
  pub entry : Entry
  pub are : new ≡ old ++ entry ∷ []
  pub file_is : entry.file ≡ file
  pub row_is : entry.row ≡ row

-- the row that an entry leads to, by the entry's number
abbrev pub row_of_entry : List FileRows → List Entry → ℕ → Row
row_of_entry files entries number = row_at files (get_or entries number no_entry).file (get_or entries number no_entry).row

-- both rows are strong
abbrev pub both_strong : Row → Row → Bool
both_strong old new = (strength old == 4) && (strength new == 4)

-- the entry of a name leads to a better row, where that is better
pub record IsImproved (files : List FileRows) (old new : List Entry) (number file row : ℕ) : Type 0 where
  pub kept : beats (row_at files file row) (row_of_entry files old number) ≡ false → new ≡ old
  pub better : beats (row_at files file row) (row_of_entry files old number) ≡ true
      → new ≡ set old number (record (get_or old number no_entry) { file = file; row = row })
  pub single : both_strong (row_of_entry files old number) (row_at files file row) ≡ false

-- both rows of a name are strong, and that is told
abbrev pub AreBothStrong : List FileRows → List Entry → ℕ → ℕ → ℕ → SymbolFault → Type 0
AreBothStrong files old number file row (DuplicateSymbol name first second) =
    (name.items ≡ (row_at files file row).name) × (first ≡ (get_or old number no_entry).file) × (second ≡ file)
    × (both_strong (row_of_entry files old number) (row_at files file row) ≡ true)
AreBothStrong files old number file row (UndefinedSymbol name undefined) = ⊥
AreBothStrong files old number file row (ExportListMissing name) = ⊥
AreBothStrong files old number file row OutOfMemory = Unit {0}

-- the names of a table hold nothing new after an event: it was of no name
abbrev pub IsNameless : Event → Type 0
IsNameless e = e.row.global ≡ false

-- The table takes more events in: whatever events it knew before, it now knows these behind them.
pub record TakesIn (files : List FileRows) (heads : Heads) (entries : List Entry) (new_heads : Heads) (new_entries : List Entry)
    (more : List Event) : Type 0 where
  pub says : (es : List Event) → IsKnown files heads entries es → IsKnown files new_heads new_entries (es ++ more)

-- A refusal to take more events in is a clash among those and what the table knew.
pub record Refuses (files : List FileRows) (heads : Heads) (entries : List Entry) (more : List Event) (fault : SymbolFault) : Type 0 where
  pub says : (es : List Event) → IsKnown files heads entries es → IsClash (es ++ more) fault

-- Entries keep their numbers and their names, and others come behind them.
pub record HaveGrown (files : List FileRows) (old new : List Entry) : Type 0 where
  pub more : List (List ℕ)
  pub names : names_of files new ≡ names_of files old ++ more
