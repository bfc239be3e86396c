-- What holds once all rows were taken in: the table knows all events, the commons are those that were chosen, and each
-- entry has the number of its import, where that is noted.
use Rattle.std.specs.Prelude.{◌≡◌, ℕ, ◌+◌, ◌^◌, ◌<◌, ◌≤◌, ◌≢◌, ◌==◌, nat_lt, ◌&&◌, ◌||◌, Bool, AllPairs, List, [], length, map, get_or, All, Contains, ◌++◌, Option, Some, true, false}
use Rattle.std.specs.List.{position_or_len}
use Rattle.std.specs.Str.{bytes_eq}
use Rattle.macho_bytes.specs.Numbers.{rounded_up}
use Rattle.macho_model.specs.Resolution.{SymbolId, Library}
use Rattle.macho_symbols.specs.declared.solved.Common.{Common}
use Rattle.macho_symbols.specs.declared.solved.Import.{Import}
use Rattle.macho_symbols.specs.declared.solved.Solved.{Solved}
use Rattle.macho_symbols.specs.declared.solved.TheConstants.{UNNUMBERED}
use Rattle.macho_symbol_names.specs.Kept.{FileRows, no_file}
use Rattle.macho_symbol_names.specs.Events.{Event, events, best_of, library_text}
use Rattle.macho_symbol_names.specs.Tables.{heads_of, IsKnown, names_of}
use Rattle.macho_symbol_names.specs.Found.{AreFound}
use Rattle.macho_symbols.specs.Targets.{chosen_in, definition_by, named_in}
use Rattle.macho_symbols.specs.steps.Targets.{is_nothing, is_missing_in, noting_names_in}
use Rattle.macho_symbol_names.specs.declared.fault.SymbolFault.{SymbolFault}
use Rattle.macho_symbol_names.specs.declared.fault.SymbolFault.TheVariants.{DuplicateSymbol, UndefinedSymbol, ExportListMissing, OutOfMemory}
use Rattle.macho_symbols.specs.Kept.{noted_of}

abbrev pub common_id : Common → SymbolId
common_id c = record { file = c.file; symbol = c.symbol }

-- a symbol comes before another, by file, then number
abbrev pub is_before : SymbolId → SymbolId → Bool
is_before s t = nat_lt s.file t.file || ((s.file == t.file) && nat_lt s.symbol t.symbol)

abbrev pub AreAscending : List Common → Type 0
AreAscending commons = AllPairs (λ a b. is_before (common_id a) (common_id b) ≡ true) commons

-- The first of some commons come before a symbol, and no other.
pub record IsPlaceOf (commons : List Common) (s : SymbolId) (place : ℕ) : Type 0 where
  pub within : place ≤ length commons
  pub below : (k : ℕ) (d : Common) → k < place → is_before (common_id (get_or commons k d)) s ≡ true
  pub above : (k : ℕ) (d : Common) → place ≤ k → k < length commons → is_before (common_id (get_or commons k d)) s ≡ false

-- a chosen common, as it is told
abbrev pub common_told : Event → Common
common_told e = record { file = e.file; symbol = e.at; size = rounded_up (2 ^ e.row.number) e.row.value; align = e.row.number }

-- a name has its import's number where that is noted, and else none
pub record IsNumbered (noted : List (List ℕ)) (name : List ℕ) (number : ℕ) : Type 0 where
  pub fresh : number ≡ UNNUMBERED → position_or_len (bytes_eq name) noted ≡ length noted
  pub old : number ≢ UNNUMBERED → number ≡ position_or_len (bytes_eq name) noted
  pub there : number ≢ UNNUMBERED → number < length noted

-- what is told of an import: its library's file and install name
abbrev pub library_in : List FileRows → ℕ → List ℕ
library_in files file = library_text (get_or files file no_file).library

-- the install name of a file that is a library
abbrev pub install_name_in : FileRows → Option (List ℕ)
install_name_in f = f.library

-- an import is bound to the library that defines its name
abbrev pub IsImportIn : List FileRows → Import → Type 0
IsImportIn files i =
    (definition_by i.name.items (best_of i.name.items (events files)) ≡ Some (Library i.file)) × (i.library.items ≡ library_in files i.file)

-- all that is known
pub record IsSolved (s : Solved) : Type 0 where
  pub known : IsKnown s.files.items (heads_of s.table) s.table.entries.items (events s.files.items)
  pub found : AreFound s.files.items s.table.entries.items (length s.files.items) s.found.items
  pub commons : s.commons.items ≡ map common_told (chosen_in s.files.items)
  pub few_commons : length s.commons.items < 2 ^ 32
  pub few_imports : length s.imports.items < UNNUMBERED + 1
  pub libraries : All (IsImportIn s.files.items) s.imports.items
  pub long : length s.numbers.items ≡ length s.table.entries.items
  pub numbers : (j : ℕ) → j < length s.numbers.items
      → IsNumbered (noted_of s.imports.items) (get_or (names_of s.files.items s.table.entries.items) j []) (get_or s.numbers.items j 0)

-- no import was noted
pub record IsUnchanged (old new : Solved) : Type 0 where
  pub files : new.files.items ≡ old.files.items
  pub heads : heads_of new.table ≡ heads_of old.table
  pub entries : new.table.entries.items ≡ old.table.entries.items
  pub found : new.found.items ≡ old.found.items
  pub commons : new.commons.items ≡ old.commons.items
  pub imports : new.imports.items ≡ old.imports.items
  pub numbers : new.numbers.items ≡ old.numbers.items

-- a use is found: its name has a target, if it has a name
abbrev pub IsFoundIn : List FileRows → List (List ℕ) → Event → Type 0
IsFoundIn files noted e = e.row.global ≡ true → is_nothing (named_in files noted e.row.name) ≡ false

-- a use is refused: its name has no target
abbrev pub IsUndefinedIn : List FileRows → List (List ℕ) → Event → SymbolFault → Type 0
IsUndefinedIn files noted e (UndefinedSymbol name file) =
    (e.row.global ≡ true) × (is_nothing (named_in files noted e.row.name) ≡ true) × (name.items ≡ e.row.name) × (file ≡ e.file)
IsUndefinedIn files noted e (DuplicateSymbol name first second) = ⊥
IsUndefinedIn files noted e (ExportListMissing name) = ⊥
IsUndefinedIn files noted e OutOfMemory = Unit {0}

-- some imports were noted, and nothing else changed but numbers
pub record HasGrown (old new : Solved) : Type 0 where
  pub files : new.files.items ≡ old.files.items
  pub heads : heads_of new.table ≡ heads_of old.table
  pub entries : new.table.entries.items ≡ old.table.entries.items
  pub found : new.found.items ≡ old.found.items
  pub commons : new.commons.items ≡ old.commons.items
  pub more : List Import
  pub imports : new.imports.items ≡ old.imports.items ++ more

-- one of some names has no definition, and that is told
abbrev pub IsMissingIn : List FileRows → List (List ℕ) → SymbolFault → Type 0
IsMissingIn files names (ExportListMissing name) = Contains names name.items × (is_missing_in files name.items ≡ true)
IsMissingIn files names (DuplicateSymbol name first second) = ⊥
IsMissingIn files names (UndefinedSymbol name file) = ⊥
IsMissingIn files names OutOfMemory = Unit {0}

-- Some names were asked for: the imports among them are noted, and none is missing.
pub record HaveNoted (old new : Solved) (names : List (List ℕ)) : Type 0 where
  pub solved : IsSolved new
  pub grown : HasGrown old new
  pub noted : noted_of new.imports.items ≡ noting_names_in old.files.items (noted_of old.imports.items) names
  pub found : All (λ name. is_missing_in old.files.items name ≡ false) names
