-- Exports by the rows: which names are exported, and as what.
use Rattle.std.specs.Prelude.{◌≡◌, ℕ, ◌&&◌, not, Bool, true, false, List, [], map, take, All, Contains, filter, Option, Some, None, is_some}
use Rattle.std.specs.Borrow.{Bor}
use Rattle.std.specs.List.{list_any}
use Rattle.std.specs.Str.{bytes_eq}
use Rattle.macho_export_lists.specs.Entries.{ListEntries, is_within}
use Rattle.macho_symbols.specs.declared.exports.ExportName.{ExportName}
use Rattle.macho_symbol_names.specs.declared.notes.Sort.{Sort}
use Rattle.macho_symbol_names.specs.declared.notes.Sort.TheVariants.{Section, Absolute, Common, Offered, Nowhere}
use Rattle.macho_symbol_names.specs.declared.table.Entry.{Entry}
use Rattle.macho_symbols.specs.Exported.{AreRising, export_names}
use Rattle.macho_symbol_names.specs.Kept.{FileRows}
use Rattle.macho_symbol_names.specs.Events.{Event, events, best_of}
use Rattle.macho_symbol_names.specs.Tables.{IsEntryOf, names_of}
use Rattle.macho_symbols.specs.steps.Targets.{is_of_object}
use Rattle.macho_symbols.specs.Targets.{named_in}

-- the lists contain a name, where there are any
abbrev pub is_listed_in : Option ListEntries → List ℕ → Bool
is_listed_in None name = true
is_listed_in (Some e) name = is_within e name

-- the plain entries of the lists
abbrev pub required_in : Option ListEntries → List (List ℕ)
required_in None = []
required_in (Some e) = e.plain

-- what defines a name lets it be exported: an object that shows it, or a library where it is noted and there are lists
abbrev pub open_by : List (List ℕ) → Bool → List ℕ → Event → Sort → Bool
open_by noted lists name e Section = not e.row.hidden
open_by noted lists name e Absolute = not e.row.hidden
open_by noted lists name e Common = not e.row.hidden
open_by noted lists name e Offered = lists && list_any (bytes_eq name) noted
open_by noted lists name e Nowhere = false

abbrev pub open_of : List (List ℕ) → Bool → List ℕ → Option Event → Bool
open_of noted lists name None = false
open_of noted lists name (Some e) = open_by noted lists name e e.row.sort

unfoldable pub is_open_in : List FileRows → List (List ℕ) → Bool → List ℕ → Bool
is_open_in files noted lists name = open_of noted lists name (best_of name (events files))

unfoldable pub is_exported_in : List FileRows → List (List ℕ) → Option ListEntries → List ℕ → Bool
is_exported_in files noted list name = is_open_in files noted (is_some list) name && is_listed_in list name

-- the definition of a name is a weak one
abbrev pub weak_of : Option Event → Bool
weak_of None = false
weak_of (Some e) = is_of_object e.row.sort && e.row.weak

unfoldable pub weak_in : List FileRows → List ℕ → Bool
weak_in files name = weak_of (best_of name (events files))

-- a name is told with its target
abbrev pub IsToldIn : List FileRows → List (List ℕ) → ExportName → Type 0
IsToldIn files noted e = (e.target ≡ named_in files noted e.name.items) × (e.weak ≡ weak_in files e.name.items)

abbrev pub pair_names : List (Bor (List ℕ) × ℕ) → List (List ℕ)
pair_names pairs = map (λ p. p.0.now) pairs

-- names of entries, each with its entry's number
abbrev pub IsPairIn : List FileRows → List Entry → Bor (List ℕ) × ℕ → Type 0
IsPairIn files entries p = IsEntryOf files entries p.0.now p.1

-- the names among the first entries that pass a test
pub record AreFound (files : List FileRows) (entries : List Entry) (test : List ℕ → Bool) (count : ℕ)
    (pairs : List (Bor (List ℕ) × ℕ)) : Type 0 where
  pub each : All (IsPairIn files entries) pairs
  pub names : pair_names pairs ≡ filter test (take count (names_of files entries))

-- all names that pass a test, in rising order
pub record AreInOrder (test : List ℕ → Bool) (names : List (List ℕ)) : Type 0 where
  pub each : All (λ name. test name ≡ true) names
  pub whole : (name : List ℕ) → test name ≡ true → Contains names name
  pub rising : AreRising names

-- The first of some names are told.
pub record AreTold (files : List FileRows) (noted : List (List ℕ)) (names : List (List ℕ)) (es : List ExportName) : Type 0 where
  pub names_are : export_names es ≡ names
  pub each : All (IsToldIn files noted) es
