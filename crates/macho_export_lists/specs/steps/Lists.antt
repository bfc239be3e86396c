-- How an export list is kept: its entries, and a table of the places at which plain entries stand first.
use Rattle.std.specs.Prelude.{◌≡◌, ℕ, List, [], ◌++◌, not, true, filter, Some}
use Rattle.std.specs.List.{list_any, position_or_len}
use Rattle.std.specs.Str.{bytes_eq}
use Rattle.std.specs.HashMap.{HashMap, get_by}
use Rattle.std.specs.declared.vec.Vec.{Vec}
use Rattle.macho_export_lists.specs.steps.Lines.{is_pattern}
use Rattle.macho_model.specs.ExportLists.{entries_of}
use Rattle.macho_export_lists.specs.Entries.{ListEntries}

-- Each plain entry is found at the place where it stands first.
pub record ArePlaces {A S : Type 0} (plain : List (List ℕ)) (places : HashMap (Vec ℕ A) ℕ S) : Type 0 where
  pub found : (q : List ℕ) → list_any (bytes_eq q) plain ≡ true
      → get_by (λ k. bytes_eq q k.items) places ≡ Some (position_or_len (bytes_eq q) plain)

abbrev pub no_entries : ListEntries
no_entries = record { plain = []; patterns = [] }

-- Entries were added behind the others.
pub record Adds (old new : ListEntries) (entries : List (List ℕ)) : Type 0 where
  pub plain : new.plain ≡ old.plain ++ filter (λ e. not (is_pattern e)) entries
  pub patterns : new.patterns ≡ old.patterns ++ filter is_pattern entries

-- Some entries were added behind the others.
pub record IsLonger (old new : ListEntries) : Type 0 where
  pub entries : List (List ℕ)
  pub adds : Adds old new entries

-- Of a text some lines were read, and their entries added.
pub record IsReading (start now : ListEntries) (text left : List ℕ) : Type 0 where
  pub entries : List (List ℕ)
  pub adds : Adds start now entries
  pub rest : entries_of text ≡ entries ++ entries_of left
