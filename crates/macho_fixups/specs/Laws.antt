-- Laws on the room that is kept for a table, on the table of a file, and on bytes beside the words.
use Rattle.std.specs.Prelude.{◌≡◌, ◌≢◌, ℕ, ◌+◌, ◌-◌, ◌/◌, ◌%◌, ◌<◌, ◌≤◌, ◌⊎◌, true, false, List, [], ◌∷◌, ◌++◌, length, drop, get_or, slice_index, All, Contains}
use Rattle.macho_bytes.specs.Texts.{Stands}
use Rattle.macho_model.specs.ObjectRules.{has_nul}
use Rattle.macho_model.specs.Images.{Table, tables_of, starts_count, import_entry, import_name, table_names}
use Rattle.macho_model.specs.Segments.{SEGMENT_PAGE}
use Rattle.macho_model.specs.Chain.{chain_segments}
use Rattle.macho_model.specs.Needs.{POINTER_SIZE}
use Rattle.macho_fixups.specs.declared.run.Fixup.{Fixup}
use Rattle.macho_fixups.specs.declared.run.FixupSegment.{FixupSegment}
use Rattle.macho_fixups.specs.declared.imports.ImportEntry.{ImportEntry}
use Rattle.macho_fixups.specs.Runs.{AreFixups, AreSegments, Holds, is_in, pages_of}
use Rattle.macho_fixups.specs.Chains.{place_of, AreWritten}
use Rattle.macho_fixups.specs.Tables.{table_room, names_place}
use Rattle.macho_fixups.specs.Readings.{IsRead, AreSegmentsOf, told_segments}

-- whatever the fixups, a segment has no more pages with chains than its file part has
abbrev pub PagesAreBounded : Type 0
PagesAreBounded =
    (s : FixupSegment) (fixups : List Fixup) → s.address % SEGMENT_PAGE ≡ 0
    → pages_of s fixups ≤ (s.file_size + (SEGMENT_PAGE - 1)) / SEGMENT_PAGE

-- a table of more needs no less room
abbrev pub RoomGrows : Type 0
RoomGrows =
    (size entries more_entries names more_names pages more_pages : ℕ) → entries ≤ more_entries → names ≤ more_names → pages ≤ more_pages
    → table_room entries size names pages ≤ table_room more_entries size more_names more_pages

-- a segment without a fixup has no pages with chains
abbrev pub NoFixupNoPages : Type 0
NoFixupNoPages = (s : FixupSegment) (fixups : List Fixup) → All (λ f. is_in s f.address ≡ false) fixups → pages_of s fixups ≡ 0

-- the place of a word in the file, counted from that of the segment that holds it
abbrev pub PlacesAreInSegments : Type 0
PlacesAreInSegments =
    (segments : List FixupSegment) (s : FixupSegment) (a : ℕ) → AreSegments segments → Contains segments s → Holds s a
    → place_of segments a ≡ s.file_offset + (a - s.address)

-- the chains of a file with one table, which tells of each of its segments, are those that the table tells
abbrev pub ChainsAreTold : Type 0
ChainsAreTold =
    (b : List ℕ) (t : Table) (segments : List FixupSegment) → tables_of b ≡ t ∷ [] → starts_count b t ≡ length segments
    → AreSegmentsOf b segments → chain_segments b ≡ told_segments b t segments

-- A name stands among the names at a place: its bytes, none of them 0, and a NUL.
pub record IsNameAt (names : List ℕ) (at : ℕ) (name : List ℕ) : Type 0 where
  pub stands : Stands names (record { at = at; text = name ++ 0 ∷ [] })
  pub plain : All (λ c. c ≢ 0) name

-- The name of import k is read, and a NUL ends it in the table.
pub record NameIsRead (b : List ℕ) (t : Table) (k : ℕ) (name : List ℕ) : Type 0 where
  pub is : import_name b t (import_entry b t k) ≡ name
  pub ends : has_nul (drop (import_entry b t k).name_offset (table_names b t)) ≡ true

-- names are read back where they lie in the table's range
abbrev pub NamesAreRead : Type 0
NamesAreRead =
    (b : List ℕ) (t : Table) (fixups : List Fixup) (segments : List FixupSegment) (format : ℕ) (imports : List ImportEntry) (names : List ℕ)
    (k : ℕ) (d : ImportEntry) (name : List ℕ) → IsRead b t fixups segments format imports names
    → names_place fixups segments format imports + length names ≤ t.size → k < length imports
    → IsNameAt names (get_or imports k d).name_offset name → NameIsRead b t k name

-- All words of a run are written over a file.
pub record IsRunOver (segments : List FixupSegment) (fixups : List Fixup) (before now : List ℕ) : Type 0 where
  pub order : AreSegments segments
  pub run : AreFixups segments fixups
  pub written : AreWritten segments fixups (length fixups) before now

-- a text of a segment's file part whose addresses are apart from all words stands as before
abbrev pub TextsStay : Type 0
TextsStay =
    (segments : List FixupSegment) (fixups : List Fixup) (before now : List ℕ) (s : FixupSegment) (a : ℕ) (text : List ℕ)
    → IsRunOver segments fixups before now → Contains segments s → s.address ≤ a → a + length text ≤ s.address + s.file_size
    → All (λ f. (a + length text ≤ f.address) ⊎ (f.address + POINTER_SIZE ≤ a)) fixups
    → Stands before (record { at = s.file_offset + (a - s.address); text = text })
    → Stands now (record { at = s.file_offset + (a - s.address); text = text })

-- so does a byte that no word covers
abbrev pub BytesStay : Type 0
BytesStay =
    (segments : List FixupSegment) (fixups : List Fixup) (before now : List ℕ) (s : FixupSegment) (a : ℕ)
    → IsRunOver segments fixups before now → Contains segments s → s.address ≤ a → a < s.address + s.file_size
    → All (λ f. (a < f.address) ⊎ (f.address + POINTER_SIZE ≤ a)) fixups
    → slice_index now (s.file_offset + (a - s.address)) ≡ slice_index before (s.file_offset + (a - s.address))
