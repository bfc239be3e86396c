-- The import table of a link, before it stands in a file: an entry for each import by its number, then those that pointers need
-- of their own, and the names of the imports (`mach-o/fixup-chains.h`).
use Rattle.std.specs.Prelude.{◌≡◌, ℕ, ◌+◌, ◌<◌, ◌≤◌, true, ◌≢◌, List, [], ◌∷◌, length, map, get_or, sum_by, All, ◌^◌}
use Rattle.std.specs.declared.vec.Vec.{Vec}
use Rattle.std.specs.declared.alloc.Global.{Global}
use Rattle.std.specs.Int.{w32, cast_unsigned}
use Rattle.macho_bytes.specs.Numbers.{signed}
use Rattle.macho_model.specs.Links.{Link}
use Rattle.macho_model.specs.Needs.{imports_of, import_library, libraries_needed}
use Rattle.macho_model.specs.Exports.{library_number}
use Rattle.macho_model.specs.Values.{fits_signed}
use Rattle.macho_model.specs.Fixups.{EntryOfImport, own_entries, import_entries_of, import_format}
use Rattle.macho_model.specs.ImportTable.{names_text, name_place, entry_of_link}
use Rattle.macho_bytes.specs.Texts.{Stands}
use Rattle.macho_model.specs.Images.{Table, tables_of}
use Rattle.macho_fixups.specs.declared.run.Fixup.{Fixup}
use Rattle.macho_fixups.specs.declared.run.FixupSegment.{FixupSegment}
use Rattle.macho_fixups.specs.Tables.{table_text, names_place}
use Rattle.macho_fixups.specs.Readings.{TableReadsBack}
use Rattle.macho_symbols.specs.declared.solved.Import.{Import}
use Rattle.macho_symbols.specs.Told.{ImportsAre}
use Rattle.macho_symbols.specs.Entries.{entry_of}
use Rattle.macho_fixups.specs.declared.imports.ImportEntry.{ImportEntry}
use Rattle.macho_symbols.specs.declared.solved.OwnEntry.{OwnEntry}

-- texts by their bytes
abbrev pub texts : List (Vec ℕ Global) → List (List ℕ)
texts names = map (λ name. name.items) names

-- the bytes of the names with their NULs
abbrev pub name_bytes : List Import → ℕ
name_bytes imports = sum_by (λ i. length i.name.items + 1) imports

-- The numbers are within the limits of the format, and an own entry is one of an import, with an addend of 32 bits.
pub record FitTable (imports : List Import) (own : List OwnEntry) (libraries : List (Vec ℕ Global)) : Type 0 where
  pub libraries_few : length libraries ≤ 240
  pub entries_few : length imports + length own ≤ 2 ^ 24
  pub names_short : name_bytes imports ≤ 2 ^ 23
  pub among : All (λ o. o.import < length imports) own
  pub addends : All (λ o. fits_signed 32 o.addend ≡ true) own

-- These are the imports of a link, its own entries, and the libraries that it needs.
pub record AreOfLink (l : Link) (imports : List Import) (own : List OwnEntry) (libraries : List (Vec ℕ Global)) : Type 0 where
  pub imports_are : ImportsAre l (imports_of l) imports
  pub own_are : map entry_of own ≡ own_entries l
  pub libraries_are : texts libraries ≡ libraries_needed l

-- An entry says the number of the import's library, the place of the import's name, and the addend modulo 2 ^ 64.
pub record IsEntryFor (l : Link) (d : EntryOfImport) (e : ImportEntry) : Type 0 where
  pub library : e.library ≡ library_number l (import_library l (get_or (imports_of l) d.import []))
  pub place : e.name_offset ≡ name_place l d.import
  pub addend : signed 32 (cast_unsigned w32 e.addend) ≡ d.addend

-- the entries are those of a link, in order
pub record AreEntriesOf (l : Link) (entries : List ImportEntry) : Type 0 where
  pub long : length entries ≡ length (import_entries_of l)
  pub each : (k : ℕ) (d : ImportEntry) → k < length entries → IsEntryFor l (entry_of_link l k) (get_or entries k d)

-- THE import table of a link.
pub record IsImportTable (l : Link) (format : ℕ) (entries : List ImportEntry) (names : List ℕ) : Type 0 where
  pub format_is : format ≡ import_format l
  pub entries_are : AreEntriesOf l entries
  pub names_are : names ≡ names_text l

-- The names of imports hold no NUL, and there are few enough libraries that a number of one fits a byte.
pub record AreTellable (l : Link) : Type 0 where
  pub plain : All (λ name. All (λ c. c ≢ 0) name) (imports_of l)
  pub libraries_few : length (libraries_needed l) ≤ 240

-- A table of these fixups, entries and names stands in a file at the range of the file's one table, whole, and is read back.
pub record TableStands (b : List ℕ) (t : Table) (base : ℕ) (fixups : List Fixup) (segments : List FixupSegment) (format : ℕ)
    (entries : List ImportEntry)
    (names : List ℕ) : Type 0 where
  pub one : tables_of b ≡ t ∷ []
  pub text : Stands b (record { at = t.at; text = table_text base fixups segments format entries names })
  pub room : names_place fixups segments format entries + length names ≤ t.size
  pub reads : TableReadsBack base fixups segments format entries names
