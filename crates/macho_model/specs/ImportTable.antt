-- The import table of an image, the libraries that it needs, and how many words of it the loader writes
-- (`mach-o/fixup-chains.h`).
use Rattle.std.specs.Prelude.{◌≡◌, ℕ, ◌+◌, ◌<◌, List, [], ◌∷◌, ◌++◌, length, filter, get_or, take, sum_by, slice_range}
use Rattle.std.specs.List.{flat_map}
use Rattle.macho_records.specs.Numbers.{le_at, bits}
use Rattle.macho_model.specs.Links.{Link, carried_of}
use Rattle.macho_model.specs.Needs.{imports_of, import_library, libraries_needed}
use Rattle.macho_model.specs.Targets.{slots_of}
use Rattle.macho_model.specs.Fields.{fields_of}
use Rattle.macho_model.specs.Images.{Table, tables_of, libraries_of, fixups_header, import_place, import_entry, import_name}
use Rattle.macho_model.specs.Values.{needs_fixup}
use Rattle.macho_model.specs.Fixups.{EntryOfImport, import_entries_of, import_format}
use Rattle.macho_model.specs.Exports.{library_number}

-- how many words the loader writes: one for each slot, and one for each pointer that needs a fixup
unfoldable pub fixup_count : Link → ℕ
fixup_count l = length (slots_of l) + length (flat_map (λ s. filter (needs_fixup l s) (fields_of l s)) (carried_of l))

-- the names of all imports, each once, with its NUL
unfoldable pub names_text : Link → List ℕ
names_text l = flat_map (λ name. name ++ 0 ∷ []) (imports_of l)

-- an entry of the link by its number, and the name of its import
abbrev pub entry_of_link : Link → ℕ → EntryOfImport
entry_of_link l k = get_or (import_entries_of l) k (record { import = 0; addend = 0 })

abbrev pub name_of_entry : Link → ℕ → List ℕ
name_of_entry l k = get_or (imports_of l) (entry_of_link l k).import []

-- the place of an import's name: behind those before it
abbrev pub name_place : Link → ℕ → ℕ
name_place l import = sum_by (λ name. length name + 1) (take import (imports_of l))

-- an entry of the file says the number of the import's library, its name by its place, and the addend; it is not weak
pub record EntrySays (l : Link) (b : List ℕ) (t : Table) (k : ℕ) : Type 0 where
  pub library : (import_entry b t k).library ≡ library_number l (import_library l (name_of_entry l k))
  pub weak : bits 8 1 (le_at 4 b (import_place b t k)) ≡ 0
  pub place : (import_entry b t k).name_offset ≡ name_place l (entry_of_link l k).import
  pub name : import_name b t (import_entry b t k) ≡ name_of_entry l k
  pub addend : (import_entry b t k).addend ≡ (entry_of_link l k).addend

-- THE import table of the file is that of the link.
pub record ImportTableSays (l : Link) (b : List ℕ) : Type 0 where
  -- the file's one fixup table, which the import table is in
  pub table : Table
  pub one : tables_of b ≡ table ∷ []
  -- the entries have room for addends exactly where some pointer needs one
  pub format : (fixups_header b table).imports_format ≡ import_format l
  -- there are as many entries as the link has
  pub count : (fixups_header b table).imports_count ≡ length (import_entries_of l)
  -- each with its library, name and addend, and none weak
  pub entries : (k : ℕ) → k < length (import_entries_of l) → EntrySays l b table k
  -- the names, each once, in order
  pub names : slice_range b (table.at + (fixups_header b table).symbols_offset)
      (table.at + (fixups_header b table).symbols_offset + length (names_text l)) ≡ names_text l

-- the libraries that the file names are those that the link needs, in order
abbrev pub LibrariesSay : Link → List ℕ → Type 0
LibrariesSay l b = libraries_of b ≡ libraries_needed l
