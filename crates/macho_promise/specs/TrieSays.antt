-- What the exports trie of an image says: look-up of a name finds exactly what is exported under it.
use Rattle.std.specs.Prelude.{◌≡◌, ℕ, ◌+◌, ◌≤◌, ◌⊎◌, ◌↔◌, List, [], ◌∷◌, length, slice_range, All, Contains, if◌then◌else◌}
use Rattle.macho_model.specs.declared.targets.Target.{Target}
use Rattle.macho_model.specs.declared.targets.Target.TheVariants as target
use Rattle.macho_model.specs.declared.placed.PlacedCommon.{PlacedCommon}
use Rattle.macho_model.specs.Links.{Link}
use Rattle.macho_model.specs.Resolution.{SymbolId, entry_at}
use Rattle.macho_model.specs.Needs.{import_library}
use Rattle.macho_model.specs.Targets.{target_of_name}
use Rattle.macho_model.specs.Placement.{Placed}
use Rattle.macho_model.specs.Stands.{SectionAt}
use Rattle.macho_model.specs.Images.{Table, tries_of}
use Rattle.macho_model.specs.Exports.{FLAG_ABSOLUTE, IsExported, section_flag, library_number, FLAG_WEAK}
use Rattle.macho_model.specs.Told.{IsReexported}
use Rattle.macho_trie.specs.Exports.{Exported, as_value, as_reexport, REEXPORT}
use Rattle.macho_trie.specs.Lookup.{trie_finds}
use Rattle.macho_trie.specs.Encoding.{IsExportsTrie}
use Rattle.macho_model.specs.SymbolTests.{is_weak_of}

-- the flags and the value of a target: an address less the base, or an absolute value
abbrev pub ValueOf : Link → Placed → ℕ → Target → Exported → Type 0
ValueOf l p weak (target.Section file section offset) x =
    (address : ℕ) × (value : ℕ) × SectionAt p file section address × (value + p.base ≡ address + offset)
    × (x ≡ as_value (section_flag l file section + weak) value)
ValueOf l p weak (target.Common id) x =
    (c : PlacedCommon) × (value : ℕ) × Contains p.commons c × (c.id ≡ id) × (value + p.base ≡ c.address) × (x ≡ as_value weak value)
ValueOf l p weak (target.Absolute value) x = x ≡ as_value (FLAG_ABSOLUTE + weak) value
ValueOf l p weak t x = ⊥

-- A name is exported as something: from an object, or re-exported from a library. What is re-exported keeps its name, which is written
-- as the empty one.
pub data ExportedAs (l : Link) (p : Placed) (name : List ℕ) : Exported → Type 0 where
  from_object : (s : SymbolId) (x : Exported) → IsExported l name s
      → ValueOf l p (if is_weak_of (entry_at l s) then FLAG_WEAK else 0) (target_of_name l name) x → ExportedAs l p name x
  from_library : IsReexported l name → ExportedAs l p name (as_reexport REEXPORT (library_number l (import_library l name)) [])

-- bytes that are a whole trie and no more: none for no symbols, else the nodes of their tree
abbrev pub IsTrieText : List (List ℕ × Exported) → List ℕ → Type 0
IsTrieText symbols bytes = ((symbols ≡ []) × (bytes ≡ [])) ⊎ ((1 ≤ length symbols) × IsExportsTrie symbols bytes)

abbrev pub table_bytes : List ℕ → Table → List ℕ
table_bytes b t = slice_range b t.at (t.at + t.size)

-- THE exports trie of the file.
pub record TrieSays (l : Link) (b : List ℕ) (p : Placed) : Type 0 where
  -- the file's one exports trie
  pub table : Table
  pub one : tries_of b ≡ table ∷ []
  -- look-up of a name finds exactly what it is exported as
  pub finds : (name : List ℕ) (x : Exported) → trie_finds (table_bytes b table) name x ↔ ExportedAs l p name x
  -- the range that the command tells is the trie of exported names, to its last byte
  pub symbols : List (List ℕ × Exported)
  pub sound : All (λ s. ExportedAs l p s.0 s.1) symbols
  pub exact : IsTrieText symbols (table_bytes b table)
