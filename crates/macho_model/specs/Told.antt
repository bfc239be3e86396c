-- What a link tells beside the bytes of its image: libraries, imports, exported names, and the number of fixups.
use Rattle.std.specs.Prelude.{◌≡◌, ℕ, Bool, true, false, List, map, All, AllPairs, Contains}
use Rattle.std.specs.Ordering.{nat_cmp}
use Rattle.std.specs.Cmp.Lexicographic.{slice_cmp}
use Rattle.std.specs.declared.cmp.Ordering.TheVariants.{Less}
use Rattle.macho_records.specs.Symbols.{is_weak_of}
use Rattle.macho_model.specs.declared.targets.Target.{Target}
use Rattle.macho_model.specs.Links.{Link}
use Rattle.macho_model.specs.Resolution.{SymbolId, entry_at}
use Rattle.macho_model.specs.Needs.{imports_of, import_library, libraries_needed}
use Rattle.macho_model.specs.Targets.{target_of_name}
use Rattle.macho_model.specs.Exports.{has_lists, is_listed, library_number, IsExported}
use Rattle.macho_model.specs.ImportTable.{fixup_count}

-- An import: the number of its library from 1, and its name.
pub record ToldImport : Type 0 where
  pub library : ℕ
  pub name : List ℕ

-- An exported name, what it leads to, and whether it gives way to others.
pub record ToldExport : Type 0 where
  pub name : List ℕ
  pub target : Target
  pub weak : Bool

unfoldable pub imports_told : Link → List ToldImport
imports_told l = map (λ name. record { library = library_number l (import_library l name); name = name }) (imports_of l)

-- a name is re-exported from a library: it is imported, and the lists contain it
abbrev pub IsReexported : Link → List ℕ → Type 0
IsReexported l name = Contains (imports_of l) name × (has_lists l ≡ true) × (is_listed l name ≡ true)

-- a name is exported: from an object, weak as its definition is; or re-exported from a library
pub data IsToldExport (l : Link) (name : List ℕ) : Bool → Type 0 where
  from_object : (s : SymbolId) → IsExported l name s → IsToldExport l name (is_weak_of (entry_at l s))
  from_library : IsReexported l name → IsToldExport l name false

-- The exported names, rising by their bytes, each once; all that are exported and no other.
pub record ExportsAreTold (l : Link) (exports : List ToldExport) : Type 0 where
  pub rising : AllPairs (λ a b. slice_cmp nat_cmp a.name b.name ≡ Less) exports
  pub each : All (λ e. IsToldExport l e.name e.weak × (e.target ≡ target_of_name l e.name)) exports
  pub all : (name : List ℕ) (weak : Bool) → IsToldExport l name weak → Contains (map (λ e. e.name) exports) name

-- The libraries, the imports and the number of fixups that are told are those of the link.
pub record IsTold (l : Link) (libraries : List (List ℕ)) (imports : List ToldImport) (fixups : ℕ) : Type 0 where
  pub libraries_are : libraries ≡ libraries_needed l
  pub imports_are : imports ≡ imports_told l
  pub fixups_are : fixups ≡ fixup_count l
