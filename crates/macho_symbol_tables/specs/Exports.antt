-- The exported names of a link, as the exports trie is made from them.
use Rattle.std.specs.Prelude.{◌≡◌, ℕ, List, map, All}
use Rattle.macho_model.specs.Links.{Link}
use Rattle.macho_model.specs.Needs.{imports_of, libraries_needed}
use Rattle.macho_model.specs.Told.{ToldExport}
use Rattle.macho_promise.specs.Views.{IsPlain}
use Rattle.macho_symbols.specs.declared.exports.ExportName.{ExportName}
use Rattle.macho_symbols.specs.declared.solved.Import.{Import}
use Rattle.macho_symbols.specs.Exported.{AreExports}
use Rattle.macho_answer.specs.Linked.{export_of}
use Rattle.macho_symbols.specs.Told.{ImportsAre}
use Rattle.macho_trie.specs.Sorting.{AreDistinct, HaveNoNul}
use Rattle.macho_linkedit.specs.declared.exports.NamedExport.{NamedExport}
use Rattle.macho_linkedit.specs.Tries.{names_in}

-- exported names as they are told
abbrev pub exports_told : List ExportName → List ToldExport
exports_told exports = map export_of exports

-- These are the exports of a link, its imports, and the libraries that it needs.
pub record AreExportsOf (l : Link) (exports : List ExportName) (imports : List Import) (libraries : List (List ℕ)) : Type 0 where
  pub exports_are : AreExports l (imports_of l) exports
  pub imports_are : ImportsAre l (imports_of l) imports
  pub libraries_are : libraries ≡ libraries_needed l

-- no name of an import has a NUL
abbrev pub ImportsArePlain : Link → Type 0
ImportsArePlain l = All IsPlain (imports_of l)

-- A trie can be made of these names: no two are equal, and none has a NUL.
pub record CanBeTrie (exports : List NamedExport) : Type 0 where
  pub distinct : AreDistinct (names_in exports)
  pub plain : HaveNoNul (names_in exports)
