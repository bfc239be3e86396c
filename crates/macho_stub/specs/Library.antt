-- The library that the documents of a stub text make: its names, and the symbols as they are gathered.
use Rattle.std.specs.Prelude.{ℕ, Bool, List, ◌++◌, codes}
use Rattle.std.specs.List.{flat_map, filter, list_any}
use Rattle.std.specs.Str.{bytes_eq}
use Rattle.macho_stub.specs.declared.library.DefinedStubLibrary.{DefinedStubLibrary}
use Rattle.macho_stub_lines.specs.Lists.{texts}
use Rattle.macho_stub.specs.Documents.{ItemFields, DocumentFields}

-- the targets hold the one that is linked for
unfoldable pub has_target : List (List ℕ) → Bool
has_target targets = list_any (λ name. bytes_eq name (codes "arm64e-macos")) targets

-- These names of the items that are for the target: by document, those of its exports and then those of its reexports.
abbrev pub gathered : (ItemFields → List (List ℕ)) → List DocumentFields → List (List ℕ)
gathered names documents =
    flat_map (λ d. flat_map names (filter (λ item. has_target item.targets) (d.exports ++ d.reexports))) documents

-- what a library's documents say of it
pub record LibraryFields : Type 0 where
  pub install_name : List ℕ
  pub current_version : List ℕ
  pub symbols : List (List ℕ)
  pub weak_symbols : List (List ℕ)

abbrev pub library_fields : DefinedStubLibrary → LibraryFields
library_fields library = record {
  install_name = library.install_name.now;
  current_version = library.current_version.now;
  symbols = texts library.symbols.items;
  weak_symbols = texts library.weak_symbols.items;
}
