-- What items and documents say, in texts alone and in slices of the input.
use Rattle.std.specs.Prelude.{ℕ, List, map}
use Rattle.macho_stub_lines.specs.Slices.{Slice, texts_of}

-- What an item says: its targets, its libraries or symbols, and its weak symbols. The texts are of a type T: bytes alone in `Grammar` and
-- in the reader, slices of the input in `Places`.
pub record ItemOf (T : Type 0) : Type 0 where
  pub targets : List T
  pub names : List T
  pub weak_names : List T

-- What a document says, and the line of its head. Where no current version stands, it is empty.
pub record DocumentOf (T : Type 0) : Type 0 where
  pub line : ℕ
  pub version : T
  pub targets : List T
  pub install_name : T
  pub current_version : T
  pub libraries : List (ItemOf T)
  pub exports : List (ItemOf T)
  pub reexports : List (ItemOf T)

abbrev pub ItemFields : Type 0
ItemFields = ItemOf (List ℕ)

abbrev pub DocumentFields : Type 0
DocumentFields = DocumentOf (List ℕ)

-- the texts alone of what `Places` says in slices
abbrev pub item_texts : ItemOf Slice → ItemFields
item_texts item = record {
  targets = texts_of item.targets;
  names = texts_of item.names;
  weak_names = texts_of item.weak_names;
}

abbrev pub document_texts : DocumentOf Slice → DocumentFields
document_texts document = record {
  line = document.line;
  version = document.version.text;
  targets = texts_of document.targets;
  install_name = document.install_name.text;
  current_version = document.current_version.text;
  libraries = map item_texts document.libraries;
  exports = map item_texts document.exports;
  reexports = map item_texts document.reexports;
}

abbrev pub documents_texts : List (DocumentOf Slice) → List DocumentFields
documents_texts documents = map document_texts documents
