-- Items and documents as the reader has them: those that are being read, where a key may not have come, and what the
-- code's own types hold.
use Rattle.std.specs.Prelude.{ℕ, Bool, false, List, map, Option, Some, None, is_some}
use Rattle.std.specs.Option.{option_map}
use Rattle.std.specs.Borrow.{Bor}
use Rattle.macho_stub.specs.declared.document.Item.{Item}
use Rattle.macho_stub.specs.declared.document.OpenItem.{OpenItem}
use Rattle.macho_stub.specs.declared.document.Document.{Document}
use Rattle.macho_stub.specs.declared.document.OpenDocument.{OpenDocument}
use Rattle.macho_stub_lines.specs.declared.keys.ItemKind.{ItemKind}
use Rattle.macho_stub_lines.specs.declared.keys.ItemKind.TheVariants.{Libraries, Exports, Reexports}
use Rattle.macho_stub_lines.specs.declared.keys.ItemKey.{ItemKey}
use Rattle.macho_stub_lines.specs.declared.keys.ItemKey.TheVariants.{Targets, Names, WeakNames, Unread}
use Rattle.macho_stub_lines.specs.Lists.{texts}
use Rattle.macho_stub.specs.Documents.{ItemOf, ItemFields, DocumentFields}

-- What is known of an item that is being read.
pub record OpenItemOf (T : Type 0) : Type 0 where
  pub targets : Option (List T)
  pub names : Option (List T)
  pub weak_names : Option (List T)

-- What is known of a document that is being read.
pub record OpenDocumentOf (T : Type 0) : Type 0 where
  pub line : ℕ
  pub version : Option T
  pub targets : Option (List T)
  pub install_name : Option T
  pub current_version : Option T
  pub libraries : Option (List (ItemOf T))
  pub exports : Option (List (ItemOf T))
  pub reexports : Option (List (ItemOf T))

abbrev pub OpenItemFields : Type 0
OpenItemFields = OpenItemOf (List ℕ)

abbrev pub OpenDocumentFields : Type 0
OpenDocumentFields = OpenDocumentOf (List ℕ)

abbrev pub item_of : Item → ItemFields
item_of item = record {
  targets = texts item.targets.items;
  names = texts item.names.items;
  weak_names = texts
      item.weak_names.items;
}

abbrev pub open_item_of : OpenItem → OpenItemFields
open_item_of item = record {
  targets = option_map (λ names. texts names.items) item.targets;
  names = option_map (λ names. texts names.items) item.names;
  weak_names = option_map (λ names. texts names.items) item.weak_names;
}

abbrev pub items_of : List Item → List ItemFields
items_of items = map item_of items

abbrev pub document_of : Document → DocumentFields
document_of document = record {
  line = document.line;
  version = document.version.now;
  targets = texts document.targets.items;
  install_name = document.install_name.now;
  current_version = document.current_version.now;
  libraries = items_of document.libraries.items;
  exports = items_of document.exports.items;
  reexports = items_of document.reexports.items;
}

abbrev pub open_document_of : OpenDocument → OpenDocumentFields
open_document_of document = record {
  line = document.line;
  version = option_map (λ (text : Bor (List ℕ)). text.now) document.version;
  targets = option_map (λ names. texts names.items) document.targets;
  install_name = option_map (λ (text : Bor (List ℕ)). text.now) document.install_name;
  current_version = option_map (λ (text : Bor (List ℕ)). text.now) document.current_version;
  libraries = option_map (λ items. items_of items.items) document.libraries;
  exports = option_map (λ items. items_of items.items) document.exports;
  reexports = option_map (λ items. items_of items.items) document.reexports;
}

-- an item of which nothing was read
abbrev pub no_item : {T : Type 0} → OpenItemOf T
no_item = record { targets = None; names = None; weak_names = None }

-- a document of which the head was read
abbrev pub head_at : {T : Type 0} → ℕ → OpenDocumentOf T
head_at line = record {
  line = line;
  version = None;
  targets = None;
  install_name = None;
  current_version = None;
  libraries = None;
  exports = None;
  reexports = None;
}

-- the item has the key
abbrev pub has_key : {T : Type 0} → ItemKey → OpenItemOf T → Bool
has_key Targets item = is_some item.targets
has_key Names item = is_some item.names
has_key WeakNames item = is_some item.weak_names
has_key Unread item = false

-- the item with the names under the key
abbrev pub with_key : {T : Type 0} → ItemKey → List T → OpenItemOf T → OpenItemOf T
with_key Targets names item = record item { targets = Some names }
with_key Names names item = record item { names = Some names }
with_key WeakNames names item = record item { weak_names = Some names }
with_key Unread names item = item

-- the document with the list of a key of its own
abbrev pub with_top_key : {T : Type 0} → ItemKey → List T → OpenDocumentOf T → OpenDocumentOf T
with_top_key Targets names document = record document { targets = Some names }
with_top_key Names names document = document
with_top_key WeakNames names document = document
with_top_key Unread names document = document

-- the document has the list of items
abbrev pub has_items : {T : Type 0} → ItemKind → OpenDocumentOf T → Bool
has_items Libraries document = is_some document.libraries
has_items Exports document = is_some document.exports
has_items Reexports document = is_some document.reexports

-- the document with the list of items
abbrev pub with_items : {T : Type 0} → ItemKind → List (ItemOf T) → OpenDocumentOf T → OpenDocumentOf T
with_items Libraries items document = record document { libraries = Some items }
with_items Exports items document = record document { exports = Some items }
with_items Reexports items document = record document { reexports = Some items }
