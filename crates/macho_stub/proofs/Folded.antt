-- Documents and items of the grammar as they are read: entry by entry, each adding to what is known, and at the end no key
-- is lacking. Their trees are the grammar's, and what is known are slices. `Mappings` shows that these are the documents
-- and items of the grammar.
use Rattle.std.specs.Prelude.{◌≡◌, ℕ, ◌<◌, false, List, [], ◌∷◌, Option, Some, is_some, unwrap_or}
use Rattle.macho_stub_lines.specs.declared.keys.ItemKind.{ItemKind}
use Rattle.macho_stub_lines.specs.declared.keys.ItemKind.TheVariants.{Libraries, Exports, Reexports}
use Rattle.macho_stub_lines.specs.declared.keys.ItemKey.{ItemKey}
use Rattle.macho_stub_lines.specs.declared.keys.ItemKey.TheVariants as item
use Rattle.macho_stub_lines.specs.declared.keys.TopKey.{TopKey}
use Rattle.macho_stub_lines.specs.declared.keys.TopKey.TheVariants as top
use Rattle.macho_stub_lines.specs.Slices.{Slice}
use Rattle.macho_stub_lines.specs.Spelling.{IsEntry, value_of, value_at, IsScalarValue, IsNumberValue}
use Rattle.macho_stub_lines.specs.FlowLists.{IsFlowList}
use Rattle.macho_stub_lines.specs.Keys.{top_key, item_key}
use Rattle.macho_stub.specs.Documents.{ItemOf, DocumentOf}
use Rattle.macho_stub.specs.steps.Opened.{OpenItemOf, OpenDocumentOf, no_item, head_at, has_key, with_key, has_items, with_items}
use Rattle.macho_stub.specs.Places.{ItemTree, column_of, no_text}
use Rattle.macho_stub.specs.steps.Trees.{IsSkipped, is_deeper, ItemEntry, item_value_at, Under, Lines, Listed, IsSkippedUnder, IsListUnder, TopEntry, DocumentTree}

-- ---- items

-- A key of an item that didn't stand before has a flow list of names.
pub record GivesNames (column : ℕ) (key : ItemKey) (one : ItemEntry) (old new : OpenItemOf Slice) : Type 0 where
  pub first_time : has_key key old ≡ false
  pub names : List Slice
  pub list : IsFlowList (item_value_at column one) (value_of one.entry) one.more names
  pub gives : new ≡ with_key key names old

-- The value of a key of an item, in this column, takes what is known of the item from `old` to `new`.
abbrev pub ItemValue : ℕ → ItemKey → ItemEntry → OpenItemOf Slice → OpenItemOf Slice → Type 0
ItemValue column item.Unread one old new =
    IsSkipped (is_deeper column) (item_value_at column one) (value_of one.entry) one.more × (new ≡ old)
ItemValue column item.Targets one old new = GivesNames column item.Targets one old new
ItemValue column item.Names one old new = GivesNames column item.Names one old new
ItemValue column item.WeakNames one old new = GivesNames column item.WeakNames one old new

-- an entry of an item
pub record IsItemEntry (kind : ItemKind) (column : ℕ) (one : ItemEntry) (old new : OpenItemOf Slice) : Type 0 where
  pub entry : IsEntry one.entry
  pub value : ItemValue column (item_key kind one.entry.key) one old new

-- entries one after the other
abbrev pub ItemEntries : ItemKind → ℕ → List ItemEntry → OpenItemOf Slice → OpenItemOf Slice → Type 0
ItemEntries kind column [] old new = new ≡ old
ItemEntries kind column (one ∷ others) old new =
    (mid : OpenItemOf Slice) × IsItemEntry kind column one old mid × ItemEntries kind column others mid new

-- The names of an item: an item of libraries must have them, an item of symbols may lack them.
abbrev pub AreNamesOf : ItemKind → Option (List Slice) → List Slice → Type 0
AreNamesOf Libraries read names = read ≡ Some names
AreNamesOf Exports read names = names ≡ unwrap_or read []
AreNamesOf Reexports read names = names ≡ unwrap_or read []

-- No key that an item must have is lacking, and this is what it says.
pub record IsWholeItem (kind : ItemKind) (read : OpenItemOf Slice) (says : ItemOf Slice) : Type 0 where
  pub targets : read.targets ≡ Some says.targets
  pub names : AreNamesOf kind read.names says.names
  pub weak_names : says.weak_names ≡ unwrap_or read.weak_names []

-- an item that says this
pub record IsItem (kind : ItemKind) (dash_column : ℕ) (tree : ItemTree) (says : ItemOf Slice) : Type 0 where
  pub spaced : 0 < tree.gap
  pub read : OpenItemOf Slice
  pub entries : ItemEntries kind (column_of dash_column tree) (tree.first ∷ tree.others) no_item read
  pub whole : IsWholeItem kind read says

-- items one after the other, and what each says
abbrev pub AreItems : ItemKind → ℕ → List ItemTree → List (ItemOf Slice) → Type 0
AreItems kind dash_column [] [] = Unit {0}
AreItems kind dash_column [] (one ∷ says) = ⊥
AreItems kind dash_column (tree ∷ trees) [] = ⊥
AreItems kind dash_column (tree ∷ trees) (one ∷ says) = IsItem kind dash_column tree one × AreItems kind dash_column trees says

-- ---- documents

-- a key with items, one or more
abbrev pub AreItemsUnder : ItemKind → Under → List (ItemOf Slice) → Type 0
AreItemsUnder kind (Lines more) says = ⊥
AreItemsUnder kind (Listed dash_column []) says = ⊥
AreItemsUnder kind (Listed dash_column (tree ∷ trees)) says = AreItems kind dash_column (tree ∷ trees) says

-- The value of a key of a document takes what is known of the document from `old` to `new`. No key that is read
-- stands twice.
abbrev pub TopValue : TopKey → TopEntry → OpenDocumentOf Slice → OpenDocumentOf Slice → Type 0
TopValue top.Version one old new =
    (is_some old.version ≡ false) × (one.under ≡ Lines []) × (version : Slice)
    × IsNumberValue (value_at one.at one.entry) (value_of one.entry) version × (new ≡ record old { version = Some version })
TopValue top.Targets one old new =
    (is_some old.targets ≡ false) × (names : List Slice)
    × IsListUnder (value_at one.at one.entry) (value_of one.entry) one.under names × (new ≡ record old { targets = Some names })
TopValue top.InstallName one old new =
    (is_some old.install_name ≡ false) × (one.under ≡ Lines []) × (text : Slice)
    × IsScalarValue (value_at one.at one.entry) (value_of one.entry) text × (new ≡ record old { install_name = Some text })
TopValue top.CurrentVersion one old new =
    (is_some old.current_version ≡ false) × (one.under ≡ Lines []) × (text : Slice)
    × IsScalarValue (value_at one.at one.entry) (value_of one.entry) text × (new ≡ record old { current_version = Some text })
TopValue (top.Items kind) one old new =
    (has_items kind old ≡ false) × (value_of one.entry ≡ []) × (says : List (ItemOf Slice))
    × AreItemsUnder kind one.under says × (new ≡ with_items kind says old)
TopValue top.Unread one old new = IsSkippedUnder (value_at one.at one.entry) (value_of one.entry) one.under × (new ≡ old)

-- an entry of a document
pub record IsTopEntry (one : TopEntry) (old new : OpenDocumentOf Slice) : Type 0 where
  pub entry : IsEntry one.entry
  pub value : TopValue (top_key one.entry.key) one old new

-- entries of a document one after the other
abbrev pub TopEntries : List TopEntry → OpenDocumentOf Slice → OpenDocumentOf Slice → Type 0
TopEntries [] old new = new ≡ old
TopEntries (one ∷ others) old new = (mid : OpenDocumentOf Slice) × IsTopEntry one old mid × TopEntries others mid new

-- No key that a document must have is lacking, and this is what it says.
pub record IsWholeDocument (read : OpenDocumentOf Slice) (says : DocumentOf Slice) : Type 0 where
  pub line : says.line ≡ read.line
  pub version : read.version ≡ Some says.version
  pub targets : read.targets ≡ Some says.targets
  pub install_name : read.install_name ≡ Some says.install_name
  pub current_version : says.current_version ≡ unwrap_or read.current_version no_text
  pub libraries : says.libraries ≡ unwrap_or read.libraries []
  pub exports : says.exports ≡ unwrap_or read.exports []
  pub reexports : says.reexports ≡ unwrap_or read.reexports []

-- a document that says this
pub record IsDocument (tree : DocumentTree) (says : DocumentOf Slice) : Type 0 where
  pub read : OpenDocumentOf Slice
  pub entries : TopEntries tree.entries (head_at tree.number) read
  pub whole : IsWholeDocument read says

-- documents one after the other, and what each says
abbrev pub AreDocuments : List DocumentTree → List (DocumentOf Slice) → Type 0
AreDocuments [] [] = Unit {0}
AreDocuments [] (one ∷ says) = ⊥
AreDocuments (tree ∷ trees) [] = ⊥
AreDocuments (tree ∷ trees) (one ∷ says) = IsDocument tree one × AreDocuments trees says
