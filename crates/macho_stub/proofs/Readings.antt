-- A stub text as it is read: trees of documents, entries and items, each with the lines that the reader takes for it.
-- A tree is spelled in front of the lines that follow it, and `number` is a line's number, counted from 1. What stands
-- on a line is what the reading of that line gives. This lies between the grammar with places (`specs/Places`), whose trees go down
-- to the bytes, and the reader: `Found` and `Only` lead from one to the other, and `Trees` to the grammar.
use Rattle.std.specs.Prelude.{◌≡◌, ◌≢◌, ℕ, ◌+◌, ◌<◌, ◌⊎◌, Bool, true, false, List, [], ◌∷◌, ◌++◌, length, replicate, Option, Some, None, Ok, is_some, nat_lt, slice_index, if◌then◌else◌}
use Rattle.std.specs.List.{AllByRecursion}
use Rattle.std.specs.Str.Lines.{lines}
use Rattle.macho_stub_lines.specs.declared.keys.ItemKind.{ItemKind}
use Rattle.macho_stub_lines.specs.declared.keys.ItemKey.{ItemKey}
use Rattle.macho_stub_lines.specs.declared.keys.ItemKey.TheVariants as item
use Rattle.macho_stub_lines.specs.declared.keys.TopKey.{TopKey}
use Rattle.macho_stub_lines.specs.declared.keys.TopKey.TheVariants as top
use Rattle.macho_stub_lines.specs.Bytes.{space, dash, open_bracket, indent, is_passed, has_barred, head, end, belongs_to_top}
use Rattle.macho_stub_lines.specs.ReadLists.{ReadLine, IsReadList}
use Rattle.macho_stub_lines.specs.Keys.{Entry, entry_at, scalar_value, version_value, top_key, item_key}
use Rattle.macho_stub.specs.Documents.{ItemFields, DocumentFields}
use Rattle.macho_stub.specs.steps.Opened.{OpenItemFields, OpenDocumentFields, no_item, head_at, has_key, with_key, has_items, with_items}
use Rattle.macho_stub.specs.steps.Whole.{whole_item, whole_document}

-- the lines with content, from this number on: those that aren't passed over
abbrev pub content_from : ℕ → List (List ℕ) → List ReadLine
content_from number [] = []
content_from number (text ∷ texts) =
    if is_passed text then content_from (number + 1) texts else record { number = number; text = text } ∷ content_from
    (number + 1) texts

-- ---- skipped values

-- The value and the lines under it are skipped: a flow list, or any other value with the lines that belong to it.
abbrev pub IsSkipped : (List ℕ → Bool) → ℕ → List ℕ → List ReadLine → Type 0
IsSkipped belongs number value more =
    ((names : List (List ℕ)) × IsReadList number value more names)
    ⊎ ((slice_index value 0 ≢ open_bracket) × AllByRecursion (λ line. belongs line.text ≡ true) more)

-- ---- items

-- An entry of an item: its line from the key on, and the lines under it.
pub record ItemEntry : Type 0 where
  pub number : ℕ
  pub head : List ℕ
  pub more : List ReadLine

-- its lines, with the key in this column, in front of others
abbrev pub entry_then : ℕ → ItemEntry → List ReadLine → List ReadLine
entry_then column entry rest = record { number = entry.number; text = replicate column space ++ entry.head } ∷
    (entry.more ++ rest)

-- the lines of entries in front of others
abbrev pub entries_then : ℕ → List ItemEntry → List ReadLine → List ReadLine
entries_then column [] rest = rest
entries_then column (entry ∷ entries) rest = entry_then column entry (entries_then column entries rest)

-- A line belongs to the skipped value of a key in this column: it begins with more spaces.
abbrev pub is_deeper : ℕ → List ℕ → Bool
is_deeper column text = nat_lt column (indent text)

-- A key of an item that didn't stand before has a flow list of names.
pub record GivesNames (key : ItemKey) (value : List ℕ) (entry : ItemEntry) (old new : OpenItemFields) : Type 0 where
  pub first_time : has_key key old ≡ false
  pub names : List (List ℕ)
  pub list : IsReadList entry.number value entry.more names
  pub gives : new ≡ with_key key names old

-- The value of a key of an item, in this column, takes what is known of the item from `old` to `new`.
abbrev pub ItemValue : ℕ → ItemKey → List ℕ → ItemEntry → OpenItemFields → OpenItemFields → Type 0
ItemValue column item.Unread value entry old new = IsSkipped (is_deeper column) entry.number value entry.more
    × (new ≡ old)
ItemValue column item.Targets value entry old new = GivesNames item.Targets value entry old new
ItemValue column item.Names value entry old new = GivesNames item.Names value entry old new
ItemValue column item.WeakNames value entry old new = GivesNames item.WeakNames value entry old new

-- an entry of an item
pub record IsItemEntry (kind : ItemKind) (column : ℕ) (entry : ItemEntry) (old new : OpenItemFields) : Type 0 where
  pub said : Entry
  pub key : entry_at entry.number entry.head ≡ Ok said
  pub value : ItemValue column (item_key kind said.key) said.value entry old new

-- entries one after the other
abbrev pub ItemEntries : ItemKind → ℕ → List ItemEntry → OpenItemFields → OpenItemFields → Type 0
ItemEntries kind column [] old new = new ≡ old
ItemEntries kind column (entry ∷ entries) old new = (mid : OpenItemFields) × IsItemEntry kind column entry old mid
    × ItemEntries kind column entries mid new

-- An item: a dash, spaces, the first entry, and the other entries in the column of the first one's key.
pub record ItemTree : Type 0 where
  pub gap : ℕ
  pub first : ItemEntry
  pub others : List ItemEntry

-- the column of its keys, where its dash is in this column
abbrev pub column_of : ℕ → ItemTree → ℕ
column_of at tree = at + 1 + tree.gap

-- its lines, with the dash in this column, in front of others
abbrev pub item_then : ℕ → ItemTree → List ReadLine → List ReadLine
item_then at tree rest =
    record {
      number = tree.first.number;
      text = replicate at space ++ dash ∷
          (replicate tree.gap space ++ tree.first.head);
    }
    ∷ (tree.first.more ++ entries_then (column_of at tree) tree.others rest)

-- the lines of items in front of others
abbrev pub items_then : ℕ → List ItemTree → List ReadLine → List ReadLine
items_then at [] rest = rest
items_then at (tree ∷ trees) rest = item_then at tree (items_then at trees rest)

-- An item that says this, in a document whose head stands at the line: no key that it must have is lacking.
pub record IsItem (line : ℕ) (kind : ItemKind) (at : ℕ) (tree : ItemTree) (says : ItemFields) : Type 0 where
  pub spaced : 0 < tree.gap
  pub read : OpenItemFields
  pub entries : ItemEntries kind (column_of at tree) (tree.first ∷ tree.others) no_item read
  pub whole : whole_item line kind read ≡ Ok says

-- items one after the other, and what each says
abbrev pub AreItems : ℕ → ItemKind → ℕ → List ItemTree → List ItemFields → Type 0
AreItems line kind at [] [] = Unit {0}
AreItems line kind at [] (one ∷ says) = ⊥
AreItems line kind at (tree ∷ trees) [] = ⊥
AreItems line kind at (tree ∷ trees) (one ∷ says) = IsItem line kind at tree one × AreItems line kind at trees says

-- ---- documents

-- What stands under a key of a document: lines, or items with their dashes in one column.
pub data Under : Type 0 where
  Plain : List ReadLine → Under
  Listed : ℕ → List ItemTree → Under

-- its lines in front of others
abbrev pub under_then : Under → List ReadLine → List ReadLine
under_then (Plain more) rest = more ++ rest
under_then (Listed at trees) rest = items_then at trees rest

-- An entry of a document: its line, and what stands under it.
pub record TopEntry : Type 0 where
  pub number : ℕ
  pub head : List ℕ
  pub under : Under

-- the lines of entries in front of others
abbrev pub top_entries_then : List TopEntry → List ReadLine → List ReadLine
top_entries_then [] rest = rest
top_entries_then (entry ∷ entries) rest = record { number = entry.number; text = entry.head } ∷ under_then entry.under
    (top_entries_then entries rest)

-- a key that is skipped
abbrev pub IsSkippedUnder : ℕ → List ℕ → Under → Type 0
IsSkippedUnder number value (Plain more) = IsSkipped belongs_to_top number value more
IsSkippedUnder number value (Listed at trees) = ⊥

-- a key with a flow list
abbrev pub IsListUnder : ℕ → List ℕ → Under → List (List ℕ) → Type 0
IsListUnder number value (Plain more) names = IsReadList number value more names
IsListUnder number value (Listed at trees) names = ⊥

-- a key with items, one or more
abbrev pub AreItemsUnder : ℕ → ItemKind → Under → List ItemFields → Type 0
AreItemsUnder line kind (Plain more) says = ⊥
AreItemsUnder line kind (Listed at []) says = ⊥
AreItemsUnder line kind (Listed at (tree ∷ trees)) says = AreItems line kind at (tree ∷ trees) says

-- The value of a key of a document takes what is known of the document from `old` to `new`. No key that is read
-- stands twice.
abbrev pub TopValue : TopKey → List ℕ → TopEntry → OpenDocumentFields → OpenDocumentFields → Type 0
TopValue top.Version value entry old new =
    (is_some old.version ≡ false) × (entry.under ≡ Plain []) × (version : List ℕ)
    × (version_value entry.number value ≡ Ok version) × (new ≡ record old { version = Some version })
TopValue top.Targets value entry old new =
    (is_some old.targets ≡ false) × (names : List (List ℕ)) × IsListUnder entry.number value entry.under names
    × (new ≡ record old { targets = Some names })
TopValue top.InstallName value entry old new =
    (is_some old.install_name ≡ false) × (entry.under ≡ Plain []) × (text : List ℕ)
    × (scalar_value entry.number value ≡ Ok text) × (new ≡ record old { install_name = Some text })
TopValue top.CurrentVersion value entry old new =
    (is_some old.current_version ≡ false) × (entry.under ≡ Plain []) × (text : List ℕ)
    × (scalar_value entry.number value ≡ Ok text) × (new ≡ record old { current_version = Some text })
TopValue (top.Items kind) value entry old new =
    (has_items kind old ≡ false) × (length value ≡ 0) × (says : List ItemFields)
    × AreItemsUnder old.line kind entry.under says × (new ≡ with_items kind says old)
TopValue top.Unread value entry old new = IsSkippedUnder entry.number value entry.under × (new ≡ old)

-- an entry of a document
pub record IsTopEntry (entry : TopEntry) (old new : OpenDocumentFields) : Type 0 where
  pub said : Entry
  pub key : entry_at entry.number entry.head ≡ Ok said
  pub value : TopValue (top_key said.key) said.value entry old new

-- entries of a document one after the other
abbrev pub TopEntries : List TopEntry → OpenDocumentFields → OpenDocumentFields → Type 0
TopEntries [] old new = new ≡ old
TopEntries (entry ∷ entries) old new = (mid : OpenDocumentFields) × IsTopEntry entry old mid
    × TopEntries entries mid new

-- A document: the number of its head's line, its entries, and the number of the line that ends it, if one does.
pub record DocumentTree : Type 0 where
  pub number : ℕ
  pub entries : List TopEntry
  pub ended_at : Option ℕ

-- the line of an end, if there is one, in front of others
abbrev pub end_then : Option ℕ → List ReadLine → List ReadLine
end_then None rest = rest
end_then (Some number) rest = record { number = number; text = end } ∷ rest

-- the lines of documents
abbrev pub documents_then : List DocumentTree → List ReadLine
documents_then [] = []
documents_then (tree ∷ trees) = record { number = tree.number; text = head } ∷ top_entries_then tree.entries
    (end_then tree.ended_at (documents_then trees))

-- A document that says this: no key that it must have is lacking.
pub record IsDocument (tree : DocumentTree) (says : DocumentFields) : Type 0 where
  pub read : OpenDocumentFields
  pub entries : TopEntries tree.entries (head_at tree.number) read
  pub whole : whole_document read ≡ Ok says

-- documents one after the other, and what each says
abbrev pub AreDocuments : List DocumentTree → List DocumentFields → Type 0
AreDocuments [] [] = Unit {0}
AreDocuments [] (one ∷ says) = ⊥
AreDocuments (tree ∷ trees) [] = ⊥
AreDocuments (tree ∷ trees) (one ∷ says) = IsDocument tree one × AreDocuments trees says

-- The lines are documents that say this, and passed-over lines: no line has a byte that may stand nowhere, and the
-- lines with content are those of the documents.
pub record IsReadLines (texts : List (List ℕ)) (says : List DocumentFields) : Type 0 where
  pub clean : AllByRecursion (λ line. has_barred line ≡ false) texts
  pub trees : List DocumentTree
  pub lines_of : content_from 1 texts ≡ documents_then trees
  pub documents : AreDocuments trees says

-- The text is documents that say this.
abbrev pub IsReadText : List ℕ → List DocumentFields → Type 0
IsReadText text says = IsReadLines (lines text) says
