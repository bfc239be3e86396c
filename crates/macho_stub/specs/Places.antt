-- The grammar with places: documents, mappings and items as trees, each with the lines that it stands on. A tree is spelled in front of
-- the lines that follow it, and what it says are slices of the input. `Grammar` says the same by the lines alone.
use Rattle.std.specs.Prelude.{◌≡◌, ◌≢◌, ℕ, ◌+◌, ◌<◌, ◌⊎◌, Bool, true, false, ◌&&◌, ◌||◌, List, [], ◌∷◌, ◌++◌, length, replicate, Option, Some, None, nat_lt, ◌==◌, slice_index, codes}
use Rattle.std.specs.List.{AllByRecursion, AllZip, filter, list_any}
use Rattle.std.specs.Str.{bytes_eq}
use Rattle.macho_stub_lines.specs.declared.keys.ItemKind.{ItemKind}
use Rattle.macho_stub_lines.specs.declared.keys.ItemKind.TheVariants.{Libraries, Exports, Reexports}
use Rattle.macho_stub_lines.specs.Bytes.{space, dash, open_bracket, indent, has_dash, has_barred, head, end}
use Rattle.macho_stub_lines.specs.Slices.{Slice, Line, lines_of, content_of}
use Rattle.macho_stub_lines.specs.Spelling.{EntryTree, IsEntry, entry_bytes, value_of, value_at, IsScalarValue, IsNumberValue}
use Rattle.macho_stub_lines.specs.FlowLists.{IsFlowList}
use Rattle.macho_stub.specs.Documents.{ItemOf, DocumentOf}
use Rattle.macho_stub.specs.Grammar.{item_keys}

-- ---- mappings

-- An entry of a mapping: the number and place of its line, its key and value, and the lines under it.
pub record Entry : Type 0 where
  pub number : ℕ
  pub at : ℕ
  pub entry : EntryTree
  pub more : List Line

-- its lines, with the key in this column, in front of others
abbrev pub entry_then : ℕ → Entry → List Line → List Line
entry_then column one rest =
    record { number = one.number; at = one.at; text = replicate column space ++ entry_bytes one.entry }
    ∷ (one.more ++ rest)

abbrev pub entries_then : ℕ → List Entry → List Line → List Line
entries_then column [] rest = rest
entries_then column (one ∷ others) rest = entry_then column one (entries_then column others rest)

-- the place of the value of an entry with its key in this column
abbrev pub place_of : ℕ → Entry → ℕ
place_of column one = value_at (one.at + column) one.entry

-- A line is skipped with the value of a key in this column: it begins with more spaces than that; or, for column 0, it is an
-- item with its dash there.
abbrev pub belongs : ℕ → List ℕ → Bool
belongs column text = nat_lt column (indent text) || ((column == 0) && has_dash text)

-- The value and the lines under it are skipped: a flow list, or a value that doesn't begin with a bracket and the lines
-- that belong to it.
abbrev pub IsSkipped : ℕ → Entry → Type 0
IsSkipped column one =
    ((names : List Slice) × IsFlowList (place_of column one) (value_of one.entry) one.more names)
    ⊎ ((slice_index (value_of one.entry) 0 ≢ open_bracket) × AllByRecursion (λ line. belongs column line.text ≡ true) one.more)

-- an entry with its key in this column: it is skipped where its key isn't among those that are read
pub record IsEntryOf (read : List (List ℕ)) (column : ℕ) (one : Entry) : Type 0 where
  pub entry : IsEntry one.entry
  pub skipped : list_any (bytes_eq one.entry.key) read ≡ false → IsSkipped column one

-- The entries that have a key say this: there is one, and it says so; or there is none, and this is what is said otherwise.
-- Where nothing is said otherwise, the key must stand.
abbrev pub SaysAlone : {E X : Type 0} → Option X → (E → X → Type 0) → List E → X → Type 0
SaysAlone otherwise says [] x = otherwise ≡ Some x
SaysAlone otherwise says (one ∷ []) x = says one x
SaysAlone otherwise says (one ∷ other ∷ more) x = ⊥

abbrev pub SaysUnder : {X : Type 0} → List ℕ → Option X → (Entry → X → Type 0) → List Entry → X → Type 0
SaysUnder key otherwise says entries x = SaysAlone otherwise says (filter (λ one. bytes_eq one.entry.key key) entries) x

-- an entry with its key in this column has a flow list of these names
abbrev pub SaysNames : ℕ → Entry → List Slice → Type 0
SaysNames column one names = IsFlowList (place_of column one) (value_of one.entry) one.more names

-- ---- items

-- An item: a dash, spaces, the first entry, and the other entries in the column of the first one's key.
pub record ItemTree : Type 0 where
  pub gap : ℕ
  pub first : Entry
  pub others : List Entry

-- the column of its keys, where its dash is in this column
abbrev pub column_of : ℕ → ItemTree → ℕ
column_of dash_column tree = dash_column + 1 + tree.gap

-- its lines, with the dash in this column, in front of others
abbrev pub item_then : ℕ → ItemTree → List Line → List Line
item_then dash_column tree rest =
    record {
      number = tree.first.number;
      at = tree.first.at;
      text = replicate dash_column space ++ dash ∷ (replicate tree.gap space ++ entry_bytes tree.first.entry);
    }
    ∷ (tree.first.more ++ entries_then (column_of dash_column tree) tree.others rest)

abbrev pub items_then : ℕ → List ItemTree → List Line → List Line
items_then dash_column [] rest = rest
items_then dash_column (tree ∷ trees) rest = item_then dash_column tree (items_then dash_column trees rest)

abbrev pub entries_of : ItemTree → List Entry
entries_of tree = tree.first ∷ tree.others

-- What an item says: it must have targets, and an item of libraries their names; an item of symbols may lack names of both kinds.
abbrev pub SaysItem : ItemKind → ℕ → List Entry → ItemOf Slice → Type 0
SaysItem Libraries column entries item = SaysUnder (codes "targets") None (SaysNames column) entries item.targets
    × SaysUnder (codes "libraries") None (SaysNames column) entries item.names × (item.weak_names ≡ [])
SaysItem kind column entries item = SaysUnder (codes "targets") None (SaysNames column) entries item.targets
    × SaysUnder (codes "symbols") (Some []) (SaysNames column) entries item.names
    × SaysUnder (codes "weak-symbols") (Some []) (SaysNames column) entries item.weak_names

-- an item that says this
pub record IsItem (kind : ItemKind) (dash_column : ℕ) (tree : ItemTree) (item : ItemOf Slice) : Type 0 where
  pub spaced : 0 < tree.gap
  pub each : AllByRecursion (IsEntryOf (item_keys kind) (column_of dash_column tree)) (entries_of tree)
  pub says : SaysItem kind (column_of dash_column tree) (entries_of tree) item

-- ---- documents

-- What an entry of a document says: a number or a scalar, under which nothing stands; a flow list (`SaysNames`); or items,
-- one or more, with their dashes in one column, under a key with no value.
abbrev pub SaysNumber : Entry → Slice → Type 0
SaysNumber one number = (one.more ≡ []) × IsNumberValue (place_of 0 one) (value_of one.entry) number

abbrev pub SaysScalar : Entry → Slice → Type 0
SaysScalar one text = (one.more ≡ []) × IsScalarValue (place_of 0 one) (value_of one.entry) text

abbrev pub SaysItems : ItemKind → Entry → List (ItemOf Slice) → Type 0
SaysItems kind one items =
    (value_of one.entry ≡ []) × (0 < length items) × (dash_column : ℕ) × (trees : List ItemTree)
    × (one.more ≡ items_then dash_column trees []) × AllZip (IsItem kind dash_column) trees items

-- the keys of a document that are read
abbrev pub document_keys : List (List ℕ)
document_keys = codes "tbd-version" ∷ codes "targets" ∷ codes "install-name" ∷ codes "current-version"
    ∷ codes "reexported-libraries" ∷ codes "exports" ∷ codes "reexports" ∷ []

-- A document: number and place of its head's line, its entries, and number and place of the line that ends it, if one
-- does.
pub record DocumentTree : Type 0 where
  pub number : ℕ
  pub at : ℕ
  pub entries : List Entry
  pub ended : Option (ℕ × ℕ)

abbrev pub end_then : Option (ℕ × ℕ) → List Line → List Line
end_then None rest = rest
end_then (Some line) rest = record { number = line.0; at = line.1; text = end } ∷ rest

abbrev pub documents_then : List DocumentTree → List Line
documents_then [] = []
documents_then (tree ∷ trees) = record { number = tree.number; at = tree.at; text = head }
    ∷ entries_then 0 tree.entries (end_then tree.ended (documents_then trees))

-- the current version of a document where none stands
abbrev pub no_text : Slice
no_text = record { at = 0; text = [] }

-- a document that says this
pub record IsDocument (tree : DocumentTree) (says : DocumentOf Slice) : Type 0 where
  pub line : says.line ≡ tree.number
  pub each : AllByRecursion (IsEntryOf document_keys 0) tree.entries
  pub version : SaysUnder (codes "tbd-version") None SaysNumber tree.entries says.version
  pub targets : SaysUnder (codes "targets") None (SaysNames 0) tree.entries says.targets
  pub install_name : SaysUnder (codes "install-name") None SaysScalar tree.entries says.install_name
  pub current_version : SaysUnder (codes "current-version") (Some no_text) SaysScalar tree.entries says.current_version
  pub libraries : SaysUnder (codes "reexported-libraries") (Some []) (SaysItems Libraries) tree.entries says.libraries
  pub exports : SaysUnder (codes "exports") (Some []) (SaysItems Exports) tree.entries says.exports
  pub reexports : SaysUnder (codes "reexports") (Some []) (SaysItems Reexports) tree.entries says.reexports

-- The text is documents that say this, and passed-over lines: no line has a byte that may stand nowhere, and the lines
-- with content are those of the documents. No key is lacking that must stand, and none that is read stands twice. (That
-- the bytes are UTF-8 is said by the type of the input.)
pub record IsStubText (text : List ℕ) (says : List (DocumentOf Slice)) : Type 0 where
  pub clean : AllByRecursion (λ line. has_barred line.text ≡ false) (lines_of text)
  pub trees : List DocumentTree
  pub lines : content_of (lines_of text) ≡ documents_then trees
  pub documents : AllZip IsDocument trees says
