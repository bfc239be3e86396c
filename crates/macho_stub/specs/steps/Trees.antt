-- Documents and items as trees whose entries say what stands under them: lines, or items. `Places` has the same with the
-- lines alone (`proofs/Unders`).
use Rattle.std.specs.Prelude.{◌≡◌, ◌≢◌, ℕ, ◌+◌, ◌<◌, ◌⊎◌, Bool, true, false, List, [], ◌∷◌, ◌++◌, Option, Some, None, nat_lt, slice_index, codes}
use Rattle.std.specs.List.{AllByRecursion, AllZip, filter, list_any}
use Rattle.std.specs.Str.{bytes_eq}
use Rattle.macho_stub_lines.specs.declared.keys.ItemKind.{ItemKind}
use Rattle.macho_stub_lines.specs.declared.keys.ItemKind.TheVariants.{Libraries, Exports, Reexports}
use Rattle.macho_stub_lines.specs.Bytes.{open_bracket, indent, head, belongs_to_top}
use Rattle.macho_stub_lines.specs.Slices.{Slice, Line}
use Rattle.macho_stub_lines.specs.Spelling.{EntryTree, IsEntry, entry_bytes, value_of, value_at, IsScalarValue, IsNumberValue}
use Rattle.macho_stub_lines.specs.FlowLists.{IsFlowList}
use Rattle.macho_stub.specs.Documents.{ItemOf, DocumentOf}
use Rattle.macho_stub.specs.Grammar.{item_keys}
use Rattle.macho_stub.specs.Places.{SaysAlone, document_keys, Entry, SaysItem, ItemTree, column_of, items_then, entries_of, end_then, no_text}

abbrev pub ItemEntry : Type 0
ItemEntry = Entry

-- The value, which begins at this place, and the lines under it are skipped: a flow list, or a value that doesn't begin
-- with a bracket and the lines that belong to it.
abbrev pub IsSkipped : (List ℕ → Bool) → ℕ → List ℕ → List Line → Type 0
IsSkipped belongs at value more =
    ((names : List Slice) × IsFlowList at value more names)
    ⊎ ((slice_index value 0 ≢ open_bracket) × AllByRecursion (λ line. belongs line.text ≡ true) more)

-- ---- items

-- the place of the value of an entry with its key in this column
abbrev pub item_value_at : ℕ → ItemEntry → ℕ
item_value_at column one = value_at (one.at + column) one.entry

-- A line belongs to the skipped value of a key in this column: it begins with more spaces.
abbrev pub is_deeper : ℕ → List ℕ → Bool
is_deeper column text = nat_lt column (indent text)

-- an entry of an item, with its key in this column: it is skipped where its key isn't read
pub record IsItemEntry (kind : ItemKind) (column : ℕ) (one : ItemEntry) : Type 0 where
  pub entry : IsEntry one.entry
  pub skipped : list_any (bytes_eq one.entry.key) (item_keys kind) ≡ false
      → IsSkipped (is_deeper column) (item_value_at column one) (value_of one.entry) one.more

-- an item that says this
pub record IsItem (kind : ItemKind) (dash_column : ℕ) (tree : ItemTree) (item : ItemOf Slice) : Type 0 where
  pub spaced : 0 < tree.gap
  pub each : AllByRecursion (IsItemEntry kind (column_of dash_column tree)) (entries_of tree)
  pub says : SaysItem kind (column_of dash_column tree) (entries_of tree) item

-- ---- documents

-- What stands under a key of a document: lines, or items with their dashes in one column.
pub data Under : Type 0 where
  Lines : List Line → Under
  Listed : ℕ → List ItemTree → Under

abbrev pub under_then : Under → List Line → List Line
under_then (Lines more) rest = more ++ rest
under_then (Listed dash_column trees) rest = items_then dash_column trees rest

-- An entry of a document: the number and place of its line, its key and value, and what stands under it.
pub record TopEntry : Type 0 where
  pub number : ℕ
  pub at : ℕ
  pub entry : EntryTree
  pub under : Under

abbrev pub top_entries_then : List TopEntry → List Line → List Line
top_entries_then [] rest = rest
top_entries_then (one ∷ others) rest = record { number = one.number; at = one.at; text = entry_bytes one.entry }
    ∷ under_then one.under (top_entries_then others rest)

-- a key that is skipped, and one with a flow list
abbrev pub IsSkippedUnder : ℕ → List ℕ → Under → Type 0
IsSkippedUnder at value (Lines more) = IsSkipped belongs_to_top at value more
IsSkippedUnder at value (Listed dash_column trees) = ⊥

abbrev pub IsListUnder : ℕ → List ℕ → Under → List Slice → Type 0
IsListUnder at value (Lines more) names = IsFlowList at value more names
IsListUnder at value (Listed dash_column trees) names = ⊥

-- a key with items, one or more
abbrev pub AreItemsUnder : ItemKind → Under → List (ItemOf Slice) → Type 0
AreItemsUnder kind (Listed dash_column (tree ∷ trees)) says = AllZip (IsItem kind dash_column) (tree ∷ trees) says
AreItemsUnder kind under says = ⊥

-- What an entry says: a number or a scalar, under which nothing stands; a flow list; or items, under a key with no
-- value.
abbrev pub SaysNumber : TopEntry → Slice → Type 0
SaysNumber one number = (one.under ≡ Lines []) × IsNumberValue (value_at one.at one.entry) (value_of one.entry) number

abbrev pub SaysScalar : TopEntry → Slice → Type 0
SaysScalar one text = (one.under ≡ Lines []) × IsScalarValue (value_at one.at one.entry) (value_of one.entry) text

abbrev pub SaysList : TopEntry → List Slice → Type 0
SaysList one names = IsListUnder (value_at one.at one.entry) (value_of one.entry) one.under names

abbrev pub SaysItems : ItemKind → TopEntry → List (ItemOf Slice) → Type 0
SaysItems kind one items = (value_of one.entry ≡ []) × AreItemsUnder kind one.under items

-- an entry of a document: it is skipped where its key isn't read
pub record IsTopEntry (one : TopEntry) : Type 0 where
  pub entry : IsEntry one.entry
  pub skipped : list_any (bytes_eq one.entry.key) document_keys ≡ false
      → IsSkippedUnder (value_at one.at one.entry) (value_of one.entry) one.under

-- A document: number and place of its head's line, its entries, and number and place of the line that ends it, if one
-- does.
pub record DocumentTree : Type 0 where
  pub number : ℕ
  pub at : ℕ
  pub entries : List TopEntry
  pub ended : Option (ℕ × ℕ)

abbrev pub documents_then : List DocumentTree → List Line
documents_then [] = []
documents_then (tree ∷ trees) = record { number = tree.number; at = tree.at; text = head }
    ∷ top_entries_then tree.entries (end_then tree.ended (documents_then trees))

-- what stands under a key of a document, or this where the key is lacking
abbrev pub Has : {X : Type 0} → List ℕ → Option X → (TopEntry → X → Type 0) → List TopEntry → X → Type 0
Has key otherwise says entries x = SaysAlone otherwise says (filter (λ one. bytes_eq one.entry.key key) entries) x

-- a document that says this
pub record IsDocument (tree : DocumentTree) (says : DocumentOf Slice) : Type 0 where
  pub line : says.line ≡ tree.number
  pub each : AllByRecursion IsTopEntry tree.entries
  pub version : Has (codes "tbd-version") None SaysNumber tree.entries says.version
  pub targets : Has (codes "targets") None SaysList tree.entries says.targets
  pub install_name : Has (codes "install-name") None SaysScalar tree.entries says.install_name
  pub current_version : Has (codes "current-version") (Some no_text) SaysScalar tree.entries says.current_version
  pub libraries : Has (codes "reexported-libraries") (Some []) (SaysItems Libraries) tree.entries says.libraries
  pub exports : Has (codes "exports") (Some []) (SaysItems Exports) tree.entries says.exports
  pub reexports : Has (codes "reexports") (Some []) (SaysItems Reexports) tree.entries says.reexports
