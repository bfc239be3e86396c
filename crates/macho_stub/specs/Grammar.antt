-- The grammar of a stub text: which lines are documents, and what these say.
use Rattle.std.specs.Prelude.{◌≡◌, ◌≢◌, ℕ, ◌+◌, ◌<◌, ◌⊎◌, Bool, true, false, ◌&&◌, ◌||◌, not, List, [], ◌∷◌, ◌++◌, length, map, replicate, Option, Some, None, nat_lt, ◌==◌, slice_index, codes, if◌then◌else◌, take, drop}
use Rattle.std.specs.List.{AllByRecursion, AllZip, filter, flat_map, list_any, enumerate_from}
use Rattle.std.specs.Str.{bytes_eq}
use Rattle.std.specs.Char.{is_ascii_alphanumeric}
use Rattle.macho_stub_lines.specs.declared.keys.ItemKind.{ItemKind}
use Rattle.macho_stub_lines.specs.declared.keys.ItemKind.TheVariants.{Libraries, Exports, Reexports}
use Rattle.macho_stub_lines.specs.Bytes.{space, indent, unspaced, is_passed, is_tail, has_dash, has_barred, head, end}
use Rattle.macho_stub_lines.specs.Values.{IsScalar, IsNumber, IsGap, AreScalars}
use Rattle.macho_stub.specs.Documents.{ItemFields, DocumentFields}

-- ---- mappings

-- The key of an entry has a byte or more: letters, digits and dashes (45). Behind its colon stands nothing, or a space first.
pub record IsEntry (key behind : List ℕ) : Type 0 where
  pub some : 0 < length key
  pub bytes : AllByRecursion (λ b. (is_ascii_alphanumeric b || b == 45) ≡ true) key
  pub spaced : (behind ≡ []) ⊎ (slice_index behind 0 ≡ space)

-- An entry of a mapping: its key, what stands behind the colon on its line, and the lines under it.
pub record Entry : Type 0 where
  pub key : List ℕ
  pub behind : List ℕ
  pub under : List (List ℕ)

-- its lines, with these bytes in front of the key
abbrev pub entry_lines : List ℕ → Entry → List (List ℕ)
entry_lines front entry = (front ++ (entry.key ++ (codes ":" ++ entry.behind))) ∷ entry.under

-- the line from its value on; empty where nothing but spaces and a comment stands
abbrev pub value_of : Entry → List ℕ
value_of entry = if is_passed entry.behind then [] else unspaced entry.behind

-- An entry has a flow list of these scalars: in brackets, with nothing behind the closing one but spaces and a comment. A line `...` ends
-- the document, so none is of the list.
pub record IsFlowList (entry : Entry) (texts : List (List ℕ)) : Type 0 where
  pub opened : List ℕ
  pub bracket : value_of entry ≡ codes "[" ++ opened
  pub scalars : List (List ℕ)
  pub gap : IsGap (opened ∷ entry.under) scalars
  pub tail : List ℕ
  pub are : AreScalars scalars texts ((codes "]" ++ tail) ∷ [])
  pub ends : is_tail tail ≡ true
  pub inside : AllByRecursion (λ line. line ≢ end) entry.under

-- An entry says this text, spelled as `Spells` has it (a number or a scalar), with nothing behind it but spaces and a comment, and nothing
-- under it.
abbrev pub SaysText : (List ℕ → List ℕ → Type 0) → Entry → List ℕ → Type 0
SaysText Spells entry text = (entry.under ≡ [])
    × (bytes : List ℕ) × (tail : List ℕ) × (value_of entry ≡ bytes ++ tail) × Spells bytes text × (is_tail tail ≡ true)

-- An entry whose key is in this column. If its key isn't among those that are read, it is skipped with the lines under it: it has a flow
-- list, or its value doesn't begin with an opening bracket (91). In the latter case each of the lines begins with more spaces than the
-- key's column, or, if the key is in column 0, with a dash and a space.
pub record IsEntryOf (read : List (List ℕ)) (column : ℕ) (entry : Entry) : Type 0 where
  pub is : IsEntry entry.key entry.behind
  pub skipped : list_any (bytes_eq entry.key) read ≡ false → ((texts : List (List ℕ)) × IsFlowList entry texts)
      ⊎ ((slice_index (value_of entry) 0 ≢ 91)
      × AllByRecursion (λ line. (nat_lt column (indent line) || ((column == 0) && has_dash line)) ≡ true) entry.under)

-- The entries that have a key say this: there is none, and this is what is said where the key is lacking; or there is one, and it says so.
-- Where nothing is said of a lacking key, it must stand.
abbrev pub SaysUnder : {X : Type 0} → List ℕ → Option X → (Entry → X → Type 0) → List Entry → X → Type 0
SaysUnder key lacking says entries x = ((filter (λ one. bytes_eq one.key key) entries ≡ []) × (lacking ≡ Some x))
    ⊎ ((one : Entry) × (filter (λ one. bytes_eq one.key key) entries ≡ one ∷ []) × says one x)

-- ---- items

-- the keys of an item of libraries, or of symbols, that are read
abbrev pub item_keys : ItemKind → List (List ℕ)
item_keys Libraries = codes "targets" ∷ codes "libraries" ∷ []
item_keys kind = codes "targets" ∷ codes "symbols" ∷ codes "weak-symbols" ∷ []

-- What an item says beside its targets: an item of libraries says their names; an item of symbols may lack names of both kinds.
abbrev pub SaysNames : ItemKind → List Entry → ItemFields → Type 0
SaysNames Libraries entries item = SaysUnder (codes "libraries") None IsFlowList entries item.names × (item.weak_names ≡ [])
SaysNames kind entries item = SaysUnder (codes "symbols") (Some []) IsFlowList entries item.names
    × SaysUnder (codes "weak-symbols") (Some []) IsFlowList entries item.weak_names

-- An item that says this: a dash, spaces, the first entry, and the other entries in the column of the first one's key.
pub record IsItem (kind : ItemKind) (dash_column : ℕ) (lines : List (List ℕ)) (item : ItemFields) : Type 0 where
  pub gap : ℕ
  pub spaced : 0 < gap
  pub first : Entry
  pub others : List Entry
  pub spelled : lines ≡ entry_lines (replicate dash_column space ++ (codes "-" ++ replicate gap space)) first
      ++ flat_map (entry_lines (replicate (dash_column + 1 + gap) space)) others
  pub each : AllByRecursion (IsEntryOf (item_keys kind) (dash_column + 1 + gap)) (first ∷ others)
  pub targets : SaysUnder (codes "targets") None IsFlowList (first ∷ others) item.targets
  pub names : SaysNames kind (first ∷ others) item

-- under a key with no value stand items, one or more, with their dashes in one column
abbrev pub SaysItems : ItemKind → Entry → List ItemFields → Type 0
SaysItems kind entry items =
    (value_of entry ≡ []) × (0 < length items) × (dash_column : ℕ) × (parts : List (List (List ℕ)))
    × (entry.under ≡ flat_map (λ part. part) parts) × AllZip (IsItem kind dash_column) parts items

-- ---- documents

-- A document that says this, by its lines with their numbers: its head, its entries, and the line that ends it, if one does.
pub record IsDocument (lines : List (ℕ × List ℕ)) (says : DocumentFields) : Type 0 where
  pub begins : take 1 lines ≡ (says.line, head) ∷ []
  pub entries : List Entry
  pub ended : Bool
  pub spelled : map (λ line. line.1) (drop 1 lines) ≡ flat_map (entry_lines []) entries ++ (if ended then end ∷ [] else [])
  pub each : AllByRecursion (IsEntryOf (codes "tbd-version" ∷ codes "targets" ∷ codes "install-name" ∷ codes "current-version"
      ∷ codes "reexported-libraries" ∷ codes "exports" ∷ codes "reexports" ∷ []) 0) entries
  pub version : SaysUnder (codes "tbd-version") None (SaysText IsNumber) entries says.version
  pub targets : SaysUnder (codes "targets") None IsFlowList entries says.targets
  pub install_name : SaysUnder (codes "install-name") None (SaysText IsScalar) entries says.install_name
  pub current_version : SaysUnder (codes "current-version") (Some []) (SaysText IsScalar) entries says.current_version
  pub libraries : SaysUnder (codes "reexported-libraries") (Some []) (SaysItems Libraries) entries says.libraries
  pub exports : SaysUnder (codes "exports") (Some []) (SaysItems Exports) entries says.exports
  pub reexports : SaysUnder (codes "reexports") (Some []) (SaysItems Reexports) entries says.reexports

-- The lines are documents that say this, and passed-over lines: no line has a byte that may stand nowhere, and the lines with content are
-- those of the documents. No key is lacking that must stand, and none that is read stands twice. (That a text is UTF-8 is said elsewhere:
-- by the type of the call's input, and by `IsStubInput`.)
pub record IsStubLines (lines : List (List ℕ)) (says : List DocumentFields) : Type 0 where
  pub clean : AllByRecursion (λ line. has_barred line ≡ false) lines
  pub parts : List (List (ℕ × List ℕ))
  pub content : filter (λ line. not (is_passed line.1)) (enumerate_from 1 lines) ≡ flat_map (λ part. part) parts
  pub documents : AllZip IsDocument parts says
