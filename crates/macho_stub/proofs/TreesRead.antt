-- What is in the grammar is a text as it is read. Each tree of the grammar leads to the tree that is read: the places are
-- left out, and an entry is the bytes that it is spelled by. The lines of both are the same, and what stands on a line
-- reads as what its tree says; so each relation on a tree of the grammar gives that on the tree which is read, with the
-- texts of the slices.
use Rattle.std.proofs.Common.{◌≡◌, ℕ, Bool, true, List, [], ◌∷◌, ◌++◌, length, replicate, map, Option, Some, None, refl, ap, ◌∙◌, inl, inr}
use Rattle.std.proofs.lemmas.List.{map-append}
use Rattle.macho_stub_lines.specs.declared.keys.ItemKind.{ItemKind}
use Rattle.macho_stub_lines.specs.declared.keys.ItemKey.{ItemKey}
use Rattle.macho_stub_lines.specs.declared.keys.ItemKey.TheVariants as item
use Rattle.macho_stub_lines.specs.declared.keys.TopKey.{TopKey}
use Rattle.macho_stub_lines.specs.declared.keys.TopKey.TheVariants as top
use Rattle.macho_stub_lines.specs.Bytes.{space, dash, head, belongs_to_top}
use Rattle.macho_stub_lines.specs.Slices.{Slice, Line, texts_of}
use Rattle.macho_stub_lines.specs.Spelling.{entry_bytes, value_of, value_at}
use Rattle.macho_stub_lines.specs.Keys.{top_key, item_key}
use Rattle.macho_stub_lines.specs.ReadLists.{ReadLine, read_line}
use Rattle.macho_stub.specs.Documents.{ItemOf, DocumentOf, item_texts, documents_texts}
use Rattle.macho_stub.specs.steps.Opened.{OpenItemOf, OpenDocumentOf, no_item, head_at}
use Rattle.macho_stub.specs.Places.{entries_then, ItemTree, column_of, items_then, end_then}
use Rattle.macho_stub.specs.steps.Trees.{IsSkipped, ItemEntry, is_deeper, item_value_at, Under, Lines, Listed, under_then, TopEntry, top_entries_then, IsSkippedUnder, IsListUnder, DocumentTree, documents_then}
use Rattle.macho_stub.proofs.Folded.{GivesNames, ItemValue, IsItemEntry, ItemEntries, IsItem, AreItems, AreItemsUnder, TopValue, TopEntries, AreDocuments}
use Rattle.macho_stub.proofs.Readings as read
use Rattle.macho_stub.proofs.TreeTexts.{items_texts, open_item_texts, open_texts, is_some_texts, has_key_texts, with_key_texts, has_items_texts, with_items_texts, whole_item_reads, whole_document_reads}
use Rattle.macho_stub_lines.proofs.ScalarTrees.{scalar_reads}
use Rattle.macho_stub_lines.proofs.NumberTrees.{number_reads}
use Rattle.macho_stub_lines.proofs.EntryTrees.{entry_reads}
use Rattle.macho_stub_lines.proofs.ListTrees.{list_reads}
use Rattle.macho_stub_lines.proofs.Runs.{all_made}

-- lines by their numbers and texts
abbrev pub read_lines : List Line → List ReadLine
read_lines lines = map read_line lines

-- ---- trees without places

-- an entry without its place
abbrev pub read_item_entry : ItemEntry → read.ItemEntry
read_item_entry one = record { number = one.number; head = entry_bytes one.entry; more = read_lines one.more }

abbrev pub read_item : ItemTree → read.ItemTree
read_item tree = record { gap = tree.gap; first = read_item_entry tree.first; others = map read_item_entry tree.others }

abbrev pub read_under : Under → read.Under
read_under (Lines more) = read.Plain (read_lines more)
read_under (Listed dash_column trees) = read.Listed dash_column (map read_item trees)

abbrev pub read_top_entry : TopEntry → read.TopEntry
read_top_entry one = record { number = one.number; head = entry_bytes one.entry; under = read_under one.under }

abbrev pub read_end : Option (ℕ × ℕ) → Option ℕ
read_end None = None
read_end (Some line) = Some line.0

-- a document without places
abbrev pub read_document : DocumentTree → read.DocumentTree
read_document tree = record { number = tree.number; entries = map read_top_entry tree.entries; ended_at = read_end tree.ended }

-- ---- their lines are the same

entries_lines : (column : ℕ) (entries : List ItemEntry) (rest : List Line) → read_lines (entries_then column entries rest)
    ≡ read.entries_then column (map read_item_entry entries) (read_lines rest)
entries_lines column [] rest = refl
entries_lines column (one ∷ others) rest =
    let line : ReadLine = record { number = one.number; text = replicate column space ++ entry_bytes one.entry } in
    ap (λ (more : List ReadLine). line ∷ more) (map-append read_line one.more (entries_then column others rest)
    ∙ ap (λ (more : List ReadLine). read_lines one.more ++ more) (entries_lines column others rest))

items_lines : (dash_column : ℕ) (trees : List ItemTree) (rest : List Line) → read_lines (items_then dash_column trees rest)
    ≡ read.items_then dash_column (map read_item trees) (read_lines rest)
items_lines dash_column [] rest = refl
items_lines dash_column (tree ∷ trees) rest =
    let line : ReadLine = record {
      number = tree.first.number;
      text = replicate dash_column space ++ dash ∷ (replicate tree.gap space ++ entry_bytes tree.first.entry);
    } in
    let behind = entries_then (column_of dash_column tree) tree.others (items_then dash_column trees rest) in
    ap (λ (more : List ReadLine). line ∷ more) (map-append read_line tree.first.more behind
    ∙ ap (λ (more : List ReadLine). read_lines tree.first.more ++ more)
    (entries_lines (column_of dash_column tree) tree.others (items_then dash_column trees rest)
    ∙ ap (read.entries_then (column_of dash_column tree) (map read_item_entry tree.others)) (items_lines dash_column trees rest)))

under_lines : (under : Under) (rest : List Line) → read_lines (under_then under rest) ≡ read.under_then (read_under under) (read_lines rest)
under_lines (Lines more) rest = map-append read_line more rest
under_lines (Listed dash_column trees) rest = items_lines dash_column trees rest

top_entries_lines : (entries : List TopEntry) (rest : List Line) → read_lines (top_entries_then entries rest)
    ≡ read.top_entries_then (map read_top_entry entries) (read_lines rest)
top_entries_lines [] rest = refl
top_entries_lines (one ∷ others) rest =
    let line : ReadLine = record { number = one.number; text = entry_bytes one.entry } in
    ap (λ (more : List ReadLine). line ∷ more) (under_lines one.under (top_entries_then others rest)
    ∙ ap (read.under_then (read_under one.under)) (top_entries_lines others rest))

end_lines : (ended : Option (ℕ × ℕ)) (rest : List Line) → read_lines (end_then ended rest)
    ≡ read.end_then (read_end ended) (read_lines rest)
end_lines None rest = refl
end_lines (Some line) rest = refl

-- documents of the grammar have the lines of those that are read
pub documents_lines : (trees : List DocumentTree) → read_lines (documents_then trees) ≡ read.documents_then (map read_document trees)
documents_lines [] = refl
documents_lines (tree ∷ trees) =
    let line : ReadLine = record { number = tree.number; text = head } in
    ap (λ (more : List ReadLine). line ∷ more) (top_entries_lines tree.entries (end_then tree.ended (documents_then trees))
    ∙ ap (read.top_entries_then (map read_top_entry tree.entries))
    (end_lines tree.ended (documents_then trees) ∙ ap (read.end_then (read_end tree.ended)) (documents_lines trees)))

-- ---- skipped values

skipped_reads : (belongs : List ℕ → Bool) (number at : ℕ) (value : List ℕ) (more : List Line) → IsSkipped belongs at value more
    → read.IsSkipped belongs number value (read_lines more)
skipped_reads belongs number at value more (inl l) = inl (texts_of l.0, list_reads number at value more l.0 l.1)
skipped_reads belongs number at value more (inr s) = inr (s.0, all_made (λ (line : ReadLine). belongs line.text ≡ true) read_line more s.1)

-- ---- items

gives_reads : (column : ℕ) (key : ItemKey) (one : ItemEntry) (old new : OpenItemOf Slice) → GivesNames column key one old new
    → read.GivesNames key (value_of one.entry) (read_item_entry one) (open_item_texts old) (open_item_texts new)
gives_reads column key one old new g = record {
  first_time = has_key_texts key old ∙ g.first_time;
  names = texts_of g.names;
  list = list_reads one.number (item_value_at column one) (value_of one.entry) one.more g.names g.list;
  gives = ap open_item_texts g.gives ∙ with_key_texts key g.names old;
}

item_value_reads : (column : ℕ) (key : ItemKey) (one : ItemEntry) (old new : OpenItemOf Slice) → ItemValue column key one old new
    → read.ItemValue column key (value_of one.entry) (read_item_entry one) (open_item_texts old) (open_item_texts new)
item_value_reads column item.Unread one old new v =
    (skipped_reads (is_deeper column) one.number (item_value_at column one) (value_of one.entry) one.more v.0, ap open_item_texts v.1)
item_value_reads column item.Targets one old new v = gives_reads column item.Targets one old new v
item_value_reads column item.Names one old new v = gives_reads column item.Names one old new v
item_value_reads column item.WeakNames one old new v = gives_reads column item.WeakNames one old new v

item_entry_reads : (kind : ItemKind) (column : ℕ) (one : ItemEntry) (old new : OpenItemOf Slice) → IsItemEntry kind column one old new
    → read.IsItemEntry kind column (read_item_entry one) (open_item_texts old) (open_item_texts new)
item_entry_reads kind column one old new e = record {
  said = record { key = one.entry.key; value = value_of one.entry };
  key = entry_reads one.number one.entry e.entry;
  value = item_value_reads column (item_key kind one.entry.key) one old new e.value;
}

item_entries_read : (kind : ItemKind) (column : ℕ) (entries : List ItemEntry) (old new : OpenItemOf Slice)
    → ItemEntries kind column entries old new
    → read.ItemEntries kind column (map read_item_entry entries) (open_item_texts old) (open_item_texts new)
item_entries_read kind column [] old new e = ap open_item_texts e
item_entries_read kind column (one ∷ others) old new e =
    (open_item_texts e.0, item_entry_reads kind column one old e.0 e.1, item_entries_read kind column others e.0 new e.2)

item_reads : (line : ℕ) (kind : ItemKind) (dash_column : ℕ) (tree : ItemTree) (says : ItemOf Slice) → IsItem kind dash_column tree says
    → read.IsItem line kind dash_column (read_item tree) (item_texts says)
item_reads line kind dash_column tree says i = record {
  spaced = i.spaced;
  read = open_item_texts i.read;
  entries = item_entries_read kind (column_of dash_column tree) (tree.first ∷ tree.others) no_item i.read i.entries;
  whole = whole_item_reads line kind i.read says i.whole;
}

items_read : (line : ℕ) (kind : ItemKind) (dash_column : ℕ) (trees : List ItemTree) (says : List (ItemOf Slice))
    → AreItems kind dash_column trees says → read.AreItems line kind dash_column (map read_item trees) (items_texts says)
items_read line kind dash_column [] [] a = tt
items_read line kind dash_column [] (one ∷ says) a = absurd a
items_read line kind dash_column (tree ∷ trees) [] a = absurd a
items_read line kind dash_column (tree ∷ trees) (one ∷ says) a =
    (item_reads line kind dash_column tree one a.0, items_read line kind dash_column trees says a.1)

-- ---- documents

skipped_under_reads : (number at : ℕ) (value : List ℕ) (under : Under) → IsSkippedUnder at value under
    → read.IsSkippedUnder number value (read_under under)
skipped_under_reads number at value (Lines more) s = skipped_reads belongs_to_top number at value more s
skipped_under_reads number at value (Listed dash_column trees) s = absurd s

list_under_reads : (number at : ℕ) (value : List ℕ) (under : Under) (names : List Slice) → IsListUnder at value under names
    → read.IsListUnder number value (read_under under) (texts_of names)
list_under_reads number at value (Lines more) names l = list_reads number at value more names l
list_under_reads number at value (Listed dash_column trees) names l = absurd l

items_under_read : (line : ℕ) (kind : ItemKind) (under : Under) (says : List (ItemOf Slice)) → AreItemsUnder kind under says
    → read.AreItemsUnder line kind (read_under under) (items_texts says)
items_under_read line kind (Lines more) says a = absurd a
items_under_read line kind (Listed dash_column []) says a = absurd a
items_under_read line kind (Listed dash_column (tree ∷ trees)) says a = items_read line kind dash_column (tree ∷ trees) says a

top_value_reads : (key : TopKey) (one : TopEntry) (old new : OpenDocumentOf Slice) → TopValue key one old new
    → read.TopValue key (value_of one.entry) (read_top_entry one) (open_texts old) (open_texts new)
top_value_reads top.Version one old new v = (
  is_some_texts (λ s. s.text) old.version ∙ v.0,
  ap read_under v.1,
  v.2.text,
  number_reads one.number (value_at one.at one.entry) (value_of one.entry) v.2 v.3,
  ap open_texts v.4,
)
top_value_reads top.Targets one old new v = (
  is_some_texts texts_of old.targets ∙ v.0,
  texts_of v.1,
  list_under_reads one.number (value_at one.at one.entry) (value_of one.entry) one.under v.1 v.2,
  ap open_texts v.3,
)
top_value_reads top.InstallName one old new v = (
  is_some_texts (λ s. s.text) old.install_name ∙ v.0,
  ap read_under v.1,
  v.2.text,
  scalar_reads one.number (value_at one.at one.entry) (value_of one.entry) v.2 v.3,
  ap open_texts v.4,
)
top_value_reads top.CurrentVersion one old new v = (
  is_some_texts (λ s. s.text) old.current_version ∙ v.0,
  ap read_under v.1,
  v.2.text,
  scalar_reads one.number (value_at one.at one.entry) (value_of one.entry) v.2 v.3,
  ap open_texts v.4,
)
top_value_reads (top.Items kind) one old new v = (
  has_items_texts kind old ∙ v.0,
  ap (λ (value : List ℕ). length value) v.1,
  items_texts v.2,
  items_under_read old.line kind one.under v.2 v.3,
  ap open_texts v.4 ∙ with_items_texts kind v.2 old,
)
top_value_reads top.Unread one old new v =
    (skipped_under_reads one.number (value_at one.at one.entry) (value_of one.entry) one.under v.0, ap open_texts v.1)

top_entries_read : (entries : List TopEntry) (old new : OpenDocumentOf Slice) → TopEntries entries old new
    → read.TopEntries (map read_top_entry entries) (open_texts old) (open_texts new)
top_entries_read [] old new e = ap open_texts e
top_entries_read (one ∷ others) old new e = (
  open_texts e.0,
  record {
    said = record { key = one.entry.key; value = value_of one.entry };
    key = entry_reads one.number one.entry e.1.entry;
    value = top_value_reads (top_key one.entry.key) one old e.0 e.1.value;
  },
  top_entries_read others e.0 new e.2,
)

-- Documents of the grammar are documents that are read.
pub documents_read : (trees : List DocumentTree) (says : List (DocumentOf Slice)) → AreDocuments trees says
    → read.AreDocuments (map read_document trees) (documents_texts says)
documents_read [] [] a = tt
documents_read [] (one ∷ says) a = absurd a
documents_read (tree ∷ trees) [] a = absurd a
documents_read (tree ∷ trees) (one ∷ says) a = (
  record {
    read = open_texts a.0.read;
    entries = top_entries_read tree.entries (head_at tree.number) a.0.read a.0.entries;
    whole = whole_document_reads a.0.read one a.0.whole;
  },
  documents_read trees says a.1,
)
