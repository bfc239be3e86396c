-- What is in the grammar is read: items. Each line of an item is a key in the column of its keys, each item begins
-- with a dash in the column of the list's dashes, and the list ends at a line in column 0, or with the text.
-- The reading of a line behind the keys of an item is by three tests and the text from the key on (`by_tests`). A line that
-- is spelled in the column of the keys answers them all: it has no dash in the column of the dashes, is not in column 0, and
-- is in that of the keys. So an entry is read with the lines under it, and the entries one after the other; a line with a
-- dash reads back as its parts, and its key is read as the first entry (`first_is_read`).
use Rattle.std.proofs.Common.{◌≡◌, ℕ, ◌+◌, ◌<◌, ◌&&◌, Bool, true, false, cond, eqb, ltb, List, [], ◌∷◌, ◌++◌, drop, replicate, Some, Ok, Err, refl, sym, ap, ◌∙◌, arith}
use Rattle.std.specs.List.{prefix_len}
use Rattle.std.proofs.lemmas.Bool.Decides.{nat_tests}
use Rattle.macho_stub_lines.specs.declared.keys.ItemKind.{ItemKind}
use Rattle.macho_stub_lines.specs.declared.keys.ItemKey.{ItemKey}
use Rattle.macho_stub_lines.specs.declared.keys.ItemKey.TheVariants as item
use Rattle.macho_stub_lines.specs.declared.fault.StubRule.TheVariants.{S3}
use Rattle.macho_stub_lines.specs.Bytes.{space, dash, indent, unspaced, has_dash}
use Rattle.macho_stub_lines.specs.steps.Bytes.{is_space}
use Rattle.macho_stub_lines.specs.Faults.{Reading, ◌>>=◌, outside, broken}
use Rattle.macho_stub_lines.specs.Keys.{Entry, entry_at, item_key}
use Rattle.macho_stub.specs.Documents.{ItemFields, DocumentFields}
use Rattle.macho_stub.specs.steps.Opened.{OpenItemFields, OpenDocumentFields, no_item, has_key, with_items}
use Rattle.macho_stub.specs.steps.Reader.{ItemListFields, InsideFields, names_value, item_entry, item_key_line, key_column, first_line, items_with_last, within, top_line, item_line}
use Rattle.macho_stub_lines.specs.ReadLists.{ReadLine}
use Rattle.macho_stub.proofs.Readings.{ItemEntry, GivesNames, ItemValue, IsItemEntry, ItemEntries, entries_then, ItemTree, column_of, IsItem}
use Rattle.macho_stub_lines.proofs.Bind.{eq_true, eq_false}
use Rattle.macho_stub.proofs.Rest.{run}
use Rattle.macho_stub.proofs.OnlyLines.{entry_unspaced, spelled_indent, spelled_rest, DashLine, dash_line}
use Rattle.macho_stub.proofs.OnlyLists.{run_in, run_keys, Starts, names_value_is_read, skipped_value_is_read}
use Rattle.macho_bytes.proofs.Comparing.{not_less}

-- ---- entries

gives_names_is_read : (before : List DocumentFields) (document : OpenDocumentFields) (list : ItemListFields) (key : ItemKey)
    (value : List ℕ) (entry : ItemEntry) (new : OpenItemFields) (rest : List ReadLine)
    → GivesNames key value entry list.item new
    → (cond (has_key key list.item) (broken entry.number S3) (names_value document (Some list) entry.number key value) >>= λ inside.
    run_in before inside (entry.more ++ rest)) ≡ run_keys before document (Some (record list { item = new })) rest
gives_names_is_read before document list key value entry new rest g =
    ap (λ b. cond b (broken entry.number S3) (names_value document (Some list) entry.number key value) >>= λ inside. run_in before inside
    (entry.more ++ rest)) g.first_time
    ∙ names_value_is_read before document (Some list) entry.number key value entry.more rest g.names g.list
    ∙ ap (λ i. run_keys before document (Some (record list { item = i })) rest) (sym g.gives)

value_is_read : (before : List DocumentFields) (document : OpenDocumentFields) (list : ItemListFields) (key : ItemKey) (value : List ℕ)
    (entry : ItemEntry) (new : OpenItemFields) (rest : List ReadLine) → Starts (Some list) rest
    → ItemValue list.column key value entry list.item new
    → (item_entry document list entry.number key value >>= λ inside. run_in before inside (entry.more ++ rest))
    ≡ run_keys before document (Some (record list { item = new })) rest
value_is_read before document list item.Unread value entry new rest s v =
    skipped_value_is_read before document (Some list) entry.number value entry.more rest s (λ names. refl) v.0
    ∙ ap (λ i. run_keys before document (Some (record list { item = i })) rest) (sym v.1)
value_is_read before document list item.Targets value entry new rest s v = gives_names_is_read before document list item.Targets value
    entry new rest v
value_is_read before document list item.Names value entry new rest s v = gives_names_is_read before document list item.Names value entry
    new rest v
value_is_read before document list item.WeakNames value entry new rest s v = gives_names_is_read before document list item.WeakNames value
    entry new rest v

entry_is_read : (before : List DocumentFields) (document : OpenDocumentFields) (list : ItemListFields) (entry : ItemEntry)
    (new : OpenItemFields) (rest : List ReadLine) → Starts (Some list) rest
    → IsItemEntry list.kind list.column entry list.item new
    → (item_key_line document list entry.number entry.head >>= λ inside. run_in before inside (entry.more ++ rest))
    ≡ run_keys before document (Some (record list { item = new })) rest
unfolding item_key_line
entry_is_read before document list entry new rest s e =
    ap (λ reading. (reading >>= λ said. item_entry document list entry.number (item_key list.kind said.key) said.value) >>= λ inside.
    run_in before inside (entry.more ++ rest)) e.key
    ∙ value_is_read before document list (item_key list.kind e.said.key) e.said.value entry new rest s e.value

-- ---- the lines of an item

-- the reading behind what leads inside a document
pub within_run : (before : List DocumentFields) (reading : Reading InsideFields) (rest : List ReadLine)
    → (within before reading >>= λ next. run next.documents next.place rest) ≡ (reading >>= λ inside. run_in before inside rest)
within_run before (Ok inside) rest = refl
within_run before (Err fault) rest = refl

-- The reading of a line behind the keys of an item, by its three tests and its text from the key on.
unfoldable pub by_tests : List DocumentFields → OpenDocumentFields → ItemListFields → ℕ → List ℕ → List ReadLine → Bool → Bool → Bool
    → List ℕ
    → Reading (List DocumentFields)
by_tests before document list line text rest dashed top column head =
    cond dashed (items_with_last document.line list >>= λ items. within before (first_line document list.kind items line text))
    (cond top (items_with_last document.line list >>= λ items. top_line before (with_items list.kind items document) line text)
    (cond column (within before (item_key_line document list line head)) (outside line)))
    >>= λ next. run next.documents next.place rest

other_dash : (a b m n : ℕ) (d : Bool) → m ≡ n → b < n → (d && eqb m b) ≡ false
other_dash a b m n d e lt = grind (arith, nat_tests)

-- a line in the column of the keys
key_in_column : (before : List DocumentFields) (document : OpenDocumentFields) (list : ItemListFields) (line : ℕ) (head : List ℕ)
    (said : Entry) (rest : List ReadLine) → list.dash < list.column → entry_at line head ≡ Ok said
    → run_keys before document (Some list) (record { number = line; text = replicate list.column space ++ head } ∷ rest)
    ≡ (item_key_line document list line head >>= λ inside. run_in before inside rest)
unfolding item_line indent unspaced by_tests
key_in_column before document list line head said rest lt e =
    let text = replicate list.column space ++ head in
    let i : prefix_len is_space text ≡ list.column = spelled_indent list.column head (entry_unspaced line head said e) in
    let by = by_tests before document list line text rest in
    let one : (has_dash text && eqb (prefix_len is_space text) list.dash)
    ≡ false = other_dash 0 list.dash (prefix_len is_space text) list.column (has_dash text) i lt in
    let two : eqb (prefix_len is_space text) 0 ≡ false = eq_false _ _ (λ z. absurd (omega arith)) in
    let three : eqb (prefix_len is_space text) list.column ≡ true = eq_true _ _ i in
    let four : drop (prefix_len is_space text) text ≡ head = ap (λ n. drop n text) i ∙ spelled_rest list.column head in
    ap (λ b. by b (eqb (prefix_len is_space text) 0) (eqb (prefix_len is_space text) list.column) (drop (prefix_len is_space text) text))
    one
    ∙ ap (λ b. by false b (eqb (prefix_len is_space text) list.column) (drop (prefix_len is_space text) text)) two
    ∙ ap (λ b. by false false b (drop (prefix_len is_space text) text)) three
    ∙ ap (λ h. by false false true h) four
    ∙ within_run before (item_key_line document list line head) rest

-- a line that begins with the key of an entry belongs to no value above it in its column
in_column_starts : (list : ItemListFields) (line : ℕ) (head : List ℕ) (said : Entry) → entry_at line head ≡ Ok said
    → ltb list.column (indent (replicate list.column space ++ head)) ≡ false
unfolding indent
in_column_starts list line head said e =
    let i : prefix_len is_space (replicate list.column space ++ head)
    ≡ list.column = spelled_indent list.column head (entry_unspaced line head said e) in
    not_less _ _ (omega arith)

entries_start : (list : ItemListFields) (entries : List ItemEntry) (old new : OpenItemFields) (rest : List ReadLine)
    → Starts (Some list) rest
    → ItemEntries list.kind list.column entries old new → Starts (Some list) (entries_then list.column entries rest)
entries_start list [] old new rest s e = s
entries_start list (entry ∷ entries) old new rest s e = in_column_starts list entry.number entry.head e.1.said e.1.key

pub entries_are_read : (before : List DocumentFields) (document : OpenDocumentFields) (list : ItemListFields) (entries : List ItemEntry)
    (old new : OpenItemFields) (rest : List ReadLine) → list.dash < list.column → Starts (Some list) rest
    → ItemEntries list.kind list.column entries old new
    → run_keys before document (Some (record list { item = old })) (entries_then list.column entries rest)
    ≡ run_keys before document (Some (record list { item = new })) rest
entries_are_read before document list [] old new rest lt s e = ap (λ i. run_keys before document (Some (record list { item = i })) rest)
    (sym e)
entries_are_read before document list (entry ∷ entries) old new rest lt s e =
    key_in_column before document (record list { item = old }) entry.number entry.head e.1.said
    (entry.more ++ entries_then list.column entries rest) lt e.1.key
    ∙ entry_is_read before document (record list { item = old }) entry e.0 (entries_then list.column entries rest)
    (entries_start list entries e.0 new rest s e.2) e.1
    ∙ entries_are_read before document list entries e.0 new rest lt s e.2

-- ---- the first line of an item

first_by : List DocumentFields → OpenDocumentFields → ItemKind → List ItemFields → ℕ → List ReadLine → Bool → ℕ → ℕ → List ℕ
    → Reading (List DocumentFields)
first_by before document kind items line rest dashed at column head =
    cond dashed (item_key_line document (record { kind = kind; items = items; dash = at; column = column; item = no_item }) line head)
    (outside line) >>= λ inside. run_in before inside rest

pub first_is_read : (before : List DocumentFields) (document : OpenDocumentFields) (kind : ItemKind) (items : List ItemFields)
    (at gap line : ℕ) (text head : List ℕ) (rest : List ReadLine) → DashLine at gap text head
    → (first_line document kind items line text >>= λ inside. run_in before inside rest)
    ≡ (item_key_line document (record { kind = kind; items = items; dash = at; column = at + 1 + gap; item = no_item }) line head >>=
    λ inside. run_in before inside rest)
unfolding first_line first_by
first_is_read before document kind items at gap line text head rest d =
    let by = first_by before document kind items line rest in
    ap (λ b. by b (indent text) (key_column text) (drop (key_column text) text)) d.dashed
    ∙ ap (λ i. by true i (key_column text) (drop (key_column text) text)) d.indented
    ∙ ap (λ c. by true at c (drop (key_column text) text)) d.column
    ∙ ap (λ h. by true at (at + 1 + gap) h) d.behind

-- the whole of an item, behind other items
pub item_is_read : (before : List DocumentFields) (document : OpenDocumentFields) (kind : ItemKind) (items : List ItemFields)
    (at line : ℕ) (tree : ItemTree) (one : ItemFields) (rest : List ReadLine) (is : IsItem line kind at tree one)
    → Starts (Some (record { kind = kind; items = items; dash = at; column = column_of at tree; item = no_item })) rest
    → (first_line document kind items tree.first.number (replicate at space ++ dash ∷ (replicate tree.gap space ++ tree.first.head)) >>= λ
    inside. run_in before inside (tree.first.more ++ entries_then (column_of at tree) tree.others rest))
    ≡ run_keys before document (Some (record { kind = kind; items = items; dash = at; column = column_of at tree; item = is.read })) rest
item_is_read before document kind items at line tree one rest is s =
    let list : ItemListFields = record { kind = kind; items = items; dash = at; column = column_of at tree; item = no_item } in
    let lt : at < column_of at tree = omega arith in
    let first = is.entries.1 in
    let text = replicate at space ++ dash ∷ (replicate tree.gap space ++ tree.first.head) in
    first_is_read before document kind items at tree.gap tree.first.number text tree.first.head
    (tree.first.more ++ entries_then (column_of at tree) tree.others rest)
    (dash_line at tree.gap tree.first.head is.spaced (entry_unspaced tree.first.number tree.first.head first.said first.key))
    ∙ entry_is_read before document list tree.first is.entries.0 (entries_then (column_of at tree) tree.others rest)
    (entries_start list tree.others is.entries.0 is.read rest s is.entries.2) first
    ∙ entries_are_read before document list tree.others is.entries.0 is.read rest lt s is.entries.2
