-- What is in the grammar is read: lists of items. Behind an item stands the next one's dash, or the list has ended.
-- Where the list has ended, a line in column 0 or the end of the text closes the last item, which lacks no key, and the
-- reading goes on in the document with all the items (`item_ends`). Where a dash follows in the column of the list's, it
-- closes the item before it and begins the next. So the items of a list are read one after the other (`items_go_on`), the
-- first from where an item must stand (`items_are_read`).
use Rattle.std.proofs.Common.{◌≡◌, ℕ, ◌<◌, ◌&&◌, true, false, eqb, List, [], ◌∷◌, ◌++◌, replicate, Some, None, Ok, ap, ◌∙◌, arith, append_assoc}
use Rattle.macho_stub_lines.specs.declared.keys.ItemKind.{ItemKind}
use Rattle.macho_stub_lines.specs.Bytes.{space, dash, indent, unspaced, has_dash}
use Rattle.macho_stub_lines.specs.Faults.{◌>>=◌}
use Rattle.macho_stub.specs.Documents.{ItemFields, DocumentFields}
use Rattle.macho_stub.specs.steps.Opened.{OpenDocumentFields, with_items}
use Rattle.macho_stub.specs.steps.Whole.{whole_item}
use Rattle.macho_stub.specs.steps.Reader.{ItemListFields, first_line, items_with_last, within, with_whole, top_line, item_line}
use Rattle.macho_stub_lines.specs.ReadLists.{ReadLine}
use Rattle.macho_stub.proofs.Readings.{ItemTree, column_of, entries_then, items_then, AreItems}
use Rattle.macho_stub_lines.proofs.Bind.{eq_true}
use Rattle.macho_stub.proofs.Rest.{run}
use Rattle.macho_stub.proofs.OnlyLines.{entry_unspaced, top_indent, top_no_dash, DashLine, dash_line}
use Rattle.macho_stub.proofs.OnlyLists.{run_in, run_keys, Starts}
use Rattle.macho_stub.proofs.OnlyItems.{by_tests, within_run, item_is_read}
use Rattle.macho_bytes.proofs.Comparing.{not_less}

-- the lines begin with none that belongs to a skipped value of a document: so they begin at column 0
abbrev pub TopStarts : List ReadLine → Type 0
TopStarts rest = Starts None rest

-- the items with the last one
last_is : (line : ℕ) (list : ItemListFields) (one : ItemFields) → whole_item line list.kind list.item ≡ Ok one → items_with_last line list
    ≡ Ok (list.items ++ one ∷ [])
unfolding items_with_last
last_is line list one e = ap (λ reading. reading >>= λ item. Ok (list.items ++ item ∷ [])) e

-- the list ends with its last item
item_ends : (before : List DocumentFields) (document : OpenDocumentFields) (list : ItemListFields) (one : ItemFields) (rest : List ReadLine)
    → whole_item document.line list.kind list.item ≡ Ok one → TopStarts rest
    → run_keys before document (Some list) rest ≡ run_keys before (with_items list.kind (list.items ++ one ∷ []) document) None rest
unfolding item_line by_tests
item_ends before document list one [] e s = ap (λ reading. reading >>= λ items. with_whole before (with_items list.kind items document))
    (last_is document.line list one e)
item_ends before document list one (line ∷ rest) e s =
    let by = by_tests before document list line.number line.text rest in
    let zero : indent line.text ≡ 0 = top_indent line.text s in
    let first : (has_dash line.text && eqb (indent line.text) list.dash)
    ≡ false = ap (λ b. b && eqb (indent line.text) list.dash) (top_no_dash line.text s) in
    ap (λ b. by b (eqb (indent line.text) 0) (eqb (indent line.text) list.column) (unspaced line.text)) first
    ∙ ap (λ b. by false b (eqb (indent line.text) list.column) (unspaced line.text)) (eq_true _ _ zero)
    ∙ ap (λ reading. (reading >>= λ items. top_line before (with_items list.kind items document) line.number line.text) >>= λ next. run
    next.documents next.place rest) (last_is document.line list one e)

-- the next item's dash
next_item : (before : List DocumentFields) (document : OpenDocumentFields) (list : ItemListFields) (one : ItemFields) (line gap : ℕ)
    (text head : List ℕ) (rest : List ReadLine) → whole_item document.line list.kind list.item ≡ Ok one → DashLine list.dash gap text head
    → run_keys before document (Some list) (record { number = line; text = text } ∷ rest)
    ≡ (first_line document list.kind (list.items ++ one ∷ []) line text >>= λ inside. run_in before inside rest)
unfolding item_line by_tests
next_item before document list one line gap text head rest e d =
    let by = by_tests before document list line text rest in
    let at : (has_dash text && eqb (indent text) list.dash) ≡ true = ap (λ b. b && eqb (indent text) list.dash) d.dashed
    ∙ eq_true _ _ d.indented in
    ap (λ b. by b (eqb (indent text) 0) (eqb (indent text) list.column) (unspaced text)) at
    ∙ ap (λ reading. (reading >>= λ items. within before (first_line document list.kind items line text)) >>= λ next. run next.documents
    next.place rest) (last_is document.line list one e)
    ∙ within_run before (first_line document list.kind (list.items ++ one ∷ []) line text) rest

-- what follows the entries of an item begins with none of its lines
items_start : (list : ItemListFields) (line : ℕ) (kind : ItemKind) (trees : List ItemTree) (says : List ItemFields) (rest : List ReadLine)
    → list.dash < list.column → TopStarts rest → AreItems line kind list.dash trees says
    → Starts (Some list) (items_then list.dash trees rest)
items_start list line kind [] [] [] lt s a = tt
items_start list line kind [] [] (first ∷ rest) lt s a = not_less _ _ (omega (arith, top_indent first.text s))
items_start list line kind [] (one ∷ says) rest lt s a = absurd a
items_start list line kind (tree ∷ trees) [] rest lt s a = absurd a
items_start list line kind (tree ∷ trees) (one ∷ says) rest lt s a =
    let first = a.0.entries.1 in
    let d = dash_line list.dash tree.gap tree.first.head a.0.spaced
    (entry_unspaced tree.first.number tree.first.head first.said first.key) in
    not_less _ _ (omega (arith, d.indented))

pub items_go_on : (before : List DocumentFields) (document : OpenDocumentFields) (list : ItemListFields) (one : ItemFields)
    (trees : List ItemTree) (says : List ItemFields) (rest : List ReadLine)
    → whole_item document.line list.kind list.item ≡ Ok one → list.dash < list.column → TopStarts rest
    → AreItems document.line list.kind list.dash trees says
    → run_keys before document (Some list) (items_then list.dash trees rest)
    ≡ run_keys before (with_items list.kind (list.items ++ one ∷ says) document) None rest
items_go_on before document list one [] [] rest e lt s a = item_ends before document list one rest e s
items_go_on before document list one [] (next ∷ says) rest e lt s a = absurd a
items_go_on before document list one (tree ∷ trees) [] rest e lt s a = absurd a
items_go_on before document list one (tree ∷ trees) (next ∷ says) rest e lt s a =
    let first = a.0.entries.1 in
    let items = list.items ++ one ∷ [] in
    let behind : ItemListFields = record
    { kind = list.kind; items = items; dash = list.dash; column = column_of list.dash tree; item = a.0.read } in
    let below : list.dash < column_of list.dash tree = omega arith in
    let d = dash_line list.dash tree.gap tree.first.head a.0.spaced
    (entry_unspaced tree.first.number tree.first.head first.said first.key) in
    let tail = items_then list.dash trees rest in
    next_item before document list one tree.first.number tree.gap _ tree.first.head
    (tree.first.more ++ entries_then (column_of list.dash tree) tree.others tail) e d
    ∙ item_is_read before document list.kind items list.dash document.line tree next tail a.0
    (items_start behind document.line list.kind trees says rest below s a.1)
    ∙ items_go_on before document behind next trees says rest a.0.whole below s a.1
    ∙ ap (λ all. run_keys before (with_items list.kind all document) None rest) (append_assoc list.items (one ∷ []) (next ∷ says))

-- the items under a key
pub items_are_read : (before : List DocumentFields) (document : OpenDocumentFields) (kind : ItemKind) (at : ℕ) (tree : ItemTree)
    (trees : List ItemTree) (one : ItemFields) (says : List ItemFields) (rest : List ReadLine)
    → TopStarts rest → AreItems document.line kind at (tree ∷ trees) (one ∷ says)
    → (first_line document kind [] tree.first.number (replicate at space ++ dash ∷ (replicate tree.gap space ++ tree.first.head)) >>= λ
    inside. run_in before inside (tree.first.more ++ entries_then (column_of at tree) tree.others (items_then at trees rest)))
    ≡ run_keys before (with_items kind (one ∷ says) document) None rest
items_are_read before document kind at tree trees one says rest s a =
    let behind : ItemListFields = record { kind = kind; items = []; dash = at; column = column_of at tree; item = a.0.read } in
    let below : at < column_of at tree = omega arith in
    item_is_read before document kind [] at document.line tree one (items_then at trees rest) a.0
    (items_start behind document.line kind trees says rest below s a.1)
    ∙ items_go_on before document behind one trees says rest a.0.whole below s a.1
