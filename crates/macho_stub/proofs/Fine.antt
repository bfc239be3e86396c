-- A step that doesn't fail leaves the reading in good order: keys of an item stand behind its dash, and a list that
-- goes on isn't closed. One that fails tells its line, or that an item or a document lacks a key.
-- Both are said at once of each reading (`Fine`, in `FineLines`) and go through its steps and choices: from the lines
-- of flow lists and the values, to the entries of items and documents, to what closes an item or a document, and to any
-- line (`line_step_fine`). A list that a dash begins has its keys behind the dash since the column of the key is
-- counted from there (`dash_before_key`).
use Rattle.std.proofs.Common.{◌≢◌, ℕ, ◌<◌, ◌&&◌, cond, eqb, length, List, [], drop, Option, Some, None, Ok, refl, arith, inl, inr}
use Rattle.std.specs.Str.{bytes_eq}
use Rattle.macho_stub_lines.specs.declared.keys.ItemKind.{ItemKind}
use Rattle.macho_stub_lines.specs.declared.keys.ItemKind.TheVariants.{Libraries, Exports, Reexports}
use Rattle.macho_stub_lines.specs.declared.keys.ItemKey.{ItemKey}
use Rattle.macho_stub_lines.specs.declared.keys.ItemKey.TheVariants as item
use Rattle.macho_stub_lines.specs.declared.keys.TopKey.{TopKey}
use Rattle.macho_stub_lines.specs.declared.keys.TopKey.TheVariants as top
use Rattle.macho_stub_lines.specs.declared.list.Expect.{Expect}
use Rattle.macho_stub_lines.specs.declared.list.Expect.TheVariants.{AfterOpen, AfterComma, AfterName, Closed}
use Rattle.macho_stub_lines.specs.declared.fault.StubRule.TheVariants.{S1, S3}
use Rattle.macho_stub_lines.specs.Bytes.{indent, unspaced, is_passed, has_barred, has_dash, head, end}
use Rattle.macho_stub_lines.specs.Faults.{Reading, ◌>>=◌, broken, outside}
use Rattle.macho_stub_lines.specs.Lists.{list_part, with_front}
use Rattle.macho_stub_lines.specs.Keys.{entry_at, scalar_value, version_value, top_key, item_key}
use Rattle.macho_stub.specs.Documents.{ItemFields, DocumentFields}
use Rattle.macho_stub.specs.steps.Opened.{OpenItemFields, OpenDocumentFields, no_item, with_items, has_items}
use Rattle.macho_stub.specs.steps.Whole.{wanted, wanted_names, whole_item, whole_document}
use Rattle.macho_stub.specs.steps.Reader.{ItemListFields, NameListFields, ModeFields, Keys, Skipped, Names, NoItem, InsideFields, PlaceFields, Outside, Within, StateFields, stays, with_names, behind_expect, names_line, names_value, opened, skipped_value, item_entry, item_key_line, key_column, first_line, top_entry, within, with_whole, top_line, items_with_last, item_line, key_line, inside_line, content_line, line_step}
use Rattle.macho_stub.proofs.FineLines.{Fine, AnyOf, outside_at, here_at, lacking_at, fine_ok, fine_err, fine_here, fine_bind, fine_if, weaker, free, entry_fine, scalar_fine, version_fine, front_fine, part_fine}
use Rattle.macho_stub.proofs.Branches.{at_head, at_end, at_entry, then_first, then_top}

-- ---- inside a document

-- keys of an item stand behind its dash
abbrev pub GoodList : Option ItemListFields → Type 0
GoodList None = Unit {0}
GoodList (Some list) = list.dash < list.column

-- a flow list that goes on isn't closed
abbrev pub GoodMode : ModeFields → Type 0
GoodMode Keys = Unit {0}
GoodMode Skipped = Unit {0}
GoodMode (Names names) = names.part.expect ≢ Closed
GoodMode (NoItem kind line) = Unit {0}

-- inside a document the reading is in good order by both
abbrev pub GoodInside : InsideFields → Type 0
GoodInside inside = GoodList inside.list × GoodMode inside.mode

-- outside documents it always is
abbrev pub GoodPlace : PlaceFields → Type 0
GoodPlace Outside = Unit {0}
GoodPlace (Within inside) = GoodInside inside

-- and a state is by its place
abbrev pub GoodState : StateFields → Type 0
GoodState state = GoodPlace state.place

good_names : (document : OpenDocumentFields) (list : Option ItemListFields) (key : ItemKey) (names : List (List ℕ)) → GoodList list
    → GoodInside (with_names document list key names)
good_names document None key names g = (tt, tt)
good_names document (Some list) key names g = (g, tt)

good_expect : (document : OpenDocumentFields) (list : Option ItemListFields) (began : ℕ) (key : ItemKey) (names : List (List ℕ))
    (expect : Expect) → GoodList list
    → GoodInside (behind_expect document list began key (record { names = names; expect = expect }) expect)
good_expect document list began key names Closed g = good_names document list key names g
good_expect document list began key names AfterOpen g = (g, λ e. cc)
good_expect document list began key names AfterComma g = (g, λ e. cc)
good_expect document list began key names AfterName g = (g, λ e. cc)

-- a line of a flow list leaves the reading in good order, or is outside the grammar
pub names_line_fine : (document : OpenDocumentFields) (list : Option ItemListFields) (line : ℕ) (names : NameListFields) (text : List ℕ)
    → GoodList list → Fine GoodInside (outside_at line) (names_line document list line names text)
unfolding names_line
names_line_fine document list line names text g =
    fine_bind AnyOf GoodInside (outside_at line) (with_front names.part.names (list_part line names.part.expect 0 text)) _
    (front_fine line names.part.names (list_part line names.part.expect 0 text) (part_fine line names.part.expect 0 text))
    (λ part _. fine_ok _ (good_expect document list names.began names.key part.names part.expect g))

-- and so does a value that begins a flow list
pub names_value_fine : (document : OpenDocumentFields) (list : Option ItemListFields) (line : ℕ) (key : ItemKey) (value : List ℕ)
    → GoodList list → Fine GoodInside (outside_at line) (names_value document list line key value)
unfolding names_value
names_value_fine document list line key value g = fine_if GoodInside (outside_at line) _ _ _
    (names_line_fine document list line (opened line key) (drop 1 value) g) (fine_here)

-- and a value that is skipped
pub skipped_value_fine : (document : OpenDocumentFields) (list : Option ItemListFields) (line : ℕ) (value : List ℕ) → GoodList list
    → Fine GoodInside (outside_at line) (skipped_value document list line value)
unfolding skipped_value
skipped_value_fine document list line value g = fine_if GoodInside (outside_at line) _ _ _
    (names_line_fine document list line (opened line item.Unread) (drop 1 value) g) (fine_ok _ (g, tt))

here_outside : {A : Type 0} {P : A → Type 0} {line : ℕ} → Fine P (here_at line) (outside {A = A} line)
here_outside {A} {P} {line} = fine_err (record { line = line; rule = S1 }) (inl refl)

here_twice : {A : Type 0} {P : A → Type 0} {line : ℕ} → Fine P (here_at line) (broken {A = A} line S3)
here_twice {A} {P} {line} = fine_err (record { line = line; rule = S3 }) (inr refl)

pub widen : {A : Type 0} (P : A → Type 0) (line : ℕ) (r : Reading A) → Fine P (outside_at line) r → Fine P (here_at line) r
widen P line r h = weaker P (outside_at line) (here_at line) r (λ fault q. inl q) h

-- an entry of an item does so too, or has a key that stands twice
pub item_entry_fine : (document : OpenDocumentFields) (list : ItemListFields) (line : ℕ) (key : ItemKey) (value : List ℕ)
    → list.dash < list.column → Fine GoodInside (here_at line) (item_entry document list line key value)
item_entry_fine document list line item.Unread value g = widen GoodInside line _ (skipped_value_fine document (Some list) line value g)
item_entry_fine document list line item.Targets value g = fine_if GoodInside (here_at line) _ _ _ here_twice
    (widen GoodInside line _ (names_value_fine document (Some list) line item.Targets value g))
item_entry_fine document list line item.Names value g = fine_if GoodInside (here_at line) _ _ _ here_twice
    (widen GoodInside line _ (names_value_fine document (Some list) line item.Names value g))
item_entry_fine document list line item.WeakNames value g = fine_if GoodInside (here_at line) _ _ _ here_twice
    (widen GoodInside line _ (names_value_fine document (Some list) line item.WeakNames value g))

pub item_key_line_fine : (document : OpenDocumentFields) (list : ItemListFields) (line : ℕ) (text : List ℕ) → list.dash < list.column
    → Fine GoodInside (here_at line) (item_key_line document list line text)
unfolding item_key_line
item_key_line_fine document list line text g =
    fine_bind AnyOf GoodInside (here_at line) (entry_at line text) _ (widen AnyOf line _ (entry_fine line text))
    (λ entry _. item_entry_fine document list line (item_key list.kind entry.key) entry.value g)

-- the key behind a dash begins behind the dash's column
pub dash_before_key : (text : List ℕ) → indent text < key_column text
unfolding key_column
dash_before_key text = omega arith

pub first_line_fine : (document : OpenDocumentFields) (kind : ItemKind) (items : List ItemFields) (line : ℕ) (text : List ℕ)
    → Fine GoodInside (here_at line) (first_line document kind items line text)
unfolding first_line
first_line_fine document kind items line text =
    fine_if GoodInside (here_at line) _ _ _ (item_key_line_fine document
    (record { kind = kind; items = items; dash = indent text; column = key_column text; item = no_item }) line
    (drop (key_column text) text) (dash_before_key text)) here_outside

-- an entry of a document leaves the reading in good order, is outside the grammar, or has a key that stands twice
pub top_entry_fine : (document : OpenDocumentFields) (line : ℕ) (key : TopKey) (value : List ℕ)
    → Fine GoodInside (here_at line) (top_entry document line key value)
top_entry_fine document line top.Version value = fine_if GoodInside (here_at line) _ _ _ here_twice
    (fine_bind AnyOf GoodInside (here_at line) (version_value line value) _ (widen AnyOf line _ (version_fine line value)) (λ x _. fine_ok
    _ (tt, tt)))
top_entry_fine document line top.Targets value = fine_if GoodInside (here_at line) _ _ _ here_twice
    (widen GoodInside line _ (names_value_fine document None line item.Targets value tt))
top_entry_fine document line top.InstallName value = fine_if GoodInside (here_at line) _ _ _ here_twice
    (fine_bind AnyOf GoodInside (here_at line) (scalar_value line value) _ (widen AnyOf line _ (scalar_fine line value)) (λ x _. fine_ok _
    (tt, tt)))
top_entry_fine document line top.CurrentVersion value = fine_if GoodInside (here_at line) _ _ _ here_twice
    (fine_bind AnyOf GoodInside (here_at line) (scalar_value line value) _ (widen AnyOf line _ (scalar_fine line value)) (λ x _. fine_ok _
    (tt, tt)))
top_entry_fine document line (top.Items kind) value =
    fine_if GoodInside (here_at line) (has_items kind document) (broken line S3)
    (cond (eqb (length value) 0) (Ok (stays document None (NoItem kind line))) (outside line)) here_twice
    (fine_if GoodInside (here_at line) (eqb (length value) 0) (Ok (stays document None (NoItem kind line))) (outside line) (fine_ok _ (
      tt,
      tt,
    ))
    here_outside)
top_entry_fine document line top.Unread value = widen GoodInside line _ (skipped_value_fine document None line value tt)

-- ---- what is lacking

wanted_fine : {A : Type 0} (at : ℕ) (x : Option A) → Fine AnyOf (lacking_at at) (wanted at x)
wanted_fine at None = fine_err _ refl
wanted_fine at (Some x) = fine_ok _ tt

wanted_names_fine : (at : ℕ) (kind : ItemKind) (names : Option (List (List ℕ))) → Fine AnyOf (lacking_at at) (wanted_names at kind names)
wanted_names_fine at Libraries names = wanted_fine at names
wanted_names_fine at Exports names = fine_ok _ tt
wanted_names_fine at Reexports names = fine_ok _ tt

whole_item_fine : (at : ℕ) (kind : ItemKind) (open_item : OpenItemFields) → Fine AnyOf (lacking_at at) (whole_item at kind open_item)
unfolding whole_item
whole_item_fine at kind open_item =
    fine_bind AnyOf AnyOf (lacking_at at) (wanted at open_item.targets) _ (wanted_fine at open_item.targets) (λ t _.
    fine_bind AnyOf AnyOf (lacking_at at) (wanted_names at kind open_item.names) _ (wanted_names_fine at kind open_item.names)
    (λ n _. fine_ok _ tt))

whole_document_fine : (document : OpenDocumentFields) → Fine AnyOf (lacking_at document.line) (whole_document document)
unfolding whole_document
whole_document_fine document =
    fine_bind AnyOf AnyOf (lacking_at document.line) (wanted document.line document.version) _ (wanted_fine document.line document.version)
    (λ v _.
    fine_bind AnyOf AnyOf (lacking_at document.line) (wanted document.line document.targets) _ (wanted_fine document.line document.targets)
    (λ t _.
    fine_bind AnyOf AnyOf (lacking_at document.line) (wanted document.line document.install_name) _ (wanted_fine document.line
    document.install_name)
    (λ i _. fine_ok _ tt)))

-- a document that can't be closed lacks a key, which is told at its first line
pub with_whole_fine : (before : List DocumentFields) (document : OpenDocumentFields)
    → Fine AnyOf (lacking_at document.line) (with_whole before document)
unfolding with_whole
with_whole_fine before document = fine_bind AnyOf AnyOf (lacking_at document.line) (whole_document document) _ (whole_document_fine
    document)
    (λ w _. fine_ok _ tt)

-- and so does an item that can't be closed, told at the line that is given for it
pub items_with_last_fine : (at : ℕ) (list : ItemListFields) → Fine AnyOf (lacking_at at) (items_with_last at list)
unfolding items_with_last
items_with_last_fine at list = fine_bind AnyOf AnyOf (lacking_at at) (whole_item at list.kind list.item) _
    (whole_item_fine at list.kind list.item) (λ w _. fine_ok _ tt)

-- ---- lines of the text

within_fine : (line : ℕ) (before : List DocumentFields) (reading : Reading InsideFields) → Fine GoodInside AnyOf reading
    → Fine GoodState AnyOf (within before reading)
within_fine line before reading h = fine_bind GoodInside GoodState AnyOf reading _ h (λ inside g. fine_ok _ g)

top_line_fine : (before : List DocumentFields) (document : OpenDocumentFields) (line : ℕ) (text : List ℕ)
    → Fine GoodState AnyOf (top_line before document line text)
unfolding top_line
top_line_fine before document line text =
    fine_if GoodState AnyOf (bytes_eq text head) (with_whole before document >>= at_head line)
    (cond (bytes_eq text end) (with_whole before document >>= at_end) (entry_at line text >>= at_entry before document line))
    (fine_bind AnyOf GoodState AnyOf (with_whole before document) (at_head line) (free AnyOf _ _ (with_whole_fine before document))
    (λ w _. fine_ok _ (tt, tt)))
    (fine_if GoodState AnyOf (bytes_eq text end) (with_whole before document >>= at_end)
    (entry_at line text >>= at_entry before document line)
    (fine_bind AnyOf GoodState AnyOf (with_whole before document) at_end (free AnyOf _ _ (with_whole_fine before document)) (λ w _. fine_ok
    _ tt))
    (fine_bind AnyOf GoodState AnyOf (entry_at line text) (at_entry before document line) (free AnyOf _ _ (entry_fine line text))
    (λ entry _. within_fine line before (top_entry document line (top_key entry.key) entry.value)
    (free GoodInside _ _ (top_entry_fine document line (top_key entry.key) entry.value)))))

item_line_fine : (before : List DocumentFields) (document : OpenDocumentFields) (list : ItemListFields) (line : ℕ) (text : List ℕ)
    → list.dash < list.column → Fine GoodState AnyOf (item_line before document list line text)
unfolding item_line
item_line_fine before document list line text g =
    let by_key = cond (eqb (indent text) list.column) (within before (item_key_line document list line (unspaced text))) (outside line) in
    fine_if GoodState AnyOf (has_dash text && eqb (indent text) list.dash)
    (items_with_last document.line list >>= then_first before document list.kind line text)
    (cond (eqb (indent text) 0) (items_with_last document.line list >>= then_top before document list.kind line text) by_key)
    (fine_bind AnyOf GoodState AnyOf (items_with_last document.line list) (then_first before document list.kind line text)
    (free AnyOf _ _ (items_with_last_fine document.line list))
    (λ items _. within_fine line before (first_line document list.kind items line text)
    (free GoodInside _ _ (first_line_fine document list.kind items line text))))
    (fine_if GoodState AnyOf (eqb (indent text) 0) (items_with_last document.line list >>= then_top before document list.kind line text)
    by_key
    (fine_bind AnyOf GoodState AnyOf (items_with_last document.line list) (then_top before document list.kind line text)
    (free AnyOf _ _ (items_with_last_fine document.line list))
    (λ items _. top_line_fine before (with_items list.kind items document) line text))
    (fine_if GoodState AnyOf (eqb (indent text) list.column) (within before (item_key_line document list line (unspaced text)))
    (outside line) (within_fine line before (item_key_line document list line (unspaced text))
    (free GoodInside _ _ (item_key_line_fine document list line (unspaced text) g))) ((fine_err _ tt))))

key_line_fine : (before : List DocumentFields) (document : OpenDocumentFields) (list : Option ItemListFields) (line : ℕ) (text : List ℕ)
    → GoodList list → Fine GoodState AnyOf (key_line before document list line text)
key_line_fine before document None line text g = top_line_fine before document line text
key_line_fine before document (Some list) line text g = item_line_fine before document list line text g

inside_line_fine : (before : List DocumentFields) (document : OpenDocumentFields) (list : Option ItemListFields) (mode : ModeFields)
    (line : ℕ) (text : List ℕ) → GoodList list → Fine GoodState AnyOf (inside_line before document list mode line text)
inside_line_fine before document list Keys line text g = key_line_fine before document list line text g
inside_line_fine before document list Skipped line text g = fine_if GoodState AnyOf _ _ _ (fine_ok _ (g, tt))
    (key_line_fine before document list line text g)
inside_line_fine before document list (Names names) line text g = fine_if GoodState AnyOf (bytes_eq text end) (outside line)
    (within before (names_line document list line names text)) (fine_err _ tt)
    (within_fine line before (names_line document list line names text)
    (free GoodInside _ _ (names_line_fine document list line names text g)))
inside_line_fine before document list (NoItem kind at) line text g = within_fine line before (first_line document kind [] line text)
    (free GoodInside _ _ (first_line_fine document kind [] line text))

content_line_fine : (before : List DocumentFields) (place : PlaceFields) (line : ℕ) (text : List ℕ) → GoodPlace place
    → Fine GoodState AnyOf (content_line before place line text)
content_line_fine before Outside line text g = fine_if GoodState AnyOf _ _ _ (fine_ok _ (tt, tt)) ((fine_err _ tt))
content_line_fine before (Within inside) line text g = inside_line_fine before inside.document inside.list inside.mode line text g.0

-- A step that doesn't fail leaves the reading in good order.
pub line_step_fine : (state : StateFields) (line : ℕ) (text : List ℕ) → GoodState state → Fine GoodState AnyOf (line_step state line text)
unfolding line_step
line_step_fine state line text g =
    fine_if GoodState AnyOf (has_barred text) (outside line)
    (cond (is_passed text) (Ok state) (content_line state.documents state.place line text)) ((fine_err _ tt))
    (fine_if GoodState AnyOf (is_passed text) (Ok state) (content_line state.documents state.place line text) (fine_ok _ g)
    (content_line_fine state.documents state.place line text g))
