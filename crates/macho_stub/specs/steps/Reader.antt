-- Reading a stub text line by line.
use Rattle.std.specs.Prelude.{ℕ, ◌+◌, Bool, ◌&&◌, List, [], ◌∷◌, ◌++◌, map, length, drop, Option, Some, None, Ok, is_some, ◌==◌, nat_lt, slice_index, if◌then◌else◌}
use Rattle.std.specs.Option.{option_map}
use Rattle.std.specs.Str.{bytes_eq}
use Rattle.std.specs.Str.Lines.{lines}
use Rattle.macho_stub_lines.specs.declared.keys.ItemKind.{ItemKind}
use Rattle.macho_stub_lines.specs.declared.keys.ItemKey.{ItemKey}
use Rattle.macho_stub_lines.specs.declared.keys.ItemKey.TheVariants as item
use Rattle.macho_stub_lines.specs.declared.keys.TopKey.{TopKey}
use Rattle.macho_stub_lines.specs.declared.keys.TopKey.TheVariants as top
use Rattle.macho_stub_lines.specs.declared.list.Expect.{Expect}
use Rattle.macho_stub_lines.specs.declared.list.Expect.TheVariants.{AfterOpen, AfterComma, AfterName, Closed}
use Rattle.macho_stub_lines.specs.declared.fault.StubRule.TheVariants.{S3}
use Rattle.macho_stub.specs.declared.state.ItemList.{ItemList}
use Rattle.macho_stub.specs.declared.state.NameList.{NameList}
use Rattle.macho_stub.specs.declared.state.Mode.{Mode}
use Rattle.macho_stub.specs.declared.state.Mode.TheVariants as mode
use Rattle.macho_stub.specs.declared.state.Inside.{Inside}
use Rattle.macho_stub.specs.declared.state.Place.{Place}
use Rattle.macho_stub.specs.declared.state.Place.TheVariants as place
use Rattle.macho_stub.specs.declared.state.State.{State}
use Rattle.macho_stub_lines.specs.Bytes.{open_bracket, indent, unspaced, is_passed, has_barred, head, end, has_dash, belongs_to_top}
use Rattle.macho_stub_lines.specs.Faults.{Reading, broken, outside, ◌>>=◌}
use Rattle.macho_stub_lines.specs.Lists.{ListPart, part_of, list_part, with_front}
use Rattle.macho_stub_lines.specs.Keys.{entry_at, scalar_value, version_value, top_key, item_key}
use Rattle.macho_stub.specs.Documents.{ItemFields, DocumentFields}
use Rattle.macho_stub.specs.steps.Opened.{OpenItemFields, OpenDocumentFields, open_item_of, items_of, document_of, open_document_of, no_item, head_at, has_key, with_key, with_top_key, has_items, with_items}
use Rattle.macho_stub.specs.steps.Whole.{whole_item, whole_document}

-- A list of items that is being read: the items before, the column of its dashes, the column of the keys of its
-- last item, and that item.
pub record ItemListFields : Type 0 where
  pub kind : ItemKind
  pub items : List ItemFields
  pub dash : ℕ
  pub column : ℕ
  pub item : OpenItemFields

-- A flow list that is being read: the line where it began, the key that it belongs to, and what was read of it.
pub record NameListFields : Type 0 where
  pub began : ℕ
  pub key : ItemKey
  pub part : ListPart

-- What the next line may be: a key, a line of a skipped value, a line of a flow list, or the first item under a key
-- of items that stands at a line.
pub data ModeFields : Type 0 where
  Keys : ModeFields
  Skipped : ModeFields
  Names : NameListFields → ModeFields
  NoItem : ItemKind → ℕ → ModeFields

-- Inside a document: the document so far, the list of items that is being read, if one is, and what the next line
-- may be.
pub record InsideFields : Type 0 where
  pub document : OpenDocumentFields
  pub list : Option ItemListFields
  pub mode : ModeFields

pub data PlaceFields : Type 0 where
  Outside : PlaceFields
  Within : InsideFields → PlaceFields

-- the documents before, and where the reading is
pub record StateFields : Type 0 where
  pub documents : List DocumentFields
  pub place : PlaceFields

abbrev pub item_list_of : ItemList → ItemListFields
item_list_of list = record {
  kind = list.kind;
  items = items_of list.items.items;
  dash = list.dash;
  column =
      list.column;
  item = open_item_of list.item;
}

abbrev pub name_list_of : NameList → NameListFields
name_list_of list = record { began = list.began; key = list.key; part = part_of list.part }

abbrev pub mode_of : Mode → ModeFields
mode_of mode.Keys = Keys
mode_of mode.Skipped = Skipped
mode_of (mode.Names list) = Names (name_list_of list)
mode_of (mode.NoItem kind line) = NoItem kind line

abbrev pub inside_of : Inside → InsideFields
inside_of inside = record {
  document = open_document_of inside.document;
  list = option_map item_list_of inside.list;
  mode = mode_of inside.mode;
}

abbrev pub place_of : Place → PlaceFields
place_of place.Outside = Outside
place_of (place.Within inside) = Within (inside_of inside)

abbrev pub state_of : State → StateFields
state_of state = record { documents = map document_of state.documents.items; place = place_of state.place }

-- the reading stays in the document, and the next line may be this
abbrev pub stays : OpenDocumentFields → Option ItemListFields → ModeFields → InsideFields
stays document list mode = record { document = document; list = list; mode = mode }

-- the flow list of a key has ended
abbrev pub with_names : OpenDocumentFields → Option ItemListFields → ItemKey → List (List ℕ) → InsideFields
with_names document None key names = stays (with_top_key key names document) None Keys
with_names document (Some list) key names = stays document
    (Some (record list { item = with_key key names list.item })) Keys

-- behind a line of a flow list, by what stands before the next token
abbrev pub behind_expect : OpenDocumentFields → Option ItemListFields → ℕ → ItemKey → ListPart → Expect → InsideFields
behind_expect document list began key part Closed = with_names document list key part.names
behind_expect document list began key part AfterOpen = stays document list
    (Names (record { began = began; key = key; part = part }))
behind_expect document list began key part AfterComma = stays document list
    (Names (record { began = began; key = key; part = part }))
behind_expect document list began key part AfterName = stays document list
    (Names (record { began = began; key = key; part = part }))

-- behind a line of a flow list
abbrev pub behind_part : OpenDocumentFields → Option ItemListFields → ℕ → ItemKey → ListPart → InsideFields
behind_part document list began key part = behind_expect document list began key part part.expect

-- a line of a flow list
unfoldable pub names_line : OpenDocumentFields → Option ItemListFields → ℕ → NameListFields → List ℕ
    → Reading InsideFields
names_line document list line names text = do
  part ← with_front names.part.names (list_part line names.part.expect 0 text)
  Ok (behind_part document list names.began names.key part)

-- a flow list that begins at this line, behind its bracket
abbrev pub opened : ℕ → ItemKey → NameListFields
opened line key = record { began = line; key = key; part = record { names = []; expect = AfterOpen } }

-- the value of a key that is read as a flow list
unfoldable pub names_value : OpenDocumentFields → Option ItemListFields → ℕ → ItemKey → List ℕ → Reading InsideFields
names_value document list line key value =
    if slice_index value 0 == open_bracket then names_line document list line (opened line key) (drop 1 value) else
    outside line

-- the value of a key that is skipped
unfoldable pub skipped_value : OpenDocumentFields → Option ItemListFields → ℕ → List ℕ → Reading InsideFields
skipped_value document list line value =
    if slice_index value 0 == open_bracket then names_line document list line (opened line item.Unread) (drop 1 value)
    else Ok (stays document list Skipped)

-- the value of a key that must not have come before
abbrev pub once : {A : Type 0} → ℕ → Bool → Reading A → Reading A
once line had reading = if had then broken line S3 else reading

-- a key of an item
abbrev pub item_entry : OpenDocumentFields → ItemListFields → ℕ → ItemKey → List ℕ → Reading InsideFields
item_entry document list line item.Unread value = skipped_value document (Some list) line value
item_entry document list line item.Targets value = once line (has_key item.Targets list.item)
    (names_value document (Some list) line item.Targets value)
item_entry document list line item.Names value = once line (has_key item.Names list.item)
    (names_value document (Some list) line item.Names value)
item_entry document list line item.WeakNames value = once line (has_key item.WeakNames list.item)
    (names_value document (Some list) line item.WeakNames value)

-- a line, or what stands behind its dash, with a key of an item
unfoldable pub item_key_line : OpenDocumentFields → ItemListFields → ℕ → List ℕ → Reading InsideFields
item_key_line document list line text = do
  entry ← entry_at line text
  item_entry document list line (item_key list.kind entry.key) entry.value

-- the column of the key behind a dash
unfoldable pub key_column : List ℕ → ℕ
key_column line = indent line + 1 + indent (drop (indent line + 1) line)

-- the first line of an item, behind other items
unfoldable pub first_line : OpenDocumentFields → ItemKind → List ItemFields → ℕ → List ℕ → Reading InsideFields
first_line document kind items line text =
    if has_dash text
    then item_key_line document (record
    { kind = kind; items = items; dash = indent text; column = key_column text; item = no_item }) line
    (drop (key_column text) text)
    else outside line

-- a key of a document
abbrev pub top_entry : OpenDocumentFields → ℕ → TopKey → List ℕ → Reading InsideFields
top_entry document line top.Version value = once line (is_some document.version) (do
  version ← version_value line value
  Ok (stays (record document { version = Some version }) None Keys))
top_entry document line top.Targets value = once line (is_some document.targets)
    (names_value document None line item.Targets value)
top_entry document line top.InstallName value = once line (is_some document.install_name) (do
  text ← scalar_value line value
  Ok (stays (record document { install_name = Some text }) None Keys))
top_entry document line top.CurrentVersion value = once line (is_some document.current_version) (do
  text ← scalar_value line value
  Ok (stays (record document { current_version = Some text }) None Keys))
top_entry document line (top.Items kind) value = once line (has_items kind document)
    (if length value == 0 then Ok (stays document None (NoItem kind line)) else outside line)
top_entry document line top.Unread value = skipped_value document None line value

-- the documents before, and inside this one
abbrev pub within : List DocumentFields → Reading InsideFields → Reading StateFields
within documents reading = reading >>= λ inside. Ok (record { documents = documents; place = Within inside })

-- the documents with this one behind them, as a whole
unfoldable pub with_whole : List DocumentFields → OpenDocumentFields → Reading (List DocumentFields)
with_whole documents document = do
  whole ← whole_document document
  Ok (documents ++ whole ∷ [])

-- a line at column 0, behind the keys of a document
unfoldable pub top_line : List DocumentFields → OpenDocumentFields → ℕ → List ℕ → Reading StateFields
top_line documents document line text =
    if bytes_eq text head then (do
      whole ← with_whole documents document
      Ok (record { documents = whole; place = Within (stays (head_at line) None Keys) }))
    else (if bytes_eq text end then (do
      whole ← with_whole documents document
      Ok (record { documents = whole; place = Outside }))
    else (do
      entry ← entry_at line text
      within documents (top_entry document line (top_key entry.key) entry.value)))

-- the items with the one that was read last, as a whole
unfoldable pub items_with_last : ℕ → ItemListFields → Reading (List ItemFields)
items_with_last line list = do
  item ← whole_item line list.kind list.item
  Ok (list.items ++ item ∷ [])

-- A line behind the keys of an item: a dash in the column of the list's dashes begins the next item, a line at
-- column 0 ends the list, and a line in the column of the item's keys is one of them.
unfoldable pub item_line : List DocumentFields → OpenDocumentFields → ItemListFields → ℕ → List ℕ
    → Reading StateFields
item_line documents document list line text =
    if has_dash text && indent text == list.dash then (do
      items ← items_with_last document.line list
      within documents (first_line document list.kind items line text))
    else (if indent text == 0 then (do
      items ← items_with_last document.line list
      top_line documents (with_items list.kind items document) line text)
    else (if indent text == list.column
    then within documents (item_key_line document list line (unspaced text))
    else outside line))

-- a line where a key may stand
abbrev pub key_line : List DocumentFields → OpenDocumentFields → Option ItemListFields → ℕ → List ℕ
    → Reading StateFields
key_line documents document None line text = top_line documents document line text
key_line documents document (Some list) line text = item_line documents document list line text

-- the line belongs to the skipped value of a key
abbrev pub belongs : Option ItemListFields → List ℕ → Bool
belongs None text = belongs_to_top text
belongs (Some list) text = nat_lt list.column (indent text)

-- a line inside a document
abbrev pub inside_line : List DocumentFields → OpenDocumentFields → Option ItemListFields → ModeFields → ℕ → List ℕ
    → Reading StateFields
inside_line documents document list Keys line text = key_line documents document list line text
inside_line documents document list Skipped line text =
    if belongs list text then Ok (record { documents = documents; place = Within (stays document list Skipped) }) else
    key_line documents document list line text
inside_line documents document list (Names names) line text =
    if bytes_eq text end then outside line else within documents (names_line document list line names text)
inside_line documents document list (NoItem kind at) line text = within documents
    (first_line document kind [] line text)

-- a line with content
abbrev pub content_line : List DocumentFields → PlaceFields → ℕ → List ℕ → Reading StateFields
content_line documents Outside line text =
    if bytes_eq text head then Ok (record { documents = documents; place = Within (stays (head_at line) None Keys) })
    else outside line
content_line documents (Within inside) line text = inside_line documents inside.document inside.list inside.mode line
    text

-- any line
unfoldable pub line_step : StateFields → ℕ → List ℕ → Reading StateFields
line_step state line text =
    if has_barred text then outside line else
    (if is_passed text then Ok state else content_line state.documents state.place line text)

-- the document that the text ends in, behind its keys
abbrev pub ended_document : List DocumentFields → OpenDocumentFields → Option ItemListFields
    → Reading (List DocumentFields)
ended_document documents document None = with_whole documents document
ended_document documents document (Some list) = do
  items ← items_with_last document.line list
  with_whole documents (with_items list.kind items document)

-- where the text ends inside a document
abbrev pub ended_inside : List DocumentFields → OpenDocumentFields → Option ItemListFields → ModeFields
    → Reading (List DocumentFields)
ended_inside documents document list Keys = ended_document documents document list
ended_inside documents document list Skipped = ended_document documents document list
ended_inside documents document list (Names names) = outside names.began
ended_inside documents document list (NoItem kind at) = outside at

-- where the text ends
abbrev pub ended : List DocumentFields → PlaceFields → Reading (List DocumentFields)
ended documents Outside = Ok documents
ended documents (Within inside) = ended_inside documents inside.document inside.list inside.mode

-- the lines from this one on
unfoldable pub lines_from : StateFields → ℕ → List (List ℕ) → Reading (List DocumentFields)
lines_from state line [] = ended state.documents state.place
lines_from state line (text ∷ texts) = do
  next ← line_step state line text
  lines_from next (line + 1) texts

-- before the first line
abbrev pub start : StateFields
start = record { documents = []; place = Outside }

-- the documents of a text
unfoldable pub documents_of : List ℕ → Reading (List DocumentFields)
documents_of text = lines_from start 1 (lines text)
