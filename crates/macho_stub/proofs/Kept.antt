-- What an entry leaves: the document's first line, and the line where a flow list or a key of items began.
-- Neither a key nor items change the first line of their document. A flow list or a key of items that an entry opens
-- begins at the entry's line (`Of`); a flow list that is closed on its line leaves none. So each reading of an entry
-- that gives a value has this of it, whatever its tests answer: this is said of readings (`Kept`), and goes through their
-- steps and choices. A line with a dash is no head.
use Rattle.std.proofs.Common.{◌≡◌, ◌≢◌, ℕ, Bool, true, false, cond, eqb, List, length, drop, Option, Some, None, Ok, is_some, refl, sym, ap, ◌∙◌, subst}
use Rattle.macho_stub_lines.specs.declared.keys.ItemKind.{ItemKind}
use Rattle.macho_stub_lines.specs.declared.keys.ItemKind.TheVariants.{Libraries, Exports, Reexports}
use Rattle.macho_stub_lines.specs.declared.keys.ItemKey.{ItemKey}
use Rattle.macho_stub_lines.specs.declared.keys.ItemKey.TheVariants as item
use Rattle.macho_stub_lines.specs.declared.keys.TopKey.{TopKey}
use Rattle.macho_stub_lines.specs.declared.keys.TopKey.TheVariants as top
use Rattle.macho_stub_lines.specs.declared.list.Expect.{Expect}
use Rattle.macho_stub_lines.specs.declared.list.Expect.TheVariants.{AfterOpen, AfterComma, AfterName, Closed}
use Rattle.macho_stub_lines.specs.declared.fault.StubRule.TheVariants.{S1, S3}
use Rattle.macho_stub_lines.specs.Bytes.{indent, head, has_dash}
use Rattle.macho_stub_lines.specs.Faults.{Reading, ◌>>=◌, broken, outside}
use Rattle.macho_stub_lines.specs.Lists.{ListPart, list_part, with_front}
use Rattle.macho_stub_lines.specs.Keys.{entry_at, scalar_value, version_value, item_key}
use Rattle.macho_stub.specs.Documents.{ItemFields}
use Rattle.macho_stub.specs.steps.Opened.{OpenDocumentFields, with_items, has_items, has_key, with_top_key, no_item}
use Rattle.macho_stub.specs.steps.Reader.{ItemListFields, NameListFields, ModeFields, Keys, Skipped, Names, NoItem, InsideFields, stays, with_names, behind_expect, behind_part, names_line, names_value, opened, skipped_value, item_entry, item_key_line, key_column, first_line, top_entry}
use Rattle.macho_stub_lines.proofs.Bind.{bind_ok, not_broken, not_broken_else, same_ok, no_ok}

-- what is read has this
abbrev pub Kept : {A : Type 0} → (A → Type 0) → Reading A → Type 0
Kept {A} P reading = (x : A) → reading ≡ Ok x → P x

-- a value that has it is read
pub kept_ok : {A : Type 0} (P : A → Type 0) (x : A) → P x → Kept P (Ok x)
kept_ok P x p y e = subst P (same_ok x y e) p

kept_broken : {A : Type 0} (P : A → Type 0) (line : ℕ) (reading : Reading A) → reading ≡ outside line → Kept P reading
kept_broken P line reading h y e = absurd (no_ok line S1 y (sym h ∙ e))

-- a step, and then a reading of what it gives
pub kept_bind : {A B : Type 0} (P : B → Type 0) (r : Reading A) (f : A → Reading B) → ((x : A) → r ≡ Ok x → Kept P (f x)) → Kept P (r >>= f)
kept_bind P r f h y e = let b = bind_ok r f y e in h b.0 b.1 y b.2

-- ---- inside a document

-- an open flow list, or a key of items, began at that line
abbrev pub Began : ℕ → ModeFields → Type 0
Began line Keys = Unit {0}
Began line Skipped = Unit {0}
Began line (Names names) = names.began ≡ line
Began line (NoItem kind at) = at ≡ line

-- the document with this first line, and a list that began there
abbrev pub Of : ℕ → ℕ → InsideFields → Type 0
Of first began inside = (inside.document.line ≡ first) × Began began inside.mode

top_key_line : (key : ItemKey) (names : List (List ℕ)) (document : OpenDocumentFields) → (with_top_key key names document).line
    ≡ document.line
top_key_line item.Targets names document = refl
top_key_line item.Names names document = refl
top_key_line item.WeakNames names document = refl
top_key_line item.Unread names document = refl

-- what a document says of items leaves its first line
pub items_line : (kind : ItemKind) (items : List ItemFields) (document : OpenDocumentFields) → (with_items kind items document).line
    ≡ document.line
items_line Libraries items document = refl
items_line Exports items document = refl
items_line Reexports items document = refl

names_of : (document : OpenDocumentFields) (list : Option ItemListFields) (began : ℕ) (key : ItemKey) (names : List (List ℕ))
    → Of document.line began (with_names document list key names)
names_of document None began key names = (top_key_line key names document, tt)
names_of document (Some list) began key names = (refl, tt)

expect_of : (document : OpenDocumentFields) (list : Option ItemListFields) (began : ℕ) (key : ItemKey) (part : ListPart) (expect : Expect)
    → Of document.line began (behind_expect document list began key part expect)
expect_of document list began key part Closed = names_of document list began key part.names
expect_of document list began key part AfterOpen = (refl, refl)
expect_of document list began key part AfterComma = (refl, refl)
expect_of document list began key part AfterName = (refl, refl)

-- a line of a flow list leaves the document's first line, and where the list began while it is open
pub names_line_kept : (document : OpenDocumentFields) (list : Option ItemListFields) (line : ℕ) (names : NameListFields) (text : List ℕ)
    → Kept (Of document.line names.began) (names_line document list line names text)
unfolding names_line
names_line_kept document list line names text =
    kept_bind (Of document.line names.began) (with_front names.part.names (list_part line names.part.expect 0 text))
    (λ part. Ok (behind_part document list names.began names.key part))
    (λ part _. kept_ok (Of document.line names.began) _ (expect_of document list names.began names.key part part.expect))

kept_if : {A : Type 0} (P : A → Type 0) (b : Bool) (r s : Reading A) → Kept P r → Kept P s → Kept P (cond b r s)
kept_if P true r s h k = h
kept_if P false r s h k = k

names_value_kept : (document : OpenDocumentFields) (list : Option ItemListFields) (line : ℕ) (key : ItemKey) (value : List ℕ)
    → Kept (Of document.line line) (names_value document list line key value)
unfolding names_value
names_value_kept document list line key value = kept_if (Of document.line line) _ _ (outside line)
    (names_line_kept document list line (opened line key) (drop 1 value)) (kept_broken (Of document.line line) line (outside line) refl)

skipped_value_kept : (document : OpenDocumentFields) (list : Option ItemListFields) (line : ℕ) (value : List ℕ)
    → Kept (Of document.line line) (skipped_value document list line value)
unfolding skipped_value
skipped_value_kept document list line value = kept_if (Of document.line line) _ _ (Ok (stays document list Skipped))
    (names_line_kept document list line (opened line item.Unread) (drop 1 value))
    (kept_ok (Of document.line line) (stays document list Skipped) (refl, tt))

once_kept : {A : Type 0} (P : A → Type 0) (line : ℕ) (had : Bool) (r : Reading A) → Kept P r → Kept P (cond had (broken line S3) r)
once_kept P line had r h y e = let b = not_broken had line S3 r y e in h y b.1

item_entry_kept : (document : OpenDocumentFields) (list : ItemListFields) (line : ℕ) (key : ItemKey) (value : List ℕ)
    → Kept (Of document.line line) (item_entry document list line key value)
item_entry_kept document list line item.Unread value = skipped_value_kept document (Some list) line value
item_entry_kept document list line item.Targets value = once_kept (Of document.line line) line (has_key item.Targets list.item) _
    (names_value_kept document (Some list) line item.Targets value)
item_entry_kept document list line item.Names value = once_kept (Of document.line line) line (has_key item.Names list.item) _
    (names_value_kept document (Some list) line item.Names value)
item_entry_kept document list line item.WeakNames value = once_kept (Of document.line line) line (has_key item.WeakNames list.item) _
    (names_value_kept document (Some list) line item.WeakNames value)

-- a key of an item opens a list at its own line, if it opens one
pub item_key_line_kept : (document : OpenDocumentFields) (list : ItemListFields) (line : ℕ) (text : List ℕ)
    → Kept (Of document.line line) (item_key_line document list line text)
unfolding item_key_line
item_key_line_kept document list line text =
    kept_bind (Of document.line line) (entry_at line text) (λ entry. item_entry document list line (item_key list.kind entry.key)
    entry.value)
    (λ entry _. item_entry_kept document list line (item_key list.kind entry.key) entry.value)

-- a line with a dash is no head
abbrev pub FirstLine : ℕ → ℕ → List ℕ → InsideFields → Type 0
FirstLine first line text inside = (text ≢ head) × Of first line inside

dash_no_head : (text : List ℕ) → has_dash text ≡ true → text ≢ head
unfolding has_dash indent
dash_no_head text h = λ is. absurd (let k = sym (ap has_dash is) ∙ h in cc)

-- and so does the line of a dash, which is no head
pub first_line_kept : (document : OpenDocumentFields) (kind : ItemKind) (items : List ItemFields) (line : ℕ) (text : List ℕ)
    → Kept (FirstLine document.line line text) (first_line document kind items line text)
unfolding first_line
first_line_kept document kind items line text inside e =
    let list : ItemListFields = record { kind = kind; items = items; dash = indent text; column = key_column text; item = no_item } in
    let b = not_broken_else (has_dash text) line S1 (item_key_line document list line (drop (key_column text) text)) inside e in
    (dash_no_head text b.0, item_key_line_kept document list line (drop (key_column text) text) inside b.1)

-- and so does an entry of a document
pub top_entry_kept : (document : OpenDocumentFields) (line : ℕ) (key : TopKey) (value : List ℕ)
    → Kept (Of document.line line) (top_entry document line key value)
top_entry_kept document line top.Version value = once_kept (Of document.line line) line (is_some document.version) _
    (kept_bind (Of document.line line) (version_value line value) _
    (λ x _. kept_ok (Of document.line line) (stays (record document { version = Some x }) None Keys) (refl, tt)))
top_entry_kept document line top.Targets value = once_kept (Of document.line line) line (is_some document.targets) _
    (names_value_kept document None line item.Targets value)
top_entry_kept document line top.InstallName value = once_kept (Of document.line line) line (is_some document.install_name) _
    (kept_bind (Of document.line line) (scalar_value line value) _
    (λ x _. kept_ok (Of document.line line) (stays (record document { install_name = Some x }) None Keys) (refl, tt)))
top_entry_kept document line top.CurrentVersion value = once_kept (Of document.line line) line (is_some document.current_version) _
    (kept_bind (Of document.line line) (scalar_value line value) _
    (λ x _. kept_ok (Of document.line line) (stays (record document { current_version = Some x }) None Keys) (refl, tt)))
top_entry_kept document line (top.Items kind) value = once_kept (Of document.line line) line (has_items kind document)
    (cond (eqb (length value) 0) (Ok (stays document None (NoItem kind line))) (outside line))
    (kept_if (Of document.line line) (eqb (length value) 0) (Ok (stays document None (NoItem kind line))) (outside line)
    (kept_ok (Of document.line line) (stays document None (NoItem kind line)) (refl, refl))
    (kept_broken (Of document.line line) line (outside line) refl))
top_entry_kept document line top.Unread value = skipped_value_kept document None line value
