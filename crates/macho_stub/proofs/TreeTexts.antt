-- What is known in slices, with their texts alone. Each step that adds to what is known of an item or of a document, and
-- each test of it, is the same on texts; so what is whole in slices is whole in texts, and the other way round.
-- Whether a key stood before is whether something is known under it, in slices as in texts; adding to what is known puts the
-- texts where the slices go. An item or a document is whole where each key that it must have is known; so from the texts of
-- what is known the slices are found again, key by key (`whole_item_found`, `whole_document_found`).
use Rattle.std.proofs.Common.{◌≡◌, ℕ, List, [], Option, Some, None, Ok, map, refl, sym, ap, ◌∙◌}
use Rattle.std.specs.Prelude.{is_some, unwrap_or}
use Rattle.std.specs.Option.{option_map}
use Rattle.macho_stub_lines.specs.declared.keys.ItemKind.{ItemKind}
use Rattle.macho_stub_lines.specs.declared.keys.ItemKind.TheVariants.{Libraries, Exports, Reexports}
use Rattle.macho_stub_lines.specs.declared.keys.ItemKey.{ItemKey}
use Rattle.macho_stub_lines.specs.declared.keys.ItemKey.TheVariants.{Targets, Names, WeakNames, Unread}
use Rattle.macho_stub_lines.specs.Faults.{◌>>=◌, Reading}
use Rattle.macho_stub_lines.specs.Slices.{Slice, texts_of}
use Rattle.macho_stub.specs.Documents.{ItemOf, ItemFields, DocumentOf, DocumentFields, item_texts, document_texts}
use Rattle.macho_stub.specs.steps.Opened.{OpenItemOf, OpenItemFields, OpenDocumentOf, OpenDocumentFields, has_key, with_key, has_items, with_items}
use Rattle.macho_stub.specs.steps.Whole.{whole_item, whole_document, wanted, wanted_names}
use Rattle.macho_stub.specs.Places.{no_text}
use Rattle.macho_stub.proofs.Folded.{IsWholeItem, AreNamesOf, IsWholeDocument}
use Rattle.macho_stub_lines.proofs.Bind.{bind_ok, same_ok, no_ok, done}

-- the texts of items
abbrev pub items_texts : List (ItemOf Slice) → List ItemFields
items_texts items = map item_texts items

-- the texts of an item and of a document that are being read
abbrev pub open_item_texts : OpenItemOf Slice → OpenItemFields
open_item_texts item = record {
  targets = option_map texts_of item.targets;
  names = option_map texts_of item.names;
  weak_names = option_map texts_of item.weak_names;
}

-- the texts of what is known of a document
abbrev pub open_texts : OpenDocumentOf Slice → OpenDocumentFields
open_texts document = record {
  line = document.line;
  version = option_map (λ s. s.text) document.version;
  targets = option_map texts_of document.targets;
  install_name = option_map (λ s. s.text) document.install_name;
  current_version = option_map (λ s. s.text) document.current_version;
  libraries = option_map items_texts document.libraries;
  exports = option_map items_texts document.exports;
  reexports = option_map items_texts document.reexports;
}

-- ---- tests and steps

-- something is known in texts exactly where it is in slices
pub is_some_texts : {A B : Type 0} (f : A → B) (x : Option A) → is_some (option_map f x) ≡ is_some x
is_some_texts f None = refl
is_some_texts f (Some x) = refl

-- a key stood before, or didn't, alike in slices and in texts
pub has_key_texts : (key : ItemKey) (item : OpenItemOf Slice) → has_key key (open_item_texts item) ≡ has_key key item
has_key_texts Targets item = is_some_texts texts_of item.targets
has_key_texts Names item = is_some_texts texts_of item.names
has_key_texts WeakNames item = is_some_texts texts_of item.weak_names
has_key_texts Unread item = refl

-- a key of an item adds alike to slices and to texts
pub with_key_texts : (key : ItemKey) (names : List Slice) (item : OpenItemOf Slice)
    → open_item_texts (with_key key names item) ≡ with_key key (texts_of names) (open_item_texts item)
with_key_texts Targets names item = refl
with_key_texts Names names item = refl
with_key_texts WeakNames names item = refl
with_key_texts Unread names item = refl

-- items stood before, or didn't, alike in both
pub has_items_texts : (kind : ItemKind) (document : OpenDocumentOf Slice) → has_items kind (open_texts document) ≡ has_items kind document
has_items_texts Libraries document = is_some_texts items_texts document.libraries
has_items_texts Exports document = is_some_texts items_texts document.exports
has_items_texts Reexports document = is_some_texts items_texts document.reexports

-- items add alike to both
pub with_items_texts : (kind : ItemKind) (items : List (ItemOf Slice)) (document : OpenDocumentOf Slice)
    → open_texts (with_items kind items document) ≡ with_items kind (items_texts items) (open_texts document)
with_items_texts Libraries items document = refl
with_items_texts Exports items document = refl
with_items_texts Reexports items document = refl

-- ---- what is whole

unwrap_texts : (names : Option (List Slice)) → texts_of (unwrap_or names []) ≡ unwrap_or (option_map texts_of names) []
unwrap_texts None = refl
unwrap_texts (Some names) = refl

unwrap_items : (items : Option (List (ItemOf Slice))) → items_texts (unwrap_or items []) ≡ unwrap_or (option_map items_texts items) []
unwrap_items None = refl
unwrap_items (Some items) = refl

unwrap_text : (text : Option Slice) → (unwrap_or text no_text).text ≡ unwrap_or (option_map (λ s. s.text) text) []
unwrap_text None = refl
unwrap_text (Some text) = refl

names_whole : (line : ℕ) (kind : ItemKind) (read : Option (List Slice)) (names : List Slice) → AreNamesOf kind read names
    → wanted_names line kind (option_map texts_of read) ≡ done (texts_of names)
names_whole line Libraries read names e = ap (λ r. wanted line (option_map texts_of r)) e
names_whole line Exports read names e = ap done (sym (ap texts_of e ∙ unwrap_texts read))
names_whole line Reexports read names e = ap done (sym (ap texts_of e ∙ unwrap_texts read))

-- an item that is whole in slices is whole in texts
pub whole_item_reads : (line : ℕ) (kind : ItemKind) (read : OpenItemOf Slice) (says : ItemOf Slice) → IsWholeItem kind read says
    → whole_item line kind (open_item_texts read) ≡ Ok (item_texts says)
unfolding whole_item
whole_item_reads line kind read says w =
    let t : option_map texts_of read.targets ≡ Some (texts_of says.targets) = ap (option_map texts_of) w.targets in
    let n = names_whole line kind read.names says.names w.names in
    let weak : unwrap_or (option_map texts_of read.weak_names) [] ≡ texts_of says.weak_names =
    sym (ap texts_of w.weak_names ∙ unwrap_texts read.weak_names) in
    rw (t, n, weak) refl

-- and what it says in texts it says in slices
pub record WholeItem (kind : ItemKind) (read : OpenItemOf Slice) (texts : ItemFields) : Type 0 where
  pub says : ItemOf Slice
  pub whole : IsWholeItem kind read says
  pub are : item_texts says ≡ texts

some_targets : (line : ℕ) (read : Option (List Slice)) (texts : List (List ℕ)) → wanted line (option_map texts_of read) ≡ Ok texts
    → (names : List Slice) × (read ≡ Some names) × (texts_of names ≡ texts)
some_targets line None texts e = absurd (no_ok _ _ texts e)
some_targets line (Some names) texts e = (names, refl, same_ok _ _ e)

names_found : (line : ℕ) (kind : ItemKind) (read : Option (List Slice)) (texts : List (List ℕ))
    → wanted_names line kind (option_map texts_of read) ≡ Ok texts
    → (names : List Slice) × AreNamesOf kind read names × (texts_of names ≡ texts)
names_found line Libraries read texts e = some_targets line read texts e
names_found line Exports read texts e = (unwrap_or read [], refl, unwrap_texts read ∙ same_ok _ _ e)
names_found line Reexports read texts e = (unwrap_or read [], refl, unwrap_texts read ∙ same_ok _ _ e)

-- an item that is whole in texts is whole in slices
pub whole_item_found : (line : ℕ) (kind : ItemKind) (read : OpenItemOf Slice) (texts : ItemFields)
    → whole_item line kind (open_item_texts read) ≡ Ok texts → WholeItem kind read texts
unfolding whole_item
whole_item_found line kind read texts e =
    let weak_texts = unwrap_or (option_map texts_of read.weak_names) [] in
    let with_names : List (List ℕ) → List (List ℕ) → Reading ItemFields =
    λ targets names. Ok (record { targets = targets; names = names; weak_names = weak_texts }) in
    let a = bind_ok (wanted line (option_map texts_of read.targets))
    (λ targets. wanted_names line kind (option_map texts_of read.names) >>= with_names targets) texts e in
    let b = bind_ok (wanted_names line kind (option_map texts_of read.names)) (with_names a.0) texts a.2 in
    let t = some_targets line read.targets a.0 a.1 in
    let n = names_found line kind read.names b.0 b.1 in
    record {
      says = record { targets = t.0; names = n.0; weak_names = unwrap_or read.weak_names [] };
      whole = record { targets = t.1; names = n.1; weak_names = refl };
      are = ap (λ all. record { targets = all; names = texts_of n.0; weak_names = texts_of (unwrap_or read.weak_names []) }) t.2
          ∙ ap (λ all. record { targets = a.0; names = all; weak_names = texts_of (unwrap_or read.weak_names []) }) n.2
          ∙ ap (λ all. record { targets = a.0; names = b.0; weak_names = all }) (unwrap_texts read.weak_names)
          ∙ same_ok _ _ b.2;
    }

-- a document that is whole in slices is whole in texts
pub whole_document_reads : (read : OpenDocumentOf Slice) (says : DocumentOf Slice) → IsWholeDocument read says
    → whole_document (open_texts read) ≡ Ok (document_texts says)
unfolding whole_document
whole_document_reads read says w =
    let v : option_map (λ s. s.text) read.version ≡ Some says.version.text = ap (option_map (λ s. s.text)) w.version in
    let t : option_map texts_of read.targets ≡ Some (texts_of says.targets) = ap (option_map texts_of) w.targets in
    let n : option_map (λ s. s.text) read.install_name ≡ Some says.install_name.text = ap (option_map (λ s. s.text)) w.install_name in
    let c = sym (ap (λ (s : Slice). s.text) w.current_version ∙ unwrap_text read.current_version) in
    let l = sym (ap items_texts w.libraries ∙ unwrap_items read.libraries) in
    let x = sym (ap items_texts w.exports ∙ unwrap_items read.exports) in
    let r = sym (ap items_texts w.reexports ∙ unwrap_items read.reexports) in
    rw (v, t, n, c, l, x, r, sym w.line) refl

pub record WholeDocument (read : OpenDocumentOf Slice) (texts : DocumentFields) : Type 0 where
  pub says : DocumentOf Slice
  pub whole : IsWholeDocument read says
  pub are : document_texts says ≡ texts

some_text : (line : ℕ) (read : Option Slice) (text : List ℕ) → wanted line (option_map (λ s. s.text) read) ≡ Ok text
    → (slice : Slice) × (read ≡ Some slice) × (slice.text ≡ text)
some_text line None text e = absurd (no_ok _ _ text e)
some_text line (Some slice) text e = (slice, refl, same_ok _ _ e)

-- and what it says in texts it says in slices
pub whole_document_found : (read : OpenDocumentOf Slice) (texts : DocumentFields) → whole_document (open_texts read) ≡ Ok texts
    → WholeDocument read texts
unfolding whole_document
whole_document_found read texts e =
    let rest : List ℕ → List (List ℕ) → List ℕ → DocumentFields = λ version targets name. record {
      line = read.line;
      version = version;
      targets = targets;
      install_name = name;
      current_version = unwrap_or (option_map (λ s. s.text) read.current_version) [];
      libraries = unwrap_or (option_map items_texts read.libraries) [];
      exports = unwrap_or (option_map items_texts read.exports) [];
      reexports = unwrap_or (option_map items_texts read.reexports) [];
    } in
    let name = wanted read.line (option_map (λ (s : Slice). s.text) read.install_name) in
    let a = bind_ok (wanted read.line (option_map (λ (s : Slice). s.text) read.version))
    (λ version. wanted read.line (option_map texts_of read.targets) >>= λ targets. name >>= λ n. done (rest version targets n))
    texts e in
    let b = bind_ok (wanted read.line (option_map texts_of read.targets)) (λ targets. name >>= λ n. done (rest a.0 targets n)) texts a.2 in
    let c = bind_ok name (λ n. done (rest a.0 b.0 n)) texts b.2 in
    let v = some_text read.line read.version a.0 a.1 in
    let t = some_targets read.line read.targets b.0 b.1 in
    let n = some_text read.line read.install_name c.0 c.1 in
    let says : DocumentOf Slice = record {
      line = read.line;
      version = v.0;
      targets = t.0;
      install_name = n.0;
      current_version = unwrap_or read.current_version no_text;
      libraries = unwrap_or read.libraries [];
      exports = unwrap_or read.exports [];
      reexports = unwrap_or read.reexports [];
    } in
    let same : document_texts says ≡ rest a.0 b.0 c.0 =
    rw (
      v.2,
      t.2,
      n.2,
      unwrap_text read.current_version,
      unwrap_items read.libraries,
      unwrap_items read.exports,
      unwrap_items read.reexports,
    ) refl in
    record {
      says = says;
      whole = record {
        line = refl;
        version = v.1;
        targets = t.1;
        install_name = n.1;
        current_version = refl;
        libraries = refl;
        exports = refl;
        reexports = refl;
      };
      are = same ∙ same_ok _ _ c.2;
    }
