-- The documents of the grammar are those that are read entry by entry: a document is a mapping with seven fields, three of
-- them for lists of items. What is read of it has its head's line too, which no entry changes.
-- The fields, and the values of the keys, are put in the words of `MappingsFields`, which has the argument for any mapping:
-- the fields behind the entries are what the document says under each key, and from what it says the steps of the entries
-- are found again. Items under a key are items of the grammar by `MappingsItems`.
use Rattle.std.proofs.Common.{◌≡◌, ◌⊎◌, ℕ, List, [], ◌∷◌, Option, Some, None, refl, sym, ap, ◌∙◌, inl, inr, subst}
use Rattle.std.specs.Prelude.{is_some}
use Rattle.std.specs.List.{AllByRecursion, AllZip}
use Rattle.macho_stub_lines.specs.declared.keys.ItemKind.{ItemKind}
use Rattle.macho_stub_lines.specs.declared.keys.ItemKind.TheVariants.{Libraries, Exports, Reexports}
use Rattle.macho_stub_lines.specs.declared.keys.TopKey.{TopKey}
use Rattle.macho_stub_lines.specs.declared.keys.TopKey.TheVariants.{Version, Targets, InstallName, CurrentVersion, Items, Unread}
use Rattle.macho_stub_lines.specs.Slices.{Slice}
use Rattle.macho_stub_lines.specs.Spelling.{value_of, value_at}
use Rattle.macho_stub_lines.specs.Keys.{top_key}
use Rattle.macho_stub.specs.Documents.{ItemOf, DocumentOf}
use Rattle.macho_stub.specs.steps.Opened.{OpenDocumentOf, head_at, with_items}
use Rattle.macho_stub.specs.Places.{no_text}
use Rattle.macho_stub.specs.steps.Trees.{Under, Lines, Listed, IsSkippedUnder, AreItemsUnder, TopEntry, SaysNumber, SaysScalar, SaysList, SaysItems, DocumentTree}
use Rattle.macho_stub.specs.steps.Trees as grammar
use Rattle.macho_stub.proofs.DocumentsByKeys.{IsTopValue, IsTopEntry, IsDocument, document_by_keys, document_of_keys}
use Rattle.macho_stub.proofs.Folded as folded
use Rattle.macho_stub.proofs.MappingsFields.{Mapping, HasKey, Step, Steps, Agree, none_of, gives, gives_or, once, steps_keep, known, known_given, known_or, known_keep, agree, agree_or, steps}
use Rattle.macho_stub.proofs.MappingsItems.{items_fold, items_unfold}
use Rattle.macho_bytes.proofs.Maps.{all_weaker}

-- ---- the fields of a document

abbrev Value : TopKey → Type 0
Value Version = Slice
Value Targets = List Slice
Value InstallName = Slice
Value CurrentVersion = Slice
Value (Items kind) = List (ItemOf Slice)
Value Unread = Unit {0}

abbrev Says : (key : TopKey) → TopEntry → Value key → Type 0
Says Version one x = SaysNumber one x
Says Targets one x = SaysList one x
Says InstallName one x = SaysScalar one x
Says CurrentVersion one x = SaysScalar one x
Says (Items kind) one x = SaysItems kind one x
Says Unread one x = IsSkippedUnder (value_at one.at one.entry) (value_of one.entry) one.under

abbrev field : (key : TopKey) → OpenDocumentOf Slice → Option (Value key)
field Version document = document.version
field Targets document = document.targets
field InstallName document = document.install_name
field CurrentVersion document = document.current_version
field (Items Libraries) document = document.libraries
field (Items Exports) document = document.exports
field (Items Reexports) document = document.reexports
field Unread document = None

abbrev put : (key : TopKey) → Value key → OpenDocumentOf Slice → OpenDocumentOf Slice
put Version x document = record document { version = Some x }
put Targets x document = record document { targets = Some x }
put InstallName x document = record document { install_name = Some x }
put CurrentVersion x document = record document { current_version = Some x }
put (Items kind) x document = with_items kind x document
put Unread x document = document

is_same : (key other : TopKey) → (key ≡ other) ⊎ (key ≡ other → ⊥)
is_same Version Version = inl refl
is_same Targets Targets = inl refl
is_same InstallName InstallName = inl refl
is_same CurrentVersion CurrentVersion = inl refl
is_same (Items Libraries) (Items Libraries) = inl refl
is_same (Items Exports) (Items Exports) = inl refl
is_same (Items Reexports) (Items Reexports) = inl refl
is_same Unread Unread = inl refl
is_same key other = inr (λ e. cc)

put_same : (key : TopKey) (x : Value key) (document : OpenDocumentOf Slice) → (key ≡ Unread → ⊥)
    → field key (put key x document) ≡ Some x
put_same Unread x document read = absurd (read refl)
put_same (Items Libraries) x document read = refl
put_same (Items Exports) x document read = refl
put_same (Items Reexports) x document read = refl
put_same key x document read = refl

put_other : (key other : TopKey) (x : Value key) (document : OpenDocumentOf Slice) → (key ≡ other → ⊥)
    → field other (put key x document) ≡ field other document
put_other Version Version x document other = absurd (other refl)
put_other Targets Targets x document other = absurd (other refl)
put_other InstallName InstallName x document other = absurd (other refl)
put_other CurrentVersion CurrentVersion x document other = absurd (other refl)
put_other (Items Libraries) (Items Libraries) x document other = absurd (other refl)
put_other (Items Exports) (Items Exports) x document other = absurd (other refl)
put_other (Items Reexports) (Items Reexports) x document other = absurd (other refl)
put_other (Items Libraries) another x document other = refl
put_other (Items Exports) another x document other = refl
put_other (Items Reexports) another x document other = refl
put_other key (Items Libraries) x document other = refl
put_other key (Items Exports) x document other = refl
put_other key (Items Reexports) x document other = refl
put_other key another x document other = refl

same_line : (key : TopKey) (x : Value key) (document : OpenDocumentOf Slice) → (put key x document).line ≡ document.line
same_line (Items Libraries) x document = refl
same_line (Items Exports) x document = refl
same_line (Items Reexports) x document = refl
same_line key x document = refl

abbrev fields : Mapping
fields = record {
  Entry = TopEntry;
  Key = TopKey;
  State = OpenDocumentOf Slice;
  Value = Value;
  key_of = λ one. top_key one.entry.key;
  unread = Unread;
  Says = Says;
  field = field;
  put = put;
  is_same = is_same;
  put_same = put_same;
  put_other = put_other;
  unread_none = λ document. refl;
}

-- ---- entries

-- the items under a key
under_unfold : (kind : ItemKind) (under : Under) (says : List (ItemOf Slice)) → folded.AreItemsUnder kind under says
    → AreItemsUnder kind under says
under_unfold kind (Lines more) says a = a
under_unfold kind (Listed dash_column []) says a = a
under_unfold kind (Listed dash_column (tree ∷ trees)) says a = items_unfold kind dash_column (tree ∷ trees) says a

under_fold : (kind : ItemKind) (under : Under) (says : List (ItemOf Slice)) → AreItemsUnder kind under says
    → folded.AreItemsUnder kind under says
under_fold kind (Lines more) says a = a
under_fold kind (Listed dash_column []) says a = a
under_fold kind (Listed dash_column (tree ∷ trees)) says a = items_fold kind dash_column (tree ∷ trees) says a

-- an entry that is read is a step, and the other way, and it is in the grammar
step_of : (key : TopKey) (one : TopEntry) (old new : OpenDocumentOf Slice) → folded.TopValue key one old new
    → Step fields key one old new
step_of Targets one old new v = (none_of old.targets v.0, v.1, v.2, v.3)
step_of (Items Libraries) one old new v = (none_of old.libraries v.0, v.2, (v.1, under_unfold Libraries one.under v.2 v.3), v.4)
step_of (Items Exports) one old new v = (none_of old.exports v.0, v.2, (v.1, under_unfold Exports one.under v.2 v.3), v.4)
step_of (Items Reexports) one old new v = (none_of old.reexports v.0, v.2, (v.1, under_unfold Reexports one.under v.2 v.3), v.4)
step_of Unread one old new v = (refl, tt, v.0, v.1)
step_of key one old new v = (none_of (field key old) v.0, v.2, (v.1, v.3), v.4)

value_from : (key : TopKey) (one : TopEntry) (old new : OpenDocumentOf Slice) → Step fields key one old new
    → folded.TopValue key one old new
value_from Targets one old new s = (ap is_some s.0, s.1, s.2, s.3)
value_from (Items Libraries) one old new s = (ap is_some s.0, s.2.0, s.1, under_fold Libraries one.under s.1 s.2.1, s.3)
value_from (Items Exports) one old new s = (ap is_some s.0, s.2.0, s.1, under_fold Exports one.under s.1 s.2.1, s.3)
value_from (Items Reexports) one old new s = (ap is_some s.0, s.2.0, s.1, under_fold Reexports one.under s.1 s.2.1, s.3)
value_from Unread one old new s = (s.2, s.3)
value_from key one old new s = (ap is_some s.0, s.2.0, s.1, s.2.1, s.3)

says_of : (key : TopKey) (one : TopEntry) (old new : OpenDocumentOf Slice) → Step fields key one old new → IsTopValue key one
says_of Unread one old new s = s.2
says_of key one old new s = (s.1, s.2)

-- and so are the entries
steps_of : (entries : List TopEntry) (old new : OpenDocumentOf Slice) → folded.TopEntries entries old new
    → AllByRecursion IsTopEntry entries × Steps fields entries old new
steps_of [] old new e = (tt, e)
steps_of (one ∷ others) old new e =
    let step = step_of (top_key one.entry.key) one old e.0 e.1.value in
    let rest = steps_of others e.0 new e.2 in (
      (record { entry = e.1.entry; value = says_of (top_key one.entry.key) one old e.0 step }, rest.0),
      (e.0, step, rest.1),
    )

entries_from : (entries : List TopEntry) (old new : OpenDocumentOf Slice) → AllByRecursion IsTopEntry entries
    → Steps fields entries old new → folded.TopEntries entries old new
entries_from [] old new each s = s
entries_from (one ∷ others) old new each s = (
  s.0,
  record { entry = each.0.entry; value = value_from (top_key one.entry.key) one old s.0 s.1 },
  entries_from others s.0 new each.1 s.2,
)

-- ---- a document

-- a document that is read is a document of the grammar
document_unfold : (tree : DocumentTree) (says : DocumentOf Slice) → folded.IsDocument tree says → IsDocument tree says
document_unfold tree says d =
    let entries = tree.entries in
    let old : OpenDocumentOf Slice = head_at tree.number in
    let s = steps_of entries old d.read d.entries in
    let whole = d.whole in
    record {
      line = whole.line ∙ steps_keep fields (λ document. document.line) same_line entries old d.read s.1;
      each = s.0;
      once = once fields entries old d.read s.1;
      version = gives fields Version entries old d.read says.version (λ e. cc) s.1 refl whole.version;
      targets = gives fields Targets entries old d.read says.targets (λ e. cc) s.1 refl whole.targets;
      install_name = gives fields InstallName entries old d.read says.install_name (λ e. cc) s.1 refl whole.install_name;
      current_version = gives_or fields CurrentVersion entries old d.read no_text says.current_version (λ e. cc) s.1 refl
          whole.current_version;
      libraries = gives_or fields (Items Libraries) entries old d.read [] says.libraries (λ e. cc) s.1 refl whole.libraries;
      exports = gives_or fields (Items Exports) entries old d.read [] says.exports (λ e. cc) s.1 refl whole.exports;
      reexports = gives_or fields (Items Reexports) entries old d.read [] says.reexports (λ e. cc) s.1 refl whole.reexports;
    }

-- A document of the grammar is read: what it says under each key is what is known behind the entries.
abbrev values : DocumentOf Slice → (key : TopKey) → Value key
values says Version = says.version
values says Targets = says.targets
values says InstallName = says.install_name
values says CurrentVersion = says.current_version
values says (Items Libraries) = says.libraries
values says (Items Exports) = says.exports
values says (Items Reexports) = says.reexports
values says Unread = tt

-- Each entry says what the document says under its key.
skipped : (one : TopEntry) → IsTopEntry one → HasKey fields Unread one → Says Unread one tt
skipped one is same =
    let V : TopKey → Type 0 = λ key. IsTopValue key one in
    subst V same is.value

each_agrees : (tree : DocumentTree) (says : DocumentOf Slice) → IsDocument tree says → (key : TopKey)
    → Agree fields key tree.entries (values says key)
each_agrees tree says d Version = agree fields Version tree.entries says.version (λ e. cc) d.once d.version
each_agrees tree says d Targets = agree fields Targets tree.entries says.targets (λ e. cc) d.once d.targets
each_agrees tree says d InstallName = agree fields InstallName tree.entries says.install_name (λ e. cc) d.once d.install_name
each_agrees tree says d CurrentVersion = agree_or fields CurrentVersion tree.entries no_text says.current_version (λ e. cc) d.once
    d.current_version
each_agrees tree says d (Items Libraries) = agree_or fields (Items Libraries) tree.entries [] says.libraries (λ e. cc) d.once d.libraries
each_agrees tree says d (Items Exports) = agree_or fields (Items Exports) tree.entries [] says.exports (λ e. cc) d.once d.exports
each_agrees tree says d (Items Reexports) = agree_or fields (Items Reexports) tree.entries [] says.reexports (λ e. cc) d.once d.reexports
each_agrees tree says d Unread = all_weaker IsTopEntry (λ one. HasKey fields Unread one → Says Unread one tt) skipped tree.entries d.each

document_fold : (tree : DocumentTree) (says : DocumentOf Slice) → IsDocument tree says → folded.IsDocument tree says
document_fold tree says d =
    let entries = tree.entries in
    let old : OpenDocumentOf Slice = head_at tree.number in
    let all : (key : TopKey) → Value key = values says in
    let read = known fields all entries old in
    record {
      read = read;
      entries = entries_from entries old read d.each (steps fields all entries old d.once (each_agrees tree says d) (empty tree.number));
      whole = record {
        line = d.line ∙ sym (known_keep fields all (λ document. document.line) same_line entries old);
        version = known_given fields all Version entries old says.version (λ e. cc) d.version;
        targets = known_given fields all Targets entries old says.targets (λ e. cc) d.targets;
        install_name = known_given fields all InstallName entries old says.install_name (λ e. cc) d.install_name;
        current_version = known_or fields all CurrentVersion entries old no_text (λ e. cc) refl d.current_version;
        libraries = known_or fields all (Items Libraries) entries old [] (λ e. cc) refl d.libraries;
        exports = known_or fields all (Items Exports) entries old [] (λ e. cc) refl d.exports;
        reexports = known_or fields all (Items Reexports) entries old [] (λ e. cc) refl d.reexports;
      };
    }
  where
    empty : (line : ℕ) (key : TopKey) → field key (head_at line) ≡ None
    empty line (Items Libraries) = refl
    empty line (Items Exports) = refl
    empty line (Items Reexports) = refl
    empty line key = refl

-- what is in the grammar is read entry by entry
pub documents_fold : (trees : List DocumentTree) (says : List (DocumentOf Slice)) → AllZip grammar.IsDocument trees says
    → folded.AreDocuments trees says
documents_fold [] [] a = tt
documents_fold [] (one ∷ says) a = a
documents_fold (tree ∷ trees) [] a = a
documents_fold (tree ∷ trees) (one ∷ says) a = (document_fold tree one (document_by_keys tree one a.0), documents_fold trees says a.1)

-- and what is read so is in the grammar
pub documents_unfold : (trees : List DocumentTree) (says : List (DocumentOf Slice)) → folded.AreDocuments trees says
    → AllZip grammar.IsDocument trees says
documents_unfold [] [] a = tt
documents_unfold [] (one ∷ says) a = a
documents_unfold (tree ∷ trees) [] a = a
documents_unfold (tree ∷ trees) (one ∷ says) a = (document_of_keys tree one (document_unfold tree one a.0), documents_unfold trees says a.1)
