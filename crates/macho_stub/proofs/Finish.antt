-- Each text that was read so far without a fault may go on: lines are there that finish it.
-- They are found from the end on. A document in which nothing lacks is finished by no line (`all_there`); else the keys
-- that it must have are put in one after the other, each before what finishes the document with it (`top_finishes`). An
-- item gets the keys that it must have in the column of its keys, and then a key at column 0 ends its list
-- (`item_finishes`). A flow list is closed, and where an item must stand one is begun. The steps over these lines are
-- those of `PutIn`.
use Rattle.std.proofs.Common.{◌≡◌, ℕ, ◌+◌, ◌<◌, Bool, true, false, List, [], ◌∷◌, ◌++◌, replicate, Option, Some, None, Ok, refl, ap, ◌∙◌, arith}
use Rattle.std.specs.Prelude.{codes, unwrap_or}
use Rattle.macho_stub.proofs.Fine.{GoodList, GoodMode, GoodPlace, GoodState}
use Rattle.macho_stub.proofs.Joined.{IsLine, AreLines, spaces_line}
use Rattle.macho_stub_lines.specs.declared.keys.ItemKind.{ItemKind}
use Rattle.macho_stub_lines.specs.declared.keys.ItemKind.TheVariants.{Libraries, Exports, Reexports}
use Rattle.macho_stub_lines.specs.declared.keys.ItemKey.{ItemKey}
use Rattle.macho_stub_lines.specs.Bytes.{space}
use Rattle.macho_stub_lines.specs.Faults.{◌>>=◌}
use Rattle.macho_stub.specs.Documents.{ItemFields, DocumentFields}
use Rattle.macho_stub.specs.steps.Opened.{OpenDocumentFields, with_items, with_key, with_top_key}
use Rattle.macho_stub.specs.steps.Whole.{whole_item, whole_document}
use Rattle.macho_stub.specs.steps.Reader.{ItemListFields, ModeFields, Keys, Skipped, Names, NoItem, PlaceFields, Outside, Within, StateFields, stays, with_names, with_whole, items_with_last, line_step, lines_from}
use Rattle.macho_stub.proofs.PutIn.{closing_bracket, mode_at, at_top, at_item, version_line, targets_line, name_line, libraries_line, with_name, with_targets, with_version, name_steps, targets_steps, version_steps, unread_key_steps, item_with_targets, item_with_names, item_targets_step, item_libraries_step, close_steps, begun, dash_steps}
use Rattle.macho_stub.specs.steps.Order.{unread_key, unread_item}

-- lines that finish the text from this state
pub record Finishes (state : StateFields) (line : ℕ) : Type 0 where
  pub more : List (List ℕ)
  pub says : List DocumentFields
  pub is : lines_from state line more ≡ Ok says
  pub are : AreLines more

pub step_then : (state next : StateFields) (line : ℕ) (text : List ℕ) → line_step state line text ≡ Ok next → IsLine text
    → Finishes next (line + 1) → Finishes state line
unfolding lines_from
step_then state next line text e l f = record {
  more = text ∷ f.more;
  says = f.says;
  is = ap (λ reading. reading >>= λ s. lines_from s (line + 1) f.more) e ∙ f.is;
  are = (l, f.are);
}

-- ---- a document

abbrev whole : List ℕ → List ℕ → List (List ℕ) → OpenDocumentFields → DocumentFields
whole v i t document = record {
  line = document.line;
  version = v;
  targets = t;
  install_name = i;
  current_version = unwrap_or document.current_version [];
  libraries = unwrap_or document.libraries [];
  exports = unwrap_or document.exports [];
  reexports = unwrap_or document.reexports [];
}

-- nothing lacks
all_there : (before : List DocumentFields) (document : OpenDocumentFields) (skipped : Bool) (line : ℕ) (v i : List ℕ)
    (t : List (List ℕ)) → document.version ≡ Some v → document.targets ≡ Some t → document.install_name ≡ Some i
    → Finishes (at_top before document skipped) line
unfolding lines_from with_whole whole_document
all_there before document true line v i t ev et ei = record {
  more = [];
  says = before ++ whole v i t document ∷ [];
  is = rw (ev, et, ei)
      refl;
  are = tt;
}
all_there before document false line v i t ev et ei = record {
  more = [];
  says = before ++ whole v i t document ∷ [];
  is = rw (ev, et, ei)
      refl;
  are = tt;
}

-- one key after the other is put in where it lacks
name_lacks : (before : List DocumentFields) (document : OpenDocumentFields) (skipped : Bool) (line : ℕ) (v : List ℕ)
    (t : List (List ℕ)) (i : Option (List ℕ)) → document.version ≡ Some v → document.targets ≡ Some t → document.install_name ≡ i
    → Finishes (at_top before document skipped) line
name_lacks before document skipped line v t (Some i) ev et ei = all_there before document skipped line v i t ev et ei
name_lacks before document skipped line v t None ev et ei =
    step_then _ (at_top before (with_name document) false) line name_line (name_steps before document skipped line ei) refl
    (all_there before (with_name document) false (line + 1) v (codes "a") t ev et refl)

targets_lack : (before : List DocumentFields) (document : OpenDocumentFields) (skipped : Bool) (line : ℕ) (v : List ℕ)
    (t : Option (List (List ℕ))) → document.version ≡ Some v → document.targets ≡ t → Finishes (at_top before document skipped) line
targets_lack before document skipped line v (Some t) ev et = name_lacks before document skipped line v t document.install_name ev et refl
targets_lack before document skipped line v None ev et =
    step_then _ (at_top before (with_targets document) false) line targets_line (targets_steps before document skipped line et) refl
    (name_lacks before (with_targets document) false (line + 1) v [] document.install_name ev refl refl)

version_lacks : (before : List DocumentFields) (document : OpenDocumentFields) (skipped : Bool) (line : ℕ) (v : Option (List ℕ))
    → document.version ≡ v → Finishes (at_top before document skipped) line
version_lacks before document skipped line (Some v) ev = targets_lack before document skipped line v document.targets ev refl
version_lacks before document skipped line None ev =
    step_then _ (at_top before (with_version document) false) line version_line (version_steps before document skipped line ev) refl
    (targets_lack before (with_version document) false (line + 1) (codes "4") document.targets refl refl)

-- behind the entries of a document
pub top_finishes : (before : List DocumentFields) (document : OpenDocumentFields) (skipped : Bool) (line : ℕ)
    → Finishes (at_top before document skipped) line
top_finishes before document skipped line = version_lacks before document skipped line document.version refl

-- ---- an item

-- behind an item that lacks no key
pub item_done : (before : List DocumentFields) (document : OpenDocumentFields) (list : ItemListFields) (skipped : Bool) (line : ℕ)
    (items : List ItemFields) → items_with_last document.line list ≡ Ok items → Finishes (at_item before document list skipped) line
item_done before document list skipped line items e =
    step_then _ (at_top before (with_items list.kind items document) true) line unread_key
    (unread_key_steps before document list skipped line items e) refl
    (top_finishes before (with_items list.kind items document) true (line + 1))

-- an item with targets, and with names if it lists libraries, lacks no key
pub item_whole : (line : ℕ) (list : ItemListFields) (t : List (List ℕ)) (n : Option (List (List ℕ))) (k : ItemKind)
    → list.item.targets ≡ Some t → list.item.names ≡ n → list.kind ≡ k → ((k ≡ Libraries) → n ≡ None → ⊥)
    → (items : List ItemFields) × (items_with_last line list ≡ Ok items)
unfolding items_with_last whole_item
item_whole line list t (Some n) Libraries et en ek h = (
  list.items ++ record {
    targets = t;
    names = n;
    weak_names = unwrap_or
        list.item.weak_names [];
  } ∷ [],
  rw (et, en, ek) refl,
)
item_whole line list t None Libraries et en ek h = absurd (h refl refl)
item_whole line list t n Exports et en ek h = (
  list.items ++ record {
    targets = t;
    names = unwrap_or n [];
    weak_names = unwrap_or
        list.item.weak_names [];
  } ∷ [],
  rw (et, en, ek) refl,
)
item_whole line list t n Reexports et en ek h = (
  list.items ++ record {
    targets = t;
    names = unwrap_or n [];
    weak_names = unwrap_or
        list.item.weak_names [];
  } ∷ [],
  rw (et, en, ek) refl,
)

names_lack : (before : List DocumentFields) (document : OpenDocumentFields) (list : ItemListFields) (skipped : Bool) (line : ℕ)
    (t : List (List ℕ)) (n : Option (List (List ℕ))) (k : ItemKind) → list.item.targets ≡ Some t → list.item.names ≡ n → list.kind ≡ k
    → list.dash < list.column → Finishes (at_item before document list skipped) line
names_lack before document list skipped line t None Libraries et en ek below =
    let next = item_with_names list in
    let w = item_whole document.line next t (Some []) Libraries et refl ek (λ e n. cc) in
    step_then _ (at_item before document next false) line (replicate list.column space ++ libraries_line)
    (item_libraries_step before document list skipped line ek en below) (spaces_line list.column libraries_line refl) (item_done before
    document next false (line + 1) w.0 w.1)
names_lack before document list skipped line t (Some n) Libraries et en ek below =
    let w = item_whole document.line list t (Some n) Libraries et en ek (λ e n. cc) in
    item_done before document list skipped line w.0 w.1
names_lack before document list skipped line t n Exports et en ek below =
    let w = item_whole document.line list t n Exports et en ek (λ e n. cc) in
    item_done before document list skipped line w.0 w.1
names_lack before document list skipped line t n Reexports et en ek below =
    let w = item_whole document.line list t n Reexports et en ek (λ e n. cc) in
    item_done before document list skipped line w.0 w.1

item_targets_lack : (before : List DocumentFields) (document : OpenDocumentFields) (list : ItemListFields) (skipped : Bool) (line : ℕ)
    (t : Option (List (List ℕ))) → list.item.targets ≡ t → list.dash < list.column → Finishes (at_item before document list skipped) line
item_targets_lack before document list skipped line (Some t) et below = names_lack before document list skipped line t list.item.names
    list.kind et refl refl below
item_targets_lack before document list skipped line None et below =
    let next = item_with_targets list in
    step_then _ (at_item before document next false) line (replicate list.column space ++ targets_line)
    (item_targets_step before document list skipped line et below) (spaces_line list.column targets_line refl)
    (names_lack before document next false (line + 1) [] list.item.names list.kind refl refl refl below)

-- behind the entries of an item
pub item_finishes : (before : List DocumentFields) (document : OpenDocumentFields) (list : ItemListFields) (skipped : Bool) (line : ℕ)
    → list.dash < list.column → Finishes (at_item before document list skipped) line
item_finishes before document list skipped line below = item_targets_lack before document list skipped line list.item.targets refl below

-- ---- any state

keys_finish : (before : List DocumentFields) (document : OpenDocumentFields) (list : Option ItemListFields) (skipped : Bool) (line : ℕ)
    → GoodList list → Finishes (record { documents = before; place = Within (stays document list (mode_at skipped)) }) line
keys_finish before document None skipped line g = top_finishes before document skipped line
keys_finish before document (Some list) skipped line g = item_finishes before document list skipped line g

closed_finishes : (before : List DocumentFields) (document : OpenDocumentFields) (list : Option ItemListFields) (key : ItemKey)
    (names : List (List ℕ)) (line : ℕ) → GoodList list
    → Finishes (record { documents = before; place = Within (with_names document list key names) }) line
closed_finishes before document None key names line g = top_finishes before (with_top_key key names document) false line
closed_finishes before document (Some list) key names line g = item_finishes before document
    (record list { item = with_key key names list.item }) false line g

mode_finishes : (before : List DocumentFields) (document : OpenDocumentFields) (list : Option ItemListFields) (mode : ModeFields) (line : ℕ)
    → GoodList list → GoodMode mode → Finishes (record { documents = before; place = Within (stays document list mode) }) line
mode_finishes before document list Keys line g m = keys_finish before document list false line g
mode_finishes before document list Skipped line g m = keys_finish before document list true line g
mode_finishes before document list (Names names) line g m =
    step_then _ _ line closing_bracket (close_steps before document list names line m) refl
    (closed_finishes before document list names.key (names.part.names ++ []) (line + 1) g)
mode_finishes before document list (NoItem kind at) line g m =
    step_then _ _ line unread_item (dash_steps before document list kind at line) refl
    (item_finishes before document (begun kind) true (line + 1) (omega arith))

place_finishes : (before : List DocumentFields) (place : PlaceFields) (line : ℕ) → GoodPlace place
    → Finishes (record { documents = before; place = place }) line
unfolding lines_from
place_finishes before Outside line g = record { more = []; says = before; is = refl; are = tt }
place_finishes before (Within inside) line g = mode_finishes before inside.document inside.list inside.mode line g.0 g.1

-- each good state has lines that finish the text
pub finishes : (state : StateFields) (line : ℕ) → GoodState state → Finishes state line
finishes state line g = place_finishes state.documents state.place line g
