-- The items of the grammar are those that are read entry by entry.
-- An item is a mapping with three fields, each a list of names. An entry with the key of one fills it, and another entry
-- changes nothing. This is said in the words of `MappingsFields`, which has the argument for any mapping: with the entries
-- as steps, the fields behind them are what the item says under each key; and from what the item says, the steps are found
-- again. What is left are the item's three keys: that a list of libraries must have names and a list of symbols may lack
-- them is a case of the kind of list.
use Rattle.std.proofs.Common.{◌≡◌, ◌⊎◌, ℕ, List, [], ◌∷◌, Option, Some, None, refl, ap, inl, inr, subst}
use Rattle.std.specs.Prelude.{is_some}
use Rattle.std.specs.List.{AllByRecursion, AllZip}
use Rattle.macho_stub_lines.specs.declared.keys.ItemKind.{ItemKind}
use Rattle.macho_stub_lines.specs.declared.keys.ItemKind.TheVariants.{Libraries}
use Rattle.macho_stub_lines.specs.declared.keys.ItemKey.{ItemKey}
use Rattle.macho_stub_lines.specs.declared.keys.ItemKey.TheVariants.{Targets, Names, WeakNames, Unread}
use Rattle.macho_stub_lines.specs.Slices.{Slice}
use Rattle.macho_stub_lines.specs.Spelling.{value_of}
use Rattle.macho_stub_lines.specs.Keys.{item_key}
use Rattle.macho_stub.specs.Documents.{ItemOf}
use Rattle.macho_stub.specs.steps.Opened.{OpenItemOf, no_item, with_key}
use Rattle.macho_stub.specs.Places.{SaysNames, ItemTree, column_of, entries_of}
use Rattle.macho_stub.specs.steps.Trees.{IsSkipped, ItemEntry, item_value_at, is_deeper}
use Rattle.macho_stub.specs.steps.Trees as grammar
use Rattle.macho_stub.proofs.ItemsByKeys.{IsItemValue, IsItemEntry, AreNames, IsItem, item_by_keys, item_of_keys}
use Rattle.macho_stub.proofs.Folded as folded
use Rattle.macho_stub.proofs.MappingsFields.{NoneTwice, Mapping, HasKey, Step, Steps, Agree, none_of, gives, gives_or, once, known, known_given, known_or, agree, agree_or, steps}
use Rattle.macho_bytes.proofs.Maps.{all_weaker}

-- ---- the fields of an item

abbrev Says : ℕ → ItemKey → ItemEntry → List Slice → Type 0
Says column Targets one names = SaysNames column one names
Says column Names one names = SaysNames column one names
Says column WeakNames one names = SaysNames column one names
Says column Unread one names = IsSkipped (is_deeper column) (item_value_at column one) (value_of one.entry) one.more

abbrev field : ItemKey → OpenItemOf Slice → Option (List Slice)
field Targets item = item.targets
field Names item = item.names
field WeakNames item = item.weak_names
field Unread item = None

is_same : (key other : ItemKey) → (key ≡ other) ⊎ (key ≡ other → ⊥)
is_same Targets Targets = inl refl
is_same Names Names = inl refl
is_same WeakNames WeakNames = inl refl
is_same Unread Unread = inl refl
is_same key other = inr (λ e. cc)

put_same : (key : ItemKey) (names : List Slice) (item : OpenItemOf Slice) → (key ≡ Unread → ⊥)
    → field key (with_key key names item) ≡ Some names
put_same Targets names item read = refl
put_same Names names item read = refl
put_same WeakNames names item read = refl
put_same Unread names item read = absurd (read refl)

put_other : (key other : ItemKey) (names : List Slice) (item : OpenItemOf Slice) → (key ≡ other → ⊥)
    → field other (with_key key names item) ≡ field other item
put_other Targets Targets names item other = absurd (other refl)
put_other Names Names names item other = absurd (other refl)
put_other WeakNames WeakNames names item other = absurd (other refl)
put_other key another names item other = refl

abbrev fields : ItemKind → ℕ → Mapping
fields kind column = record {
  Entry = ItemEntry;
  Key = ItemKey;
  State = OpenItemOf Slice;
  Value = λ key. List Slice;
  key_of = λ one. item_key kind one.entry.key;
  unread = Unread;
  Says = Says column;
  field = field;
  put = λ key names item. with_key key names item;
  is_same = is_same;
  put_same = put_same;
  put_other = put_other;
  unread_none = λ item. refl;
}

-- ---- entries

-- an entry that is read is a step, and the other way, and it is in the grammar
step_of : (kind : ItemKind) (column : ℕ) (key : ItemKey) (one : ItemEntry) (old new : OpenItemOf Slice)
    → folded.ItemValue column key one old new → Step (fields kind column) key one old new
step_of kind column Unread one old new v = (refl, [], v.0, v.1)
step_of kind column key one old new v = (none_of (field key old) v.first_time, v.names, v.list, v.gives)

value_from : (kind : ItemKind) (column : ℕ) (key : ItemKey) (one : ItemEntry) (old new : OpenItemOf Slice)
    → Step (fields kind column) key one old new → folded.ItemValue column key one old new
value_from kind column Unread one old new s = (s.2, s.3)
value_from kind column key one old new s = record { first_time = ap is_some s.0; names = s.1; list = s.2; gives = s.3 }

says_of : (kind : ItemKind) (column : ℕ) (key : ItemKey) (one : ItemEntry) (old new : OpenItemOf Slice)
    → Step (fields kind column) key one old new → IsItemValue column key one
says_of kind column Unread one old new s = s.2
says_of kind column key one old new s = (s.1, s.2)

abbrev Each : ItemKind → ℕ → List ItemEntry → Type 0
Each kind column entries = AllByRecursion (IsItemEntry kind column) entries

-- and so are the entries
steps_of : (kind : ItemKind) (column : ℕ) (entries : List ItemEntry) (old new : OpenItemOf Slice)
    → folded.ItemEntries kind column entries old new → Each kind column entries × Steps (fields kind column) entries old new
steps_of kind column [] old new e = (tt, e)
steps_of kind column (one ∷ others) old new e =
    let step = step_of kind column (item_key kind one.entry.key) one old e.0 e.1.value in
    let rest = steps_of kind column others e.0 new e.2 in (
      (record { entry = e.1.entry; value = says_of kind column (item_key kind one.entry.key) one old e.0 step }, rest.0),
      (e.0, step, rest.1),
    )

entries_from : (kind : ItemKind) (column : ℕ) (entries : List ItemEntry) (old new : OpenItemOf Slice) → Each kind column entries
    → Steps (fields kind column) entries old new → folded.ItemEntries kind column entries old new
entries_from kind column [] old new each s = s
entries_from kind column (one ∷ others) old new each s = (
  s.0,
  record { entry = each.0.entry; value = value_from kind column (item_key kind one.entry.key) one old s.0 s.1 },
  entries_from kind column others s.0 new each.1 s.2,
)

-- ---- an item

-- an item that is read is an item of the grammar
names_unfold : (kind : ItemKind) (column : ℕ) (entries : List ItemEntry) (read : OpenItemOf Slice) (names : List Slice)
    → Steps (fields kind column) entries no_item read → folded.AreNamesOf kind read.names names → AreNames kind column entries names
names_unfold Libraries column entries read names s e = gives (fields Libraries column) Names entries no_item read names (λ e. cc) s
    refl e
names_unfold kind column entries read names s e = gives_or (fields kind column) Names entries no_item read [] names (λ e. cc) s refl e

item_unfold : (kind : ItemKind) (dash_column : ℕ) (tree : ItemTree) (says : ItemOf Slice) → folded.IsItem kind dash_column tree says
    → IsItem kind dash_column tree says
item_unfold kind dash_column tree says i =
    let column = column_of dash_column tree in
    let m = fields kind column in
    let entries = entries_of tree in
    let s = steps_of kind column entries no_item i.read i.entries in
    record {
      spaced = i.spaced;
      each = s.0;
      once = once m entries no_item i.read s.1;
      targets = gives m Targets entries no_item i.read says.targets (λ e. cc) s.1 refl i.whole.targets;
      names = names_unfold kind column entries i.read says.names s.1 i.whole.names;
      weak_names = gives_or m WeakNames entries no_item i.read [] says.weak_names (λ e. cc) s.1 refl i.whole.weak_names;
    }

-- An item of the grammar is read: what it says under each key is what is known behind the entries.
abbrev values : ItemOf Slice → ItemKey → List Slice
values says Targets = says.targets
values says Names = says.names
values says WeakNames = says.weak_names
values says Unread = []

abbrev read_of : ItemKind → ℕ → List ItemEntry → ItemOf Slice → OpenItemOf Slice
read_of kind column entries says = known (fields kind column) (values says) entries no_item

names_fold : (kind : ItemKind) (column : ℕ) (entries : List ItemEntry) (says : ItemOf Slice) → AreNames kind column entries says.names
    → folded.AreNamesOf kind (read_of kind column entries says).names says.names
names_fold Libraries column entries says g = known_given (fields Libraries column) (values says) Names entries no_item says.names
    (λ e. cc) g
names_fold kind column entries says g = known_or (fields kind column) (values says) Names entries no_item [] (λ e. cc) refl g

names_agree : (kind : ItemKind) (column : ℕ) (entries : List ItemEntry) (names : List Slice)
    → NoneTwice Unread (λ one. item_key kind one.entry.key) entries → AreNames kind column entries names
    → Agree (fields kind column) Names entries names
names_agree Libraries column entries names none g = agree (fields Libraries column) Names entries names (λ e. cc) none g
names_agree kind column entries names none g = agree_or (fields kind column) Names entries [] names (λ e. cc) none g

-- Each entry says what the item says under its key.
skipped : (kind : ItemKind) (column : ℕ) (one : ItemEntry) → IsItemEntry kind column one → HasKey (fields kind column) Unread one
    → Says column Unread one []
skipped kind column one is same =
    let V : ItemKey → Type 0 = λ key. IsItemValue column key one in
    subst V same is.value

each_agrees : (kind : ItemKind) (dash_column : ℕ) (tree : ItemTree) (says : ItemOf Slice) → IsItem kind dash_column tree says
    → (key : ItemKey) → Agree (fields kind (column_of dash_column tree)) key (entries_of tree) (values says key)
each_agrees kind dash_column tree says i Targets =
    agree (fields kind (column_of dash_column tree)) Targets (entries_of tree) says.targets (λ e. cc) i.once i.targets
each_agrees kind dash_column tree says i Names =
    names_agree kind (column_of dash_column tree) (entries_of tree) says.names i.once i.names
each_agrees kind dash_column tree says i WeakNames =
    agree_or (fields kind (column_of dash_column tree)) WeakNames (entries_of tree) [] says.weak_names (λ e. cc) i.once i.weak_names
each_agrees kind dash_column tree says i Unread =
    let column = column_of dash_column tree in
    all_weaker (IsItemEntry kind column) (λ one. HasKey (fields kind column) Unread one → Says column Unread one []) (skipped kind column)
    (entries_of tree) i.each

item_fold : (kind : ItemKind) (dash_column : ℕ) (tree : ItemTree) (says : ItemOf Slice) → IsItem kind dash_column tree says
    → folded.IsItem kind dash_column tree says
item_fold kind dash_column tree says i =
    let column = column_of dash_column tree in
    let m = fields kind column in
    let entries = entries_of tree in
    let read = read_of kind column entries says in
    record {
      spaced = i.spaced;
      read = read;
      entries = entries_from kind column entries no_item read i.each
          (steps m (values says) entries no_item i.once (each_agrees kind dash_column tree says i) empty);
      whole = record {
        targets = known_given m (values says) Targets entries no_item says.targets (λ e. cc) i.targets;
        names = names_fold kind column entries says i.names;
        weak_names = known_or m (values says) WeakNames entries no_item [] (λ e. cc) refl i.weak_names;
      };
    }
  where
    empty : (key : ItemKey) → field key no_item ≡ None
    empty Targets = refl
    empty Names = refl
    empty WeakNames = refl
    empty Unread = refl

-- items of the grammar are read entry by entry
pub items_fold : (kind : ItemKind) (dash_column : ℕ) (trees : List ItemTree) (says : List (ItemOf Slice))
    → AllZip (grammar.IsItem kind dash_column) trees says → folded.AreItems kind dash_column trees says
items_fold kind dash_column [] [] a = tt
items_fold kind dash_column [] (one ∷ says) a = a
items_fold kind dash_column (tree ∷ trees) [] a = a
items_fold kind dash_column (tree ∷ trees) (one ∷ says) a = (
  item_fold kind dash_column tree one (item_by_keys kind dash_column tree one a.0),
  items_fold kind dash_column trees says a.1,
)

-- and what is read so are items of the grammar
pub items_unfold : (kind : ItemKind) (dash_column : ℕ) (trees : List ItemTree) (says : List (ItemOf Slice))
    → folded.AreItems kind dash_column trees says → AllZip (grammar.IsItem kind dash_column) trees says
items_unfold kind dash_column [] [] a = tt
items_unfold kind dash_column [] (one ∷ says) a = a
items_unfold kind dash_column (tree ∷ trees) [] a = a
items_unfold kind dash_column (tree ∷ trees) (one ∷ says) a = (
  item_of_keys kind dash_column tree one (item_unfold kind dash_column tree one a.0),
  items_unfold kind dash_column trees says a.1,
)
