-- Items of the grammar key by key: each entry has what its key asks for, no two have the same key that is read, and one of them has the
-- key of each thing that is said, or none has it and it may be lacking.
-- Which key a text is, is a chain of tests, and each test answers yes where the chain ends at its key (`item_chain`).
use Rattle.std.proofs.Common.{◌≡◌, ◌⊎◌, ℕ, ◌<◌, ◌||◌, Bool, true, false, cond, List, [], Option, Some, None, refl, sym, ap, inl, inr, subst}
use Rattle.std.specs.Prelude.{codes}
use Rattle.std.specs.List.{AllByRecursion, filter, list_any}
use Rattle.std.specs.Str.{bytes_eq}
use Rattle.macho_stub_lines.specs.declared.keys.ItemKind.{ItemKind}
use Rattle.macho_stub_lines.specs.declared.keys.ItemKind.TheVariants.{Libraries, Exports, Reexports}
use Rattle.macho_stub_lines.specs.declared.keys.ItemKey.{ItemKey}
use Rattle.macho_stub_lines.specs.declared.keys.ItemKey.TheVariants as item
use Rattle.macho_stub_lines.specs.Slices.{Slice}
use Rattle.macho_stub_lines.specs.Spelling.{IsEntry, value_of}
use Rattle.macho_stub_lines.specs.Keys.{item_key, names_key}
use Rattle.macho_stub.specs.Documents.{ItemOf}
use Rattle.macho_stub.specs.Grammar.{item_keys}
use Rattle.macho_stub.specs.Places.{SaysAlone, SaysNames, ItemTree, column_of, entries_of, SaysItem}
use Rattle.macho_stub.specs.steps.Trees.{IsSkipped, ItemEntry, item_value_at, is_deeper}
use Rattle.macho_stub.specs.steps.Trees as grammar
use Rattle.macho_stub.proofs.MappingsFields.{Given, GivenOr, NoneTwice, every}
use Rattle.macho_stub.proofs.Alone.{Tested, Fails, none_left, Few, few, each_says, given, given_or, once, given_lacks, alone, alone_or, all_both}
use Rattle.macho_bytes.proofs.Comparing.{same_bytes}
use Rattle.macho_bytes.proofs.Maps.{all_weaker}

-- ---- items

-- the key of an entry, among those that are read of items of such a list
abbrev pub HasKey : ItemKind → ItemKey → ItemEntry → Type 0
HasKey kind key one = item_key kind one.entry.key ≡ key

-- The value of a key of an item, in this column: a flow list if the key is read, and else a value that is skipped.
abbrev pub IsItemValue : ℕ → ItemKey → ItemEntry → Type 0
IsItemValue column item.Unread one =
    IsSkipped (is_deeper column) (item_value_at column one) (value_of one.entry) one.more
IsItemValue column key one = (names : List Slice) × SaysNames column one names

-- an entry of an item
pub record IsItemEntry (kind : ItemKind) (column : ℕ) (one : ItemEntry) : Type 0 where
  pub entry : IsEntry one.entry
  pub value : IsItemValue column (item_key kind one.entry.key) one

-- The names of an item: an item of libraries must have them, an item of symbols may lack them.
abbrev pub AreNames : ItemKind → ℕ → List ItemEntry → List Slice → Type 0
AreNames Libraries column entries names = Given (HasKey Libraries item.Names) (SaysNames column) entries names
AreNames kind column entries names = GivenOr [] (HasKey kind item.Names) (SaysNames column) entries names

-- an item that says this
pub record IsItem (kind : ItemKind) (dash_column : ℕ) (tree : ItemTree) (says : ItemOf Slice) : Type 0 where
  pub spaced : 0 < tree.gap
  pub each : AllByRecursion (IsItemEntry kind (column_of dash_column tree)) (entries_of tree)
  pub once : NoneTwice item.Unread (λ one. item_key kind one.entry.key) (entries_of tree)
  pub targets : Given (HasKey kind item.Targets) (SaysNames (column_of dash_column tree)) (entries_of tree) says.targets
  pub names : AreNames kind (column_of dash_column tree) (entries_of tree) says.names
  pub weak_names : GivenOr [] (HasKey kind item.WeakNames) (SaysNames (column_of dash_column tree)) (entries_of tree)
      says.weak_names

-- which key of an item a text is: a chain of tests
abbrev ItemTests : Bool → Bool → Bool → ItemKey → Type 0
ItemTests a b c item.Targets = a ≡ true
ItemTests a b c item.Names = b ≡ true
ItemTests a b c item.WeakNames = c ≡ true
ItemTests a b c item.Unread = (a || (b || (c || false))) ≡ false

item_chain : (a b c : Bool) → ItemTests a b c (cond a item.Targets (cond b item.Names (cond c item.WeakNames item.Unread)))
item_chain true b c = refl
item_chain false true c = refl
item_chain false false true = refl
item_chain false false false = refl

item_unread : (a b c : Bool) → (a || (b || (c || false))) ≡ false
    → cond a item.Targets (cond b item.Names (cond c item.WeakNames item.Unread)) ≡ item.Unread
item_unread true b c e = absurd cc
item_unread false true c e = absurd cc
item_unread false false true e = absurd cc
item_unread false false false e = refl

abbrev pub item_test : ItemKind → ItemKey → ItemEntry → Bool
item_test kind item.Targets one = bytes_eq one.entry.key (codes "targets")
item_test kind item.Names one = bytes_eq one.entry.key (names_key kind)
item_test Libraries item.WeakNames one = false
item_test Exports item.WeakNames one = bytes_eq one.entry.key (codes "weak-symbols")
item_test Reexports item.WeakNames one = bytes_eq one.entry.key (codes "weak-symbols")
item_test kind item.Unread one = false

item_tests : (kind : ItemKind) (one : ItemEntry) → ItemTests (item_test kind item.Targets one) (item_test kind item.Names one)
    (item_test kind item.WeakNames one) (item_key kind one.entry.key)
unfolding item_key
item_tests Libraries one = item_chain (item_test Libraries item.Targets one) (item_test Libraries item.Names one) false
item_tests Exports one =
    item_chain (item_test Exports item.Targets one) (item_test Exports item.Names one) (item_test Exports item.WeakNames one)
item_tests Reexports one =
    item_chain (item_test Reexports item.Targets one) (item_test Reexports item.Names one) (item_test Reexports item.WeakNames one)

item_forth : (kind : ItemKind) (key : ItemKey) (one : ItemEntry) → item_test kind key one ≡ true → item_key kind one.entry.key ≡ key
unfolding item_key
item_forth kind item.Targets one h = ap (item_key kind) (same_bytes one.entry.key (codes "targets") h)
item_forth Libraries item.Names one h = ap (item_key Libraries) (same_bytes one.entry.key (codes "libraries") h)
item_forth Exports item.Names one h = ap (item_key Exports) (same_bytes one.entry.key (codes "symbols") h)
item_forth Reexports item.Names one h = ap (item_key Reexports) (same_bytes one.entry.key (codes "symbols") h)
item_forth Libraries item.WeakNames one h = absurd cc
item_forth Exports item.WeakNames one h = ap (item_key Exports) (same_bytes one.entry.key (codes "weak-symbols") h)
item_forth Reexports item.WeakNames one h = ap (item_key Reexports) (same_bytes one.entry.key (codes "weak-symbols") h)
item_forth kind item.Unread one h = absurd cc

item_back : (kind : ItemKind) (key : ItemKey) (one : ItemEntry) → (key ≡ item.Unread → ⊥) → item_key kind one.entry.key ≡ key
    → item_test kind key one ≡ true
item_back kind key one read is =
    let T : ItemKey → Type 0 = λ k. ItemTests (item_test kind item.Targets one) (item_test kind item.Names one)
    (item_test kind item.WeakNames one) k in
    by key read (subst T is (item_tests kind one))
  where
    by : (k : ItemKey) → (k ≡ item.Unread → ⊥) → ItemTests (item_test kind item.Targets one) (item_test kind item.Names one)
        (item_test kind item.WeakNames one) k → item_test kind k one ≡ true
    by item.Targets read t = t
    by item.Names read t = t
    by item.WeakNames read t = t
    by item.Unread read t = absurd (read refl)

item_is_unread : (key : ItemKey) → (key ≡ item.Unread) ⊎ (key ≡ item.Unread → ⊥)
item_is_unread item.Targets = inr (λ e. cc)
item_is_unread item.Names = inr (λ e. cc)
item_is_unread item.WeakNames = inr (λ e. cc)
item_is_unread item.Unread = inl refl

abbrev tested_items : ItemKind → Tested ItemEntry ItemKey
tested_items kind = record {
  key_of = λ one. item_key kind one.entry.key;
  unread = item.Unread;
  test = item_test kind;
  forth = item_forth kind;
  back = item_back kind;
  is_unread = item_is_unread;
}

-- an entry whose key isn't read
no_key : (kind : ItemKind) (one : ItemEntry) → item_key kind one.entry.key ≡ item.Unread
    → list_any (bytes_eq one.entry.key) (item_keys kind) ≡ false
no_key kind one is =
    let T : ItemKey → Type 0 = λ k. ItemTests (item_test kind item.Targets one) (item_test kind item.Names one)
    (item_test kind item.WeakNames one) k in
    by kind (subst T is (item_tests kind one))
  where
    by : (kind : ItemKind) → ItemTests (item_test kind item.Targets one) (item_test kind item.Names one)
        (item_test kind item.WeakNames one) item.Unread → list_any (bytes_eq one.entry.key) (item_keys kind) ≡ false
    by Libraries t = t
    by Exports t = t
    by Reexports t = t

no_key_back : (kind : ItemKind) (one : ItemEntry) → list_any (bytes_eq one.entry.key) (item_keys kind) ≡ false
    → item_key kind one.entry.key ≡ item.Unread
unfolding item_key
no_key_back Libraries one h = item_unread (item_test Libraries item.Targets one) (item_test Libraries item.Names one) false h
no_key_back Exports one h =
    item_unread (item_test Exports item.Targets one) (item_test Exports item.Names one) (item_test Exports item.WeakNames one) h
no_key_back Reexports one h =
    item_unread (item_test Reexports item.Targets one) (item_test Reexports item.Names one) (item_test Reexports item.WeakNames one) h

-- what an item says under its keys, one of them at a time
pub record Under (kind : ItemKind) (column : ℕ) (entries : List ItemEntry) (says : ItemOf Slice) : Type 0 where
  pub targets : SaysAlone None (SaysNames column) (filter (item_test kind item.Targets) entries) says.targets
  pub lacking : Option (List Slice)
  pub names : SaysAlone lacking (SaysNames column) (filter (item_test kind item.Names) entries) says.names
  pub weak_names : SaysAlone (Some []) (SaysNames column) (filter (item_test kind item.WeakNames) entries) says.weak_names
  pub these : AreNames kind column entries says.names

no_weak : (entries : List ItemEntry) → filter (item_test Libraries item.WeakNames) entries ≡ []
no_weak entries = none_left (item_test Libraries item.WeakNames) entries
    (every (Fails (item_test Libraries item.WeakNames)) (λ one h. cc) entries)

pub under : (kind : ItemKind) (column : ℕ) (entries : List ItemEntry) (says : ItemOf Slice) → SaysItem kind column entries says
    → Under kind column entries says
under Libraries column entries says s =
    let S : List ItemEntry → Type 0 = λ rest. SaysAlone (Some []) (SaysNames column) rest says.weak_names in
    record {
      targets = s.0;
      lacking = None;
      names = s.1;
      weak_names = subst S (sym (no_weak entries)) (ap (λ (y : List Slice). Some y) (sym s.2));
      these = given (tested_items Libraries) item.Names (λ e. cc) (SaysNames column) says.names entries s.1;
    }
under Exports column entries says s = record {
  targets = s.0;
  lacking = Some [];
  names = s.1;
  weak_names = s.2;
  these = given_or (tested_items Exports) item.Names (λ e. cc) [] (SaysNames column) says.names entries s.1;
}
under Reexports column entries says s = record {
  targets = s.0;
  lacking = Some [];
  names = s.1;
  weak_names = s.2;
  these = given_or (tested_items Reexports) item.Names (λ e. cc) [] (SaysNames column) says.names entries s.1;
}

-- An item of the grammar is one key by key.
pub item_by_keys : (kind : ItemKind) (dash_column : ℕ) (tree : ItemTree) (says : ItemOf Slice) → grammar.IsItem kind dash_column tree says
    → IsItem kind dash_column tree says
item_by_keys kind dash_column tree says i = record {
  spaced = i.spaced;
  each = all_weaker (λ one. grammar.IsItemEntry kind column one × (Each item.Targets says.targets one
      × (Each item.Names says.names one × Each item.WeakNames says.weak_names one))) (IsItemEntry kind column) entry entries
      (all_both (grammar.IsItemEntry kind column) (λ one. Each item.Targets says.targets one
      × (Each item.Names says.names one × Each item.WeakNames says.weak_names one)) entries i.each
      (all_both (Each item.Targets says.targets) (λ one. Each item.Names says.names one × Each item.WeakNames says.weak_names one) entries
      (each_says (item_test kind item.Targets) None (SaysNames column) says.targets entries u.targets)
      (all_both (Each item.Names says.names) (Each item.WeakNames says.weak_names) entries
      (each_says (item_test kind item.Names) u.lacking (SaysNames column) says.names entries u.names)
      (each_says (item_test kind item.WeakNames) (Some []) (SaysNames column) says.weak_names entries u.weak_names))));
  once = once (tested_items kind) entries fews;
  targets = given (tested_items kind) item.Targets (λ e. cc) (SaysNames column) says.targets entries u.targets;
  names = u.these;
  weak_names = given_or (tested_items kind) item.WeakNames (λ e. cc) [] (SaysNames column) says.weak_names entries u.weak_names;
}
  where
    column : ℕ
    column = column_of dash_column tree

    entries : List ItemEntry
    entries = entries_of tree

    u : Under kind column entries says
    u = under kind column entries says i.says

    Each : ItemKey → List Slice → ItemEntry → Type 0
    Each key names one = item_test kind key one ≡ true → SaysNames column one names

    fews : (key : ItemKey) → (key ≡ item.Unread → ⊥) → Few (filter (item_test kind key) entries)
    fews item.Targets read = few None (SaysNames column) (filter (item_test kind item.Targets) entries) says.targets u.targets
    fews item.Names read = few u.lacking (SaysNames column) (filter (item_test kind item.Names) entries) says.names u.names
    fews item.WeakNames read =
        few (Some []) (SaysNames column) (filter (item_test kind item.WeakNames) entries) says.weak_names u.weak_names
    fews item.Unread read = absurd (read refl)

    entry : (one : ItemEntry) → grammar.IsItemEntry kind column one × (Each item.Targets says.targets one
        × (Each item.Names says.names one × Each item.WeakNames says.weak_names one)) → IsItemEntry kind column one
    entry one e = record { entry = e.0.entry; value = by (item_key kind one.entry.key) refl }
      where
        by : (key : ItemKey) → item_key kind one.entry.key ≡ key → IsItemValue column key one
        by item.Targets is = (says.targets, e.1.0 (item_back kind item.Targets one (λ e. cc) is))
        by item.Names is = (says.names, e.1.1.0 (item_back kind item.Names one (λ e. cc) is))
        by item.WeakNames is = (says.weak_names, e.1.1.1 (item_back kind item.WeakNames one (λ e. cc) is))
        by item.Unread is = e.0.skipped (no_key kind one is)

-- And an item key by key is one of the grammar.
pub item_of_keys : (kind : ItemKind) (dash_column : ℕ) (tree : ItemTree) (says : ItemOf Slice) → IsItem kind dash_column tree says
    → grammar.IsItem kind dash_column tree says
item_of_keys kind dash_column tree says i = record {
  spaced = i.spaced;
  each = all_weaker (IsItemEntry kind column) (grammar.IsItemEntry kind column) entry entries i.each;
  says = by kind i.once i.targets i.names i.weak_names;
}
  where
    column : ℕ
    column = column_of dash_column tree

    entries : List ItemEntry
    entries = entries_of tree

    entry : (one : ItemEntry) → IsItemEntry kind column one → grammar.IsItemEntry kind column one
    entry one e = let V : ItemKey → Type 0 = λ key. IsItemValue column key one in record {
      entry = e.entry;
      skipped = λ h. subst V (no_key_back kind one h) e.value;
    }

    by : (kind : ItemKind) → NoneTwice item.Unread (λ one. item_key kind one.entry.key) entries
        → Given (HasKey kind item.Targets) (SaysNames column) entries says.targets → AreNames kind column entries says.names
        → GivenOr [] (HasKey kind item.WeakNames) (SaysNames column) entries says.weak_names → SaysItem kind column entries says
    by Libraries once targets names weak = (
      alone (tested_items Libraries) item.Targets (λ e. cc) None (SaysNames column) says.targets entries once targets,
      alone (tested_items Libraries) item.Names (λ e. cc) None (SaysNames column) says.names entries once names,
      elim weak [
        | inl g ↦ absurd (given_lacks (tested_items Libraries) item.WeakNames (λ e. cc) (SaysNames column) says.weak_names entries g
            (every (Fails (item_test Libraries item.WeakNames)) (λ one h. cc) entries))
        | inr l ↦ l.1
      ],
    )
    by Exports once targets names weak = (
      alone (tested_items Exports) item.Targets (λ e. cc) None (SaysNames column) says.targets entries once targets,
      alone_or (tested_items Exports) item.Names (λ e. cc) [] (SaysNames column) says.names entries once names,
      alone_or (tested_items Exports) item.WeakNames (λ e. cc) [] (SaysNames column) says.weak_names entries once weak,
    )
    by Reexports once targets names weak = (
      alone (tested_items Reexports) item.Targets (λ e. cc) None (SaysNames column) says.targets entries once targets,
      alone_or (tested_items Reexports) item.Names (λ e. cc) [] (SaysNames column) says.names entries once names,
      alone_or (tested_items Reexports) item.WeakNames (λ e. cc) [] (SaysNames column) says.weak_names entries once weak,
    )
