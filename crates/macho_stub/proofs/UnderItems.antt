-- The grammar's items as trees. The grammar has an entry with the lines under it, for items and documents alike. A line belongs to a
-- skipped value by one test for all columns, or by a test for column 0 and one for those of items; the tests answer alike (`deeper`,
-- `at_top`).
use Rattle.std.proofs.Common.{◌≡◌, ℕ, ◌+◌, ◌<◌, ◌&&◌, ◌||◌, Bool, true, false, eqb, ltb, List, [], ◌∷◌, ◌++◌, replicate, slice_index, refl, sym, ap, ◌∙◌, arith, inl, inr, subst, append_assoc}
use Rattle.std.specs.List.{AllZip, prefix_len}
use Rattle.std.proofs.lemmas.Bool.Decides.{nat_tests}
use Rattle.macho_stub_lines.specs.declared.keys.ItemKind.{ItemKind}
use Rattle.macho_stub_lines.specs.Bytes.{space, dash, indent, has_dash, belongs_to_top}
use Rattle.macho_stub_lines.specs.steps.Bytes.{is_space}
use Rattle.macho_stub_lines.specs.Slices.{Slice, Line}
use Rattle.macho_stub_lines.specs.Spelling.{entry_bytes, value_of, value_at}
use Rattle.macho_stub_lines.specs.FlowLists.{IsFlowList}
use Rattle.macho_stub.specs.Documents.{ItemOf}
use Rattle.macho_stub.specs.Grammar.{item_keys}
use Rattle.macho_stub.specs.Places.{belongs, Entry, entries_then, IsSkipped, IsEntryOf, ItemTree, column_of, items_then, entries_of, IsItem}
use Rattle.macho_stub.specs.steps.Trees as trees
use Rattle.macho_stub.specs.steps.Trees.{is_deeper, item_value_at, IsItemEntry, Lines, IsSkippedUnder}
use Rattle.macho_stub_lines.proofs.Bind.{not_zero}
use Rattle.macho_bytes.proofs.Maps.{all_weaker}

-- ---- skipped values

or_false : (b : Bool) → (b || false) ≡ b
or_false true = refl
or_false false = refl

deeper : (column : ℕ) (text : List ℕ) → 0 < column → belongs column text ≡ is_deeper column text
deeper column text h =
    ap (λ t. ltb column (indent text) || (t && has_dash text)) (not_zero column h) ∙ or_false (ltb column (indent text))

above : (n : ℕ) → ltb 0 (1 + n) ≡ true
above n = grind (arith, nat_tests)

at_top : (text : List ℕ) → belongs 0 text ≡ belongs_to_top text
unfolding belongs_to_top has_dash indent
at_top [] = refl
at_top (b ∷ rest) = by (eqb b 32) refl
  where
    by : (t : Bool) → eqb b 32 ≡ t → belongs 0 (b ∷ rest) ≡ belongs_to_top (b ∷ rest)
    by true t =
        let n = prefix_len is_space rest in
        rw t (ap (λ z. z || (eqb (slice_index (b ∷ rest) (1 + n)) dash && eqb (slice_index (b ∷ rest) (1 + n + 1)) space)) (above n))
    by false t = rw t refl

skipped_in_item : (column : ℕ) (one : Entry) → 0 < column → IsSkipped column one
    → trees.IsSkipped (is_deeper column) (item_value_at column one) (value_of one.entry) one.more
skipped_in_item column one h (inl l) = inl l
skipped_in_item column one h (inr s) = inr (
  s.0,
  all_weaker (λ (line : Line). belongs column line.text ≡ true)
      (λ line. is_deeper column line.text ≡ true) (λ line is. sym (deeper column line.text h) ∙ is) one.more s.1,
)

skipped_of_item : (column : ℕ) (one : Entry) → 0 < column
    → trees.IsSkipped (is_deeper column) (item_value_at column one) (value_of one.entry) one.more → IsSkipped column one
skipped_of_item column one h (inl l) = inl l
skipped_of_item column one h (inr s) = inr (
  s.0,
  all_weaker (λ (line : Line). is_deeper column line.text ≡ true)
      (λ line. belongs column line.text ≡ true) (λ line is. deeper column line.text h ∙ is) one.more s.1,
)

-- a key of a document stands in column 0
pub column_0 : (n : ℕ) → n + 0 ≡ n
column_0 n = omega arith

pub skipped_at_top : (one : Entry) → IsSkipped 0 one → IsSkippedUnder (value_at one.at one.entry) (value_of one.entry) (Lines one.more)
skipped_at_top one (inl l) =
    let L : ℕ → Type 0 = λ k. IsFlowList (value_at k one.entry) (value_of one.entry) one.more l.0 in
    inl (l.0, subst L (column_0 one.at) l.1)
skipped_at_top one (inr s) = inr (
  s.0,
  all_weaker (λ (line : Line). belongs 0 line.text ≡ true)
      (λ line. belongs_to_top line.text ≡ true) (λ line is. sym (at_top line.text) ∙ is) one.more s.1,
)

pub skipped_of_top : (one : Entry) → IsSkippedUnder (value_at one.at one.entry) (value_of one.entry) (Lines one.more) → IsSkipped 0 one
skipped_of_top one (inl l) =
    let L : ℕ → Type 0 = λ k. IsFlowList (value_at k one.entry) (value_of one.entry) one.more l.0 in
    inl (l.0, subst L (sym (column_0 one.at)) l.1)
skipped_of_top one (inr s) = inr (
  s.0,
  all_weaker (λ (line : Line). belongs_to_top line.text ≡ true)
      (λ line. belongs 0 line.text ≡ true) (λ line is. at_top line.text ∙ is) one.more s.1,
)

-- ---- items

in_column : (dash_column : ℕ) (tree : ItemTree) → 0 < column_of dash_column tree
in_column dash_column tree = omega arith

item_old : (kind : ItemKind) (dash_column : ℕ) (tree : ItemTree) (item : ItemOf Slice) → IsItem kind dash_column tree item
    → trees.IsItem kind dash_column tree item
item_old kind dash_column tree item i = record {
  spaced = i.spaced;
  each = all_weaker (IsEntryOf (item_keys kind) (column_of dash_column tree)) (IsItemEntry kind (column_of dash_column tree)) entry
      (entries_of tree) i.each;
  says = i.says;
}
  where
    entry : (one : Entry) → IsEntryOf (item_keys kind) (column_of dash_column tree) one → IsItemEntry kind (column_of dash_column tree) one
    entry one e = record {
      entry = e.entry;
      skipped = λ h. skipped_in_item (column_of dash_column tree) one (in_column dash_column tree) (e.skipped h);
    }

item_new : (kind : ItemKind) (dash_column : ℕ) (tree : ItemTree) (item : ItemOf Slice) → trees.IsItem kind dash_column tree item
    → IsItem kind dash_column tree item
item_new kind dash_column tree item i = record {
  spaced = i.spaced;
  each = all_weaker (IsItemEntry kind (column_of dash_column tree)) (IsEntryOf (item_keys kind) (column_of dash_column tree)) entry
      (entries_of tree) i.each;
  says = i.says;
}
  where
    entry : (one : Entry) → IsItemEntry kind (column_of dash_column tree) one → IsEntryOf (item_keys kind) (column_of dash_column tree) one
    entry one e = record {
      entry = e.entry;
      skipped = λ h. skipped_of_item (column_of dash_column tree) one (in_column dash_column tree) (e.skipped h);
    }

pub items_old : (kind : ItemKind) (dash_column : ℕ) (all : List ItemTree) (items : List (ItemOf Slice))
    → AllZip (IsItem kind dash_column) all items → AllZip (trees.IsItem kind dash_column) all items
items_old kind dash_column [] [] z = tt
items_old kind dash_column [] (item ∷ items) z = z
items_old kind dash_column (tree ∷ all) [] z = z
items_old kind dash_column (tree ∷ all) (item ∷ items) z =
    (item_old kind dash_column tree item z.0, items_old kind dash_column all items z.1)

pub items_new : (kind : ItemKind) (dash_column : ℕ) (all : List ItemTree) (items : List (ItemOf Slice))
    → AllZip (trees.IsItem kind dash_column) all items → AllZip (IsItem kind dash_column) all items
items_new kind dash_column [] [] z = tt
items_new kind dash_column [] (item ∷ items) z = z
items_new kind dash_column (tree ∷ all) [] z = z
items_new kind dash_column (tree ∷ all) (item ∷ items) z =
    (item_new kind dash_column tree item z.0, items_new kind dash_column all items z.1)

-- the lines of items in front of others
pub entries_front : (column : ℕ) (entries : List Entry) (front rest : List Line) → entries_then column entries (front ++ rest)
    ≡ entries_then column entries front ++ rest
entries_front column [] front rest = refl
entries_front column (one ∷ others) front rest =
    let line : Line = record { number = one.number; at = one.at; text = replicate column space ++ entry_bytes one.entry } in
    ap (λ (more : List Line). line ∷ more) (ap (λ (more : List Line). one.more ++ more) (entries_front column others front rest)
    ∙ sym (append_assoc one.more (entries_then column others front) rest))

pub items_front : (dash_column : ℕ) (all : List ItemTree) (rest : List Line)
    → items_then dash_column all rest ≡ items_then dash_column all [] ++ rest
items_front dash_column [] rest = refl
items_front dash_column (tree ∷ all) rest =
    let behind = items_then dash_column all [] in
    let line : Line = record {
      number = tree.first.number;
      at = tree.first.at;
      text = replicate dash_column space ++ dash ∷ (replicate tree.gap space ++ entry_bytes tree.first.entry);
    } in
    let column = column_of dash_column tree in
    ap (λ (more : List Line). line ∷ more) (ap (λ (more : List Line). tree.first.more ++ more)
    (ap (entries_then column tree.others) (items_front dash_column all rest) ∙ entries_front column tree.others behind rest)
    ∙ sym (append_assoc tree.first.more (entries_then column tree.others behind) rest))
