-- What is read is in the grammar. From the tree that is read and the lines with their places: the first of the lines
-- are those of the tree, each with its place, and what stands on them has trees of its own (a key with its value, a
-- list, a scalar). So the tree of the grammar is built from the front on, and what follows it is left (`left`).
-- An entry is found of its line and the lines under it, and its value by what its key is (`entry_here`); the others
-- follow on what is left, for an item's entries (`entries_found`) as for the items of a list (`items_found`).
use Rattle.std.proofs.Common.{◌≡◌, ℕ, ◌+◌, Bool, true, List, [], ◌∷◌, ◌++◌, replicate, refl, sym, ap, ◌∙◌, inl, inr, subst}
use Rattle.macho_stub_lines.proofs.Runs.{all_made_of}
use Rattle.macho_stub_lines.specs.declared.keys.ItemKind.{ItemKind}
use Rattle.macho_stub_lines.specs.declared.keys.ItemKey.{ItemKey}
use Rattle.macho_stub_lines.specs.declared.keys.ItemKey.TheVariants as item
use Rattle.macho_stub_lines.specs.Bytes.{space, dash}
use Rattle.macho_stub_lines.specs.Slices.{Slice, Line}
use Rattle.macho_stub_lines.specs.Spelling.{entry_bytes, value_of}
use Rattle.macho_stub_lines.specs.Keys.{item_key}
use Rattle.macho_stub_lines.specs.ReadLists.{ReadLine, read_line}
use Rattle.macho_stub.specs.Documents.{ItemOf, ItemFields, item_texts}
use Rattle.macho_stub.specs.steps.Opened.{OpenItemOf, OpenItemFields, no_item, with_key}
use Rattle.macho_stub.specs.steps.Whole.{whole_item}
use Rattle.macho_stub.specs.Places.{entries_then, ItemTree, item_then, items_then}
use Rattle.macho_stub.specs.steps.Trees.{IsSkipped, ItemEntry, item_value_at, is_deeper}
use Rattle.macho_stub.proofs.Folded.{GivesNames, ItemValue, IsItemEntry, ItemEntries, IsItem, AreItems}
use Rattle.macho_stub.proofs.Readings as read
use Rattle.macho_stub.proofs.TreeTexts.{items_texts, open_item_texts, has_key_texts, with_key_texts, whole_item_found}
use Rattle.macho_stub.proofs.TreesRead.{read_lines, read_item_entry}
use Rattle.macho_stub_lines.proofs.EntryTrees.{entry_found}
use Rattle.macho_stub_lines.proofs.ListTrees.{list_found}

-- ---- lines

-- the first of the lines
pub record FirstLine (lines : List Line) (first : ReadLine) (rest : List ReadLine) : Type 0 where
  pub line : Line
  pub left : List Line
  pub parts : lines ≡ line ∷ left
  pub number : line.number ≡ first.number
  pub text : line.text ≡ first.text
  pub same : read_lines left ≡ rest

-- lines that read with a first line have such a line in front
pub first_line : (lines : List Line) (first : ReadLine) (rest : List ReadLine) → read_lines lines ≡ first ∷ rest
    → FirstLine lines first rest
first_line [] first rest e = absurd cc
first_line (line ∷ left) first rest e =
    let here : read_line line ≡ first = cc in
    let behind : read_lines left ≡ rest = cc in
    record {
      line = line;
      left = left;
      parts = refl;
      number = ap (λ (l : ReadLine). l.number) here;
      text = ap (λ (l : ReadLine). l.text) here;
      same = behind;
    }

-- the lines of a front
pub record FrontLines (lines : List Line) (front rest : List ReadLine) : Type 0 where
  pub more : List Line
  pub left : List Line
  pub parts : lines ≡ more ++ left
  pub are : read_lines more ≡ front
  pub same : read_lines left ≡ rest

abbrev read_as : ℕ → List ℕ → ReadLine
read_as number text = record { number = number; text = text }

same_line : (m n : ℕ) (s t : List ℕ) → m ≡ n → s ≡ t → read_as m s ≡ read_as n t
same_line m n s t p q = ap (λ k. read_as k s) p ∙ ap (read_as n) q

-- and lines that read with a front have such a front
pub front_lines : (lines : List Line) (front rest : List ReadLine) → read_lines lines ≡ front ++ rest → FrontLines lines front rest
front_lines lines [] rest e = record { more = []; left = lines; parts = refl; are = refl; same = e }
front_lines lines (first ∷ front) rest e =
    let f = first_line lines first (front ++ rest) e in
    let b = front_lines f.left front rest f.same in
    let here : read_line f.line ≡ first = same_line f.line.number first.number f.line.text first.text f.number f.text in
    record {
      more = f.line ∷ b.more;
      left = b.left;
      parts = f.parts ∙ ap (λ (more : List Line). f.line ∷ more) b.parts;
      are = ap (λ (l : ReadLine). l ∷ read_lines b.more) here ∙ ap (λ (more : List ReadLine). first ∷ more) b.are;
      same = b.same;
    }

-- ---- skipped values

-- a value that is skipped as it is read is skipped in the grammar
pub skipped_found : (belongs : List ℕ → Bool) (number at : ℕ) (value : List ℕ) (more : List Line)
    → read.IsSkipped belongs number value (read_lines more) → IsSkipped belongs at value more
skipped_found belongs number at value more (inl l) = let f = list_found number at value more l.0 l.1 in inl (f.0, f.1)
skipped_found belongs number at value more (inr s) =
    inr (s.0, all_made_of (λ (line : ReadLine). belongs line.text ≡ true) read_line more s.1)

-- ---- entries of items

-- the value of a key, from what was known in slices
record FoundValue (column : ℕ) (key : ItemKey) (one : ItemEntry) (old : OpenItemOf Slice) (new : OpenItemFields) : Type 0 where
  after : OpenItemOf Slice
  is : ItemValue column key one old after
  texts : open_item_texts after ≡ new

names_found : (column : ℕ) (key : ItemKey) (one : ItemEntry) (old : OpenItemOf Slice) (new : OpenItemFields)
    → read.GivesNames key (value_of one.entry) (read_item_entry one) (open_item_texts old) new
    → (after : OpenItemOf Slice) × GivesNames column key one old after × (open_item_texts after ≡ new)
names_found column key one old new g =
    let l = list_found one.number (item_value_at column one) (value_of one.entry) one.more g.names g.list in (
      with_key key l.0 old,
      record { first_time = sym (has_key_texts key old) ∙ g.first_time; names = l.0; list = l.1; gives = refl },
      with_key_texts key l.0 old ∙ ap (λ names. with_key key names (open_item_texts old)) l.2 ∙ sym g.gives,
    )

value_found : (column : ℕ) (key : ItemKey) (one : ItemEntry) (old : OpenItemOf Slice) (new : OpenItemFields)
    → read.ItemValue column key (value_of one.entry) (read_item_entry one) (open_item_texts old) new
    → FoundValue column key one old new
value_found column item.Unread one old new v = record {
  after = old;
  is = (skipped_found (is_deeper column) one.number (item_value_at column one) (value_of one.entry) one.more v.0, refl);
  texts = sym v.1;
}
value_found column item.Targets one old new v =
    let n = names_found column item.Targets one old new v in record { after = n.0; is = n.1; texts = n.2 }
value_found column item.Names one old new v =
    let n = names_found column item.Names one old new v in record { after = n.0; is = n.1; texts = n.2 }
value_found column item.WeakNames one old new v =
    let n = names_found column item.WeakNames one old new v in record { after = n.0; is = n.1; texts = n.2 }

-- An entry whose line was found, with the lines under it.
record FoundEntry (kind : ItemKind) (column number at : ℕ) (head : List ℕ) (more : List Line) (old : OpenItemOf Slice)
    (new : OpenItemFields) : Type 0 where
  one : ItemEntry
  number_is : one.number ≡ number
  at_is : one.at ≡ at
  more_is : one.more ≡ more
  spelled : entry_bytes one.entry ≡ head
  after : OpenItemOf Slice
  is : IsItemEntry kind column one old after
  texts : open_item_texts after ≡ new

entry_here : (kind : ItemKind) (column number at : ℕ) (head : List ℕ) (more : List Line) (old : OpenItemOf Slice) (new : OpenItemFields)
    → read.IsItemEntry kind column (record { number = number; head = head; more = read_lines more }) (open_item_texts old) new
    → FoundEntry kind column number at head more old new
entry_here kind column number at head more old new e =
    let f = entry_found number head e.said e.key in
    let one : ItemEntry = record { number = number; at = at; entry = f.0; more = more } in
    let V : ItemKey → List ℕ → List ℕ → Type 0 = λ key value h. read.ItemValue column key value
    (record { number = number; head = h; more = read_lines more }) (open_item_texts old) new in
    let by_key = subst (λ key. V (item_key kind key) e.said.value head) f.3 e.value in
    let by_value = subst (λ value. V (item_key kind f.0.key) value head) f.4 by_key in
    let by_head = subst (λ h. V (item_key kind f.0.key) (value_of f.0) h) f.2 by_value in
    let v = value_found column (item_key kind f.0.key) one old new by_head in
    record {
      one = one;
      number_is = refl;
      at_is = refl;
      more_is = refl;
      spelled = sym f.2;
      after = v.after;
      is = record { entry = f.1; value = v.is };
      texts = v.texts;
    }

-- the entries of an item, in front of what is left
record FoundEntries (kind : ItemKind) (column : ℕ) (lines : List Line) (rest : List ReadLine) (old : OpenItemOf Slice)
    (new : OpenItemFields) : Type 0 where
  entries : List ItemEntry
  left : List Line
  parts : lines ≡ entries_then column entries left
  same : read_lines left ≡ rest
  after : OpenItemOf Slice
  are : ItemEntries kind column entries old after
  texts : open_item_texts after ≡ new

-- an entry of other lines and texts that are the same
same_entry : (kind : ItemKind) (column number : ℕ) (head : List ℕ) (more front : List ReadLine) (from old new : OpenItemFields) (n : ℕ)
    → n ≡ number → more ≡ front → from ≡ old
    → read.IsItemEntry kind column (record { number = number; head = head; more = front }) old new
    → read.IsItemEntry kind column (record { number = n; head = head; more = more }) from new
same_entry kind column number head more front from old new n a b c e =
    let by_number = subst (λ k. read.IsItemEntry kind column (record { number = k; head = head; more = front }) old new) (sym a) e in
    let by_more = subst (λ m. read.IsItemEntry kind column (record { number = n; head = head; more = m }) old new) (sym b) by_number in
    subst (λ o. read.IsItemEntry kind column (record { number = n; head = head; more = more }) o new) (sym c) by_more

entries_found : (kind : ItemKind) (column : ℕ) (entries : List read.ItemEntry) (from new : OpenItemFields) (old : OpenItemOf Slice)
    (lines : List Line) (rest : List ReadLine) → open_item_texts old ≡ from → read.ItemEntries kind column entries from new
    → read_lines lines ≡ read.entries_then column entries rest → FoundEntries kind column lines rest old new
entries_found kind column [] from new old lines rest o e l =
    record { entries = []; left = lines; parts = refl; same = l; after = old; are = refl; texts = o ∙ sym e }
entries_found kind column (one ∷ others) from new old lines rest o e l =
    let f = first_line lines (record { number = one.number; text = replicate column space ++ one.head })
    (one.more ++ read.entries_then column others rest) l in
    let m = front_lines f.left one.more (read.entries_then column others rest) f.same in
    let h = entry_here kind column f.line.number f.line.at one.head m.more old e.0
    (same_entry kind column one.number one.head (read_lines m.more) one.more (open_item_texts old) from e.0 f.line.number
    f.number m.are o e.1) in
    let r = entries_found kind column others e.0 new h.after m.left rest h.texts e.2 m.same in
    let L : ℕ → ℕ → List ℕ → List Line → List Line = λ number at text more. record { number = number; at = at; text = text } ∷ more in
    let text : f.line.text ≡ replicate column space ++ entry_bytes h.one.entry =
    f.text ∙ ap (λ (t : List ℕ). replicate column space ++ t) (sym h.spelled) in
    record {
      entries = h.one ∷ r.entries;
      left = r.left;
      parts = f.parts ∙ ap (λ (left : List Line). f.line ∷ left) (m.parts ∙ ap (λ (left : List Line). m.more ++ left) r.parts)
          ∙ ap (λ t. L f.line.number f.line.at t (m.more ++ entries_then column r.entries r.left)) text
          ∙ ap (λ n. L n f.line.at (replicate column space ++ entry_bytes h.one.entry) (m.more ++ entries_then column r.entries r.left))
          (sym h.number_is)
          ∙ ap (λ a. L h.one.number a (replicate column space ++ entry_bytes h.one.entry) (m.more ++ entries_then column r.entries r.left))
          (sym h.at_is)
          ∙ ap (λ (more : List Line). L h.one.number h.one.at (replicate column space ++ entry_bytes h.one.entry)
          (more ++ entries_then column r.entries r.left)) (sym h.more_is);
      same = r.same;
      after = r.after;
      are = (h.after, h.is, r.are);
      texts = r.texts;
    }

-- ---- items

-- an item, in front of what is left
record FoundItem (kind : ItemKind) (dash_column : ℕ) (lines : List Line) (rest : List ReadLine) (texts : ItemFields) : Type 0 where
  tree : ItemTree
  left : List Line
  parts : lines ≡ item_then dash_column tree left
  same : read_lines left ≡ rest
  says : ItemOf Slice
  is : IsItem kind dash_column tree says
  are : item_texts says ≡ texts

item_found : (line : ℕ) (kind : ItemKind) (dash_column : ℕ) (tree : read.ItemTree) (texts : ItemFields) (lines : List Line)
    (rest : List ReadLine) → read.IsItem line kind dash_column tree texts → read_lines lines ≡ read.item_then dash_column tree rest
    → FoundItem kind dash_column lines rest texts
item_found line kind dash_column tree texts lines rest i l =
    let column = dash_column + 1 + tree.gap in
    let front : List ℕ → List ℕ = λ head. replicate dash_column space ++ dash ∷ (replicate tree.gap space ++ head) in
    let behind = read.entries_then column tree.others rest in
    let f = first_line lines (record { number = tree.first.number; text = front tree.first.head }) (tree.first.more ++ behind) l in
    let m = front_lines f.left tree.first.more behind f.same in
    let e = i.entries in
    let h = entry_here kind column f.line.number f.line.at tree.first.head m.more no_item e.0
    (same_entry kind column tree.first.number tree.first.head (read_lines m.more) tree.first.more no_item no_item e.0 f.line.number
    f.number m.are refl e.1) in
    let r = entries_found kind column tree.others e.0 i.read h.after m.left rest h.texts e.2 m.same in
    let w = whole_item_found line kind r.after texts (ap (whole_item line kind) r.texts ∙ i.whole) in
    let L : ℕ → ℕ → List ℕ → List Line → List Line = λ number at text more. record { number = number; at = at; text = text } ∷ more in
    let text : f.line.text ≡ front (entry_bytes h.one.entry) = f.text ∙ ap front (sym h.spelled) in
    record {
      tree = record { gap = tree.gap; first = h.one; others = r.entries };
      left = r.left;
      parts = f.parts ∙ ap (λ (left : List Line). f.line ∷ left) (m.parts ∙ ap (λ (left : List Line). m.more ++ left) r.parts)
          ∙ ap (λ t. L f.line.number f.line.at t (m.more ++ entries_then column r.entries r.left)) text
          ∙ ap (λ n. L n f.line.at (front (entry_bytes h.one.entry)) (m.more ++ entries_then column r.entries r.left)) (sym h.number_is)
          ∙ ap (λ a. L h.one.number a (front (entry_bytes h.one.entry)) (m.more ++ entries_then column r.entries r.left)) (sym h.at_is)
          ∙ ap (λ (more : List Line). L h.one.number h.one.at (front (entry_bytes h.one.entry))
          (more ++ entries_then column r.entries r.left)) (sym h.more_is);
      same = r.same;
      says = w.says;
      is = record { spaced = i.spaced; read = r.after; entries = (h.after, h.is, r.are); whole = w.whole };
      are = w.are;
    }

-- items with their dashes in one column, in front of what is left
pub record FoundItems (kind : ItemKind) (dash_column : ℕ) (lines : List Line) (rest : List ReadLine) (texts : List ItemFields)
    : Type 0 where
  pub trees : List ItemTree
  pub left : List Line
  pub parts : lines ≡ items_then dash_column trees left
  pub same : read_lines left ≡ rest
  pub says : List (ItemOf Slice)
  pub are_items : AreItems kind dash_column trees says
  pub are : items_texts says ≡ texts

-- items that are read are items of the grammar, in front of what is left
pub items_found : (line : ℕ) (kind : ItemKind) (dash_column : ℕ) (trees : List read.ItemTree) (texts : List ItemFields)
    (lines : List Line) (rest : List ReadLine) → read.AreItems line kind dash_column trees texts
    → read_lines lines ≡ read.items_then dash_column trees rest → FoundItems kind dash_column lines rest texts
items_found line kind dash_column [] [] lines rest a l =
    record { trees = []; left = lines; parts = refl; same = l; says = []; are_items = tt; are = refl }
items_found line kind dash_column [] (one ∷ texts) lines rest a l = absurd a
items_found line kind dash_column (tree ∷ trees) [] lines rest a l = absurd a
items_found line kind dash_column (tree ∷ trees) (one ∷ texts) lines rest a l =
    let i = item_found line kind dash_column tree one lines (read.items_then dash_column trees rest) a.0 l in
    let r = items_found line kind dash_column trees texts i.left rest a.1 i.same in
    record {
      trees = i.tree ∷ r.trees;
      left = r.left;
      parts = i.parts ∙ ap (item_then dash_column i.tree) r.parts;
      same = r.same;
      says = i.says ∷ r.says;
      are_items = (i.is, r.are_items);
      are = ap (λ (one : ItemFields). one ∷ items_texts r.says) i.are ∙ ap (λ (all : List ItemFields). one ∷ all) r.are;
    }
