-- Items by their lines alone, and with places: an item with places has one without them, which says the same and whose lines are the texts
-- of its lines; and lines that are spelled by items without places are spelled by items with these lines' places.
use Rattle.std.proofs.Common.{◌≡◌, ℕ, ◌+◌, List, [], ◌∷◌, ◌++◌, length, map, replicate, Some, None, refl, sym, ap, ◌∙◌, subst, append_assoc, arith}
use Rattle.std.proofs.lemmas.List.{append-nil, map-append, length-map}
use Rattle.std.specs.Prelude.{codes}
use Rattle.std.specs.List.{AllByRecursion, AllZip, flat_map}
use Rattle.macho_stub_lines.specs.declared.keys.ItemKind.{ItemKind}
use Rattle.macho_stub_lines.specs.declared.keys.ItemKind.TheVariants.{Libraries, Exports, Reexports}
use Rattle.macho_stub_lines.specs.Bytes.{space, dash}
use Rattle.macho_stub_lines.specs.Slices.{Slice, Line, texts_of}
use Rattle.macho_stub_lines.specs.Spelling as tree
use Rattle.macho_stub_lines.specs.Spelling.{entry_bytes}
use Rattle.macho_stub_lines.specs.Values.{IsScalar, IsNumber}
use Rattle.macho_stub_lines.proofs.Unplaced.{line_texts}
use Rattle.macho_stub_lines.proofs.UnplacedScalars.{scalar_alone, scalar_placed, number_alone, number_placed}
use Rattle.macho_stub.specs.Documents.{ItemOf, ItemFields, item_texts}
use Rattle.macho_stub.specs.Grammar.{Entry, entry_lines, value_of, IsEntryOf, SaysUnder, IsFlowList, SaysText, item_keys, SaysNames, IsItem, SaysItems}
use Rattle.macho_stub.specs.Places as old
use Rattle.macho_stub.specs.Places.{ItemTree, column_of, entries_then, item_then, items_then, place_of, entries_of}
use Rattle.macho_stub.proofs.UnplacedEntries.{forget, Sound, value_same, first_of, entry_placed, entries_lines, entries_placed, each_sound, each_forth, each_back, says_forth, says_back, must, no_texts, some_none, no_texts_forth, list_forth, list_back}

-- ---- items

abbrev pub item_lines : ℕ → ItemTree → List (List ℕ)
item_lines dash_column item = entry_lines (replicate dash_column space ++ dash ∷ replicate item.gap space) (forget item.first)
    ++ flat_map (entry_lines (replicate (dash_column + 1 + item.gap) space)) (map forget item.others)

dashed : (dash_column gap : ℕ) (bytes : List ℕ) → replicate dash_column space ++ dash ∷ (replicate gap space ++ bytes)
    ≡ (replicate dash_column space ++ dash ∷ replicate gap space) ++ bytes
dashed dash_column gap bytes = sym (append_assoc (replicate dash_column space) (dash ∷ replicate gap space) bytes)

pub item_lines_are : (dash_column : ℕ) (item : ItemTree) (rest : List Line) → line_texts (item_then dash_column item rest)
    ≡ item_lines dash_column item ++ line_texts rest
item_lines_are dash_column item rest =
    let column = dash_column + 1 + item.gap in
    let others = flat_map (entry_lines (replicate column space)) (map forget item.others) in
    let line : List ℕ = (replicate dash_column space ++ dash ∷ replicate item.gap space) ++ entry_bytes item.first.entry in
    ap (λ (t : List ℕ). t ∷ line_texts (item.first.more ++ entries_then column item.others rest))
    (dashed dash_column item.gap (entry_bytes item.first.entry))
    ∙ ap (λ (m : List (List ℕ)). line ∷ m) (map-append (λ (l : Line). l.text) item.first.more (entries_then column item.others rest)
    ∙ ap (λ (m : List (List ℕ)). line_texts item.first.more ++ m) (entries_lines column item.others rest)
    ∙ sym (append_assoc (line_texts item.first.more) others (line_texts rest)))

abbrev Names : ℕ → old.Entry → List Slice → Type 0
Names column = old.SaysNames column

abbrev SaysItem : ItemKind → List Entry → ItemFields → Type 0
SaysItem kind entries item = SaysUnder (codes "targets") None IsFlowList entries item.targets × SaysNames kind entries item

item_forth : (kind : ItemKind) (column : ℕ) (entries : List old.Entry) (item : ItemOf Slice) → AllByRecursion Sound entries
    → old.SaysItem kind column entries item → SaysItem kind (map forget entries) (item_texts item)
item_forth kind column entries item sound s = by kind s
  where
    targets : old.SaysUnder (codes "targets") None (Names column) entries item.targets
        → SaysUnder (codes "targets") None IsFlowList (map forget entries) (texts_of item.targets)
    targets = says_forth (codes "targets") None None (Names column) IsFlowList item.targets (texts_of item.targets)
        (some_none item.targets (texts_of item.targets)) (list_forth column item.targets) entries sound

    names : (key : List ℕ) → old.SaysUnder key None (Names column) entries item.names
        → SaysUnder key None IsFlowList (map forget entries) (texts_of item.names)
    names key = says_forth key None None (Names column) IsFlowList item.names (texts_of item.names)
        (some_none item.names (texts_of item.names)) (list_forth column item.names) entries sound

    or_none : (key : List ℕ) (says : List Slice) → old.SaysUnder key (Some []) (Names column) entries says
        → SaysUnder key (Some []) IsFlowList (map forget entries) (texts_of says)
    or_none key says = says_forth key (Some []) (Some []) (Names column) IsFlowList says (texts_of says)
        (no_texts_forth says) (list_forth column says) entries sound

    by : (kind : ItemKind) → old.SaysItem kind column entries item → SaysItem kind (map forget entries) (item_texts item)
    by Libraries s = (targets s.0, (names (codes "libraries") s.1, ap texts_of s.2))
    by Exports s = (targets s.0, (or_none (codes "symbols") item.names s.1, or_none (codes "weak-symbols") item.weak_names s.2))
    by Reexports s = (targets s.0, (or_none (codes "symbols") item.names s.1, or_none (codes "weak-symbols") item.weak_names s.2))

item_back : (kind : ItemKind) (column : ℕ) (entries : List old.Entry) (item : ItemFields) → AllByRecursion Sound entries
    → SaysItem kind (map forget entries) item → (says : ItemOf Slice) × old.SaysItem kind column entries says × (item_texts says ≡ item)
item_back kind column entries item sound s = by kind s
  where
    must_say : (key : List ℕ) (texts : List (List ℕ)) → SaysUnder key None IsFlowList (map forget entries) texts
        → (says : List Slice) × old.SaysUnder key None (Names column) entries says × (texts_of says ≡ texts)
    must_say key texts = says_back key None None (Names column) IsFlowList texts_of texts
        (must texts_of texts) (list_back column texts) entries sound

    may_say : (key : List ℕ) (texts : List (List ℕ)) → SaysUnder key (Some []) IsFlowList (map forget entries) texts
        → (says : List Slice) × old.SaysUnder key (Some []) (Names column) entries says × (texts_of says ≡ texts)
    may_say key texts = says_back key (Some []) (Some []) (Names column) IsFlowList texts_of texts
        (no_texts texts) (list_back column texts) entries sound

    made : {a b c : List (List ℕ)} → a ≡ item.targets → b ≡ item.names → c ≡ item.weak_names
        → (record { targets = a; names = b; weak_names = c }) ≡ item
    made p q r = rw (p, q, r) refl

    symbols : SaysItem Exports (map forget entries) item
        → (says : ItemOf Slice) × old.SaysItem Exports column entries says × (item_texts says ≡ item)
    symbols s =
        let t = must_say (codes "targets") item.targets s.0 in
        let n = may_say (codes "symbols") item.names s.1.0 in
        let w = may_say (codes "weak-symbols") item.weak_names s.1.1 in
        (record { targets = t.0; names = n.0; weak_names = w.0 }, (t.1, n.1, w.1), made t.2 n.2 w.2)

    by : (kind : ItemKind) → SaysItem kind (map forget entries) item
        → (says : ItemOf Slice) × old.SaysItem kind column entries says × (item_texts says ≡ item)
    by Libraries s =
        let t = must_say (codes "targets") item.targets s.0 in
        let n = must_say (codes "libraries") item.names s.1.0 in
        (record { targets = t.0; names = n.0; weak_names = [] }, (t.1, n.1, refl), made t.2 n.2 (sym s.1.1))
    by Exports s = symbols s
    by Reexports s = symbols s

is_item_forth : (kind : ItemKind) (dash_column : ℕ) (item : ItemTree) (says : ItemOf Slice) → old.IsItem kind dash_column item says
    → IsItem kind dash_column (item_lines dash_column item) (item_texts says)
is_item_forth kind dash_column item says i =
    let column = column_of dash_column item in
    let s = item_forth kind column (entries_of item) says (each_sound (item_keys kind) column (entries_of item) i.each) i.says in
    record {
      gap = item.gap;
      spaced = i.spaced;
      first = forget item.first;
      others = map forget item.others;
      spelled = refl;
      each = each_forth (item_keys kind) column (entries_of item) i.each;
      targets = s.0;
      names = s.1;
    }

record ItemPlaced (kind : ItemKind) (dash_column : ℕ) (item : ItemFields) (lines : List Line) (rest : List (List ℕ)) : Type 0 where
  tree : ItemTree
  left : List Line
  parts : lines ≡ item_then dash_column tree left
  same : line_texts left ≡ rest
  says : ItemOf Slice
  is : old.IsItem kind dash_column tree says
  are : item_texts says ≡ item

item_placed : (kind : ItemKind) (dash_column : ℕ) (part : List (List ℕ)) (item : ItemFields) → IsItem kind dash_column part item
    → (lines : List Line) (rest : List (List ℕ)) → line_texts lines ≡ part ++ rest → ItemPlaced kind dash_column item lines rest
item_placed kind dash_column part item i lines rest e =
    let column = dash_column + 1 + i.gap in
    let front : List ℕ = replicate dash_column space ++ dash ∷ replicate i.gap space in
    let behind = flat_map (entry_lines (replicate column space)) i.others in
    let f = entry_placed front i.first i.each.0.is lines (behind ++ rest)
    (e ∙ ap (λ (p : List (List ℕ)). p ++ rest) i.spelled ∙ append_assoc (entry_lines front i.first) behind rest) in
    let r = entries_placed (item_keys kind) column i.others i.each.1 f.left rest f.same in
    let tree : ItemTree = record { gap = i.gap; first = f.one; others = r.olds } in
    let all : map forget (entries_of tree) ≡ i.first ∷ i.others = ap (λ (x : Entry). x ∷ map forget r.olds) f.is
    ∙ ap (λ (xs : List Entry). i.first ∷ xs) r.are in
    let sound : AllByRecursion Sound (entries_of tree) = (f.sound, r.sound) in
    let E : List Entry → Type 0 = λ es. AllByRecursion (IsEntryOf (item_keys kind) column) es in
    let S : List Entry → Type 0 = λ es. SaysItem kind es item in
    let b = item_back kind column (entries_of tree) item sound (subst S (sym all) (i.targets, i.names)) in
    let L : List ℕ → List Line → List Line = λ text more. record { number = f.one.number; at = f.one.at; text = text } ∷ more in
    record {
      tree = tree;
      left = r.left;
      parts = f.parts ∙ ap (λ (m : List Line). first_of front f.one ∷ (f.one.more ++ m)) r.parts
          ∙ ap (λ t. L t (f.one.more ++ entries_then column r.olds r.left)) (sym (dashed dash_column i.gap (entry_bytes f.one.entry)));
      same = r.same;
      says = b.0;
      is = record {
        spaced = i.spaced;
        each = each_back (item_keys kind) column (entries_of tree) sound (subst E (sym all) i.each);
        says = b.1;
      };
      are = b.2;
    }

-- items with their dashes in one column
pub record ItemsAlone (kind : ItemKind) (dash_column : ℕ) (trees : List ItemTree) (items : List ItemFields)
    (rest : List Line) : Type 0 where
  pub parts : List (List (List ℕ))
  pub lines : line_texts (items_then dash_column trees rest) ≡ flat_map (λ part. part) parts ++ line_texts rest
  pub are : AllZip (IsItem kind dash_column) parts items

pub items_alone : (kind : ItemKind) (dash_column : ℕ) (trees : List ItemTree) (items : List (ItemOf Slice)) (rest : List Line)
    → AllZip (old.IsItem kind dash_column) trees items → ItemsAlone kind dash_column trees (map item_texts items) rest
items_alone kind dash_column [] [] rest z = record { parts = []; lines = refl; are = tt }
items_alone kind dash_column [] (item ∷ items) rest z = absurd z
items_alone kind dash_column (item ∷ trees) [] rest z = absurd z
items_alone kind dash_column (item ∷ trees) (says ∷ items) rest z =
    let r = items_alone kind dash_column trees items rest z.1 in
    let one = item_lines dash_column item in
    record {
      parts = one ∷ r.parts;
      lines = item_lines_are dash_column item (items_then dash_column trees rest)
          ∙ ap (λ (m : List (List ℕ)). one ++ m) r.lines
          ∙ sym (append_assoc one (flat_map (λ part. part) r.parts) (line_texts rest));
      are = (is_item_forth kind dash_column item says z.0, r.are);
    }

pub record ItemsPlaced (kind : ItemKind) (dash_column : ℕ) (items : List ItemFields) (lines : List Line) : Type 0 where
  pub trees : List ItemTree
  pub parts : lines ≡ items_then dash_column trees []
  pub says : List (ItemOf Slice)
  pub is : AllZip (old.IsItem kind dash_column) trees says
  pub are : map item_texts says ≡ items

pub items_placed : (kind : ItemKind) (dash_column : ℕ) (parts : List (List (List ℕ))) (items : List ItemFields)
    → AllZip (IsItem kind dash_column) parts items → (lines : List Line) → line_texts lines ≡ flat_map (λ part. part) parts
    → ItemsPlaced kind dash_column items lines
items_placed kind dash_column [] [] z [] e = record { trees = []; parts = refl; says = []; is = tt; are = refl }
items_placed kind dash_column [] [] z (line ∷ lines) e = absurd cc
items_placed kind dash_column [] (item ∷ items) z lines e = absurd z
items_placed kind dash_column (part ∷ parts) [] z lines e = absurd z
items_placed kind dash_column (part ∷ parts) (item ∷ items) z lines e =
    let i = item_placed kind dash_column part item z.0 lines (flat_map (λ p. p) parts) e in
    let r = items_placed kind dash_column parts items z.1 i.left i.same in
    record {
      trees = i.tree ∷ r.trees;
      parts = i.parts ∙ ap (item_then dash_column i.tree) r.parts;
      says = i.says ∷ r.says;
      is = (i.is, r.is);
      are = ap (λ (x : ItemFields). x ∷ map item_texts r.says) i.are ∙ ap (λ (xs : List ItemFields). item ∷ xs) r.are;
    }

-- ---- what an entry of a document says

pub number_forth : (says : Slice) (one : old.Entry) → Sound one → old.SaysNumber one says → SaysText IsNumber (forget one) says.text
number_forth says one s n =
    let a = number_alone (place_of 0 one) (tree.value_of one.entry) says n.1 in
    (ap line_texts n.0, a.0, a.1, value_same one s ∙ a.2, a.3, a.4)

pub scalar_forth : (says : Slice) (one : old.Entry) → Sound one → old.SaysScalar one says → SaysText IsScalar (forget one) says.text
scalar_forth says one s n =
    let a = scalar_alone (place_of 0 one) (tree.value_of one.entry) says n.1 in
    (ap line_texts n.0, a.0, a.1, value_same one s ∙ a.2, a.3, a.4)

no_lines : (lines : List Line) → line_texts lines ≡ [] → lines ≡ []
no_lines [] e = refl
no_lines (line ∷ lines) e = absurd cc

pub number_back : (text : List ℕ) (one : old.Entry) → Sound one → SaysText IsNumber (forget one) text
    → (says : Slice) × old.SaysNumber one says × (says.text ≡ text)
number_back text one s n =
    let p = number_placed (place_of 0 one) (tree.value_of one.entry) text (n.1, n.2, sym (value_same one s) ∙ n.3, n.4, n.5) in
    (p.0, (no_lines one.more n.0, p.1), p.2)

pub scalar_back : (text : List ℕ) (one : old.Entry) → Sound one → SaysText IsScalar (forget one) text
    → (says : Slice) × old.SaysScalar one says × (says.text ≡ text)
scalar_back text one s n =
    let p = scalar_placed (place_of 0 one) (tree.value_of one.entry) text (n.1, n.2, sym (value_same one s) ∙ n.3, n.4, n.5) in
    (p.0, (no_lines one.more n.0, p.1), p.2)

pub items_forth : (kind : ItemKind) (says : List (ItemOf Slice)) (one : old.Entry) → Sound one → old.SaysItems kind one says
    → SaysItems kind (forget one) (map item_texts says)
items_forth kind says one s i =
    let a = items_alone kind i.2 i.3 says [] i.5 in
    let parts = flat_map (λ part. part) a.parts in (
      value_same one s ∙ i.0,
      omega (arith, i.1, length-map says item_texts),
      i.2,
      a.parts,
      ap line_texts i.4 ∙ a.lines ∙ append-nil parts,
      a.are,
    )

pub items_back : (kind : ItemKind) (items : List ItemFields) (one : old.Entry) → Sound one → SaysItems kind (forget one) items
    → (says : List (ItemOf Slice)) × old.SaysItems kind one says × (map item_texts says ≡ items)
items_back kind items one s i =
    let p = items_placed kind i.2 i.3 items i.5 one.more i.4 in
    let long : length (map item_texts p.says) ≡ length items = ap (λ (l : List ItemFields). length l) p.are in
    (p.says, (sym (value_same one s) ∙ i.0, omega (arith, i.1, long, length-map p.says item_texts), i.2, p.trees, p.parts, p.is), p.are)
