-- Sizes of nodes, from the table.
--
-- A row's tree stands before the trees behind it, its children first. So the sizes of the nodes in preorder are those of
-- the rows in order, and the edges of a row are those of its children's rows, one after the other.
use Rattle.std.proofs.Common.{◌≡◌, ℕ, zero, suc, ◌+◌, ◌-◌, ◌<◌, ◌≤◌, List, [], ◌∷◌, ◌++◌, length, drop, map, slice_index, get_or, Option, Some, true, refl, sym, ap, subst, append_assoc, ◌∙◌, arith}
use Rattle.std.proofs.lemmas.List.{length-take, length-drop, length-append, get_or-drop, get_or-map}
use Rattle.macho_bytes.specs.Uleb.{uleb_of}
use Rattle.macho_trie.specs.Exports.{Exported, as_value}
use Rattle.macho_trie.specs.Says.{symbol_of, said_of}
use Rattle.macho_trie.specs.declared.symbols.Symbol.{Symbol}
use Rattle.macho_trie.specs.Trees.{Edges, no_edge, edge, edge_count, node_count}
use Rattle.macho_trie.specs.Tables.{first_edges, later_edges, label_of, symbol_at, trees_of, name_at, row_at, trees_from, children_at, IsRow, SpellTrees, AreRows}
use Rattle.macho_trie.specs.Encoding.{edges_size, node_sizes, says_of, export_bytes, terminal_size}
use Rattle.macho_trie.specs.declared.table.Row.{Row}
use Rattle.macho_trie.proofs.Cursor.{cursor, row_sound, trees_cons, IsCursor}

pub label_length : (names : List (List ℕ)) (row : Row) (behind : Edges) → IsRow names row behind → length (label_of names row) ≡ row.length
label_length names row behind r =
    omega (
      arith,
      length-take (row.start + row.length - row.start) (drop row.start (name_at names row.symbol)),
      length-drop row.start (name_at names row.symbol),
      r.label,
    )

-- one edge more is counted
pub edge_more : (names : List (List ℕ)) (rows : List Row) (width : ℕ → ℕ) (k c size whole : ℕ) (row : Row) → IsCursor names rows k c row
    → size + edges_size width c (first_edges (suc k) (trees_from names rows c)) ≡ whole
    → size + (row.length + 1 + width c) + edges_size width row.after (first_edges k (trees_from names rows row.after)) ≡ whole
edge_more names rows width k c size whole row at same =
    let all = ap (λ (es : Edges). edges_size width c es) at.is in
    let label = label_length names row (trees_from names rows (c + 1)) at.sound in
    let next : c + (node_count (first_edges row.children (trees_from names rows (c + 1))) + 1) ≡ row.after = omega (arith, at.after) in
    let later = ap (λ (n : ℕ). edges_size width n (first_edges k (trees_from names rows row.after))) next in
    omega (arith, all, label, later, same)

-- the loop over the edges of a row
pub record IsCounted (names : List (List ℕ)) (rows : List Row) (width : ℕ → ℕ) (row left child size : ℕ) : Type 0 where
  pub within : child ≤ length rows
  pub count : edge_count (first_edges left (trees_from names rows child)) ≡ left
  pub sum : size + edges_size width child (first_edges left (trees_from names rows child)) ≡ edges_size width (row + 1) (children_at
      names rows row)

pub counted_first : (names : List (List ℕ)) (rows : List Row) (width : ℕ → ℕ) (row left : ℕ) → AreRows names rows → row < length rows
    → left ≡ (row_at rows row).children → IsCounted names rows width row left (row + 1) 0
counted_first names rows width row left sound here all =
    let at = row_sound names rows row _ sound.trees here in
    let C : ℕ → Type 0 = λ n. IsCounted names rows width row n (row + 1) 0 in
    subst C (sym all) (record { within = omega arith; count = at.children; sum = omega arith })

pub counted_more : (names : List (List ℕ)) (rows : List Row) (width : ℕ → ℕ) (row left k child size : ℕ) → AreRows names rows → left ≡ suc k
    → IsCounted names rows width row left child size
    → IsCounted names rows width row k (row_at rows child).after (size + ((row_at rows child).length + 1 + width child))
counted_more names rows width row left k child size sound is c =
    let Count : ℕ → Type 0 = λ n. edge_count (first_edges n (trees_from names rows child)) ≡ n in
    let Sum : ℕ → Type 0 = λ n. size + edges_size width child (first_edges n (trees_from names rows child)) ≡ edges_size width (row +
    1) (children_at names rows row) in
    let at = cursor names rows k child sound (subst Count is c.count) in
    record {
      within = at.next;
      count = at.count;
      sum = edge_more names rows width k child size _ (row_at rows child) at (subst Sum is c.sum);
    }

-- the cursor of such a loop
pub counted_at : (names : List (List ℕ)) (rows : List Row) (width : ℕ → ℕ) (row left child size : ℕ) → AreRows names rows → 1 ≤ left
    → IsCounted names rows width row left child size → IsCursor names rows (left - 1) child (row_at rows child)
counted_at names rows width row left child size sound some c =
    let is : left ≡ suc (left - 1) = omega arith in
    let Count : ℕ → Type 0 = λ n. edge_count (first_edges n (trees_from names rows child)) ≡ n in
    cursor names rows (left - 1) child sound (subst Count is c.count)

node_sizes-split : (size : Option ℕ → ℕ) (width : ℕ → ℕ) (i k : ℕ) (es : Edges)
    → node_sizes size width i (first_edges k es) ++ node_sizes size width (i + node_count (first_edges k es)) (later_edges k es) ≡
    node_sizes size width i es
node_sizes-split size width i zero es = ap (λ (n : ℕ). node_sizes size width n es) (omega arith)
node_sizes-split size width i (suc k) no_edge = refl
node_sizes-split size width i (suc k) (edge label symbol below rest) =
    let same : i + (1 + (node_count below + node_count (first_edges k rest))) ≡ i + (node_count below + 1) + node_count (first_edges k
    rest) = omega arith in
    let own : ℕ = size symbol + 1 + edges_size width (i + 1) below in
    let under : List ℕ = node_sizes size width (i + 1) below in
    ap (λ (n : ℕ). (own ∷ (under ++ node_sizes size width (i + (node_count below + 1)) (first_edges k rest))) ++ node_sizes size width
    n (later_edges k rest)) same
    ∙ ap (λ (xs : List ℕ). own ∷ xs) (append_assoc under (node_sizes size width (i + (node_count below + 1)) (first_edges k rest))
    (node_sizes size width (i + (node_count below + 1) + node_count (first_edges k rest)) (later_edges k rest)))
    ∙ ap (λ (xs : List ℕ). own ∷ (under ++ xs)) (node_sizes-split size width (i + (node_count below + 1)) k rest)

pub node_sizes-row : (size : Option ℕ → ℕ) (width : ℕ → ℕ) (i : ℕ) (names : List (List ℕ)) (row : Row) (rows : List Row)
    → IsRow names row (trees_of names rows)
    → node_sizes size width i (trees_of names (row ∷ rows))
    ≡ (size (symbol_at row) + 1 + edges_size width (i + 1) (first_edges row.children (trees_of names rows))) ∷ node_sizes size width (i
    + 1) (trees_of names rows)
node_sizes-row size width i names row rows r =
    let same : i + (node_count (first_edges row.children (trees_of names rows)) + 1) ≡ i + 1 + node_count (first_edges row.children
    (trees_of names rows)) = omega arith in
    ap (λ (n : ℕ). (size (symbol_at row) + 1 + edges_size width (i + 1) (first_edges row.children (trees_of names rows)))
    ∷ (node_sizes size width (i + 1) (first_edges row.children (trees_of names rows)) ++ node_sizes size width n (later_edges
    row.children (trees_of names rows)))) same
    ∙ ap (λ (xs : List ℕ). (size (symbol_at row) + 1 + edges_size width (i + 1) (first_edges row.children (trees_of names rows))) ∷ xs)
    (node_sizes-split size width (i + 1) row.children (trees_of names rows))

-- the sizes of the nodes from a row on
node_sizes-drop : (size : Option ℕ → ℕ) (width : ℕ → ℕ) (i c : ℕ) (names : List (List ℕ)) (rows : List Row) → SpellTrees names rows
    → drop c (node_sizes size width i (trees_of names rows)) ≡ node_sizes size width (i + c) (trees_of names (drop c rows))
node_sizes-drop size width i zero names rows sound = ap (λ (n : ℕ). node_sizes size width n (trees_of names rows)) (omega arith)
node_sizes-drop size width i (suc c) names [] sound = refl
node_sizes-drop size width i (suc c) names (row ∷ rows) sound =
    let same : i + 1 + c ≡ i + suc c = omega arith in
    ap (λ (xs : List ℕ). drop (suc c) xs) (node_sizes-row size width i names row rows sound.0)
    ∙ node_sizes-drop size width (i + 1) c names rows sound.1
    ∙ ap (λ (n : ℕ). node_sizes size width n (trees_of names (drop c rows))) same

pub node_size_at : (size : Option ℕ → ℕ) (width : ℕ → ℕ) (c : ℕ) (names : List (List ℕ)) (rows : List Row) → AreRows names rows
    → c < length rows
    → slice_index (node_sizes size width 0 (trees_of names rows)) c
    ≡ size (symbol_at (row_at rows c)) + 1 + edges_size width (c + 1) (children_at names rows c)
node_size_at size width c names rows sound within =
    let here = row_sound names rows c _ sound.trees within in
    let same : 0 + c ≡ c = omega arith in
    let front : get_or (drop c (node_sizes size width 0 (trees_of names rows))) 0 0 ≡ get_or (node_sizes size width 0 (trees_of names
    rows)) c 0
    = get_or-drop c (node_sizes size width 0 (trees_of names rows)) 0 0 ∙ ap (λ (n : ℕ). get_or (node_sizes size width 0 (trees_of
    names rows)) n 0) (omega arith) in
    sym front
    ∙ ap (λ (xs : List ℕ). get_or xs 0 0) (node_sizes-drop size width 0 c names rows sound.trees)
    ∙ ap (λ (n : ℕ). get_or (node_sizes size width n (trees_of names (drop c rows))) 0 0) same
    ∙ ap (λ (es : Edges). get_or (node_sizes size width c es) 0 0) (trees_cons names rows c _ within)
    ∙ ap (λ (xs : List ℕ). get_or xs 0 0) (node_sizes-row size width c names (row_at rows c) (drop (c + 1) rows) here)

pub length-node_sizes : (size : Option ℕ → ℕ) (width : ℕ → ℕ) (i : ℕ) (es : Edges) → length (node_sizes size width i es) ≡ node_count es
length-node_sizes size width i no_edge = refl
length-node_sizes size width i (edge label symbol below rest) =
    omega (
      arith,
      length-append (node_sizes size width (i + 1) below) (node_sizes size width (i + (node_count below + 1)) rest),
      length-node_sizes size width (i + 1) below,
      length-node_sizes size width (i + (node_count below + 1)) rest,
    )

-- what stands for a symbol, in the register
pub says_is : (items : List Symbol) (s : ℕ) (d : Symbol) → s < length items → says_of (map symbol_of items) s ≡ said_of (get_or items s
    d).says
says_is items s d within = ap (λ (p : List ℕ × Exported). p.1) (get_or-map symbol_of items s d ([], as_value 0 0) within)

-- the size of a terminal part by the size of what it says
pub terminal_is : (says : ℕ → Exported) (row : Row) (x : Exported) (part bytes : ℕ) → row.is_terminal ≡ true → says row.symbol ≡ x
    → part ≡ length (export_bytes x) → bytes ≡ length (uleb_of part) → bytes + part ≡ terminal_size says (symbol_at row)
terminal_is says row x part bytes marked is part_is bytes_is =
    let mark : symbol_at row ≡ Some row.symbol = rw marked refl in
    let size : terminal_size says (Some row.symbol) ≡ length (uleb_of (length (export_bytes x)) ++ export_bytes x)
    = ap (λ (y : Exported). terminal_size' y) is in
    omega (
      arith,
      ap (λ (m : Option ℕ). terminal_size says m) mark,
      size,
      length-append (uleb_of (length (export_bytes x))) (export_bytes x),
      ap (λ (n : ℕ). length (uleb_of n)) part_is,
    )
  where
    terminal_size' : Exported → ℕ
    terminal_size' y = length (uleb_of (length (export_bytes y)) ++ export_bytes y)
