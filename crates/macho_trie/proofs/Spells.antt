-- Bytes of nodes, from the table.
--
-- As with sizes: the bytes of the nodes in preorder are those of the rows in order, and the edges of a row are those of its
-- children's rows, one after the other. What is written so far and the bytes of what is left are the bytes of all. A node is put
-- where the one before it ends, so that all of them are one text at the place of the first.
use Rattle.std.proofs.Common.{◌≡◌, ℕ, zero, suc, ◌+◌, ◌-◌, ◌<◌, ◌≤◌, List, [], ◌∷◌, ◌++◌, length, drop, true, Option, Some, refl, sym, ap, subst, append_assoc, ◌∙◌, arith}
use Rattle.std.specs.Option.{option_map}
use Rattle.std.proofs.lemmas.List.{append-nil, length-append}
use Rattle.macho_bytes.specs.Texts.{put}
use Rattle.macho_bytes.proofs.Puts.{put-put, put_nothing, length-put}
use Rattle.macho_bytes.specs.Uleb.{uleb_of}
use Rattle.macho_trie.specs.Exports.{Exported}
use Rattle.macho_trie.specs.Trees.{Edges, no_edge, edge, edge_count, node_count}
use Rattle.macho_trie.specs.Tables.{first_edges, later_edges, label_of, symbol_at, trees_of, row_at, trees_from, children_at, AreRows}
use Rattle.macho_trie.specs.Encoding.{terminal_bytes, export_bytes, edges_bytes, node_bytes, tree_bytes}
use Rattle.macho_trie.specs.declared.table.Row.{Row}
use Rattle.macho_trie.proofs.Cursor.{cursor, row_sound, trees_cons, IsCursor}

-- one edge more is written
edge_spelled : (names : List (List ℕ)) (rows : List Row) (place : ℕ → ℕ) (k c : ℕ) (row : Row) → IsCursor names rows k c row
    → edges_bytes place c (first_edges (suc k) (trees_from names rows c))
    ≡ (label_of names row ++ (0 ∷ uleb_of (place c))) ++ edges_bytes place row.after (first_edges k (trees_from names rows row.after))
edge_spelled names rows place k c row at =
    let next : c + (node_count (first_edges row.children (trees_from names rows (c + 1))) + 1) ≡ row.after = omega (arith, at.after) in
    let rest : Edges = first_edges k (trees_from names rows row.after) in
    ap (λ (es : Edges). edges_bytes place c es) at.is
    ∙ ap (λ (n : ℕ). label_of names row ++ (0 ∷ (uleb_of (place c) ++ edges_bytes place n rest))) next
    ∙ sym (append_assoc (label_of names row) (0 ∷ uleb_of (place c)) (edges_bytes place row.after rest))

-- The edges of a row that are left, behind what is written.
pub record IsSpelling (names : List (List ℕ)) (rows : List Row) (place : ℕ → ℕ) (row left child : ℕ) (before written : List ℕ) : Type 0
  where
    pub within : child ≤ length rows
    pub count : edge_count (first_edges left (trees_from names rows child)) ≡ left
    pub text : written ++ edges_bytes place child (first_edges left (trees_from names rows child)) ≡ before ++ edges_bytes place (row +
        1) (children_at names rows row)

pub spelling_first : (names : List (List ℕ)) (rows : List Row) (place : ℕ → ℕ) (row left : ℕ) (before : List ℕ) → AreRows names rows
    → row < length rows
    → left ≡ (row_at rows row).children → IsSpelling names rows place row left (row + 1) before before
spelling_first names rows place row left before sound here all =
    let at = row_sound names rows row _ sound.trees here in
    let S : ℕ → Type 0 = λ n. IsSpelling names rows place row n (row + 1) before before in
    subst S (sym all) (record { within = omega arith; count = at.children; text = refl })

pub spelling_more : (names : List (List ℕ)) (rows : List Row) (place : ℕ → ℕ) (row left k child : ℕ) (before written more : List ℕ)
    → AreRows names rows
    → left ≡ suc k → IsSpelling names rows place row left child before written
    → more ≡ written ++ (label_of names (row_at rows child) ++ (0 ∷ uleb_of (place child)))
    → IsSpelling names rows place row k (row_at rows child).after before more
spelling_more names rows place row left k child before written more sound is s more_is =
    let Count : ℕ → Type 0 = λ n. edge_count (first_edges n (trees_from names rows child)) ≡ n in
    let Text : ℕ → Type 0 = λ n. written ++ edges_bytes place child (first_edges n (trees_from names rows child))
    ≡ before ++ edges_bytes place (row + 1) (children_at names rows row) in
    let at = cursor names rows k child sound (subst Count is s.count) in
    let rest : List ℕ = edges_bytes place (row_at rows child).after (first_edges k (trees_from names rows (row_at rows child).after)) in
    let one : List ℕ = label_of names (row_at rows child) ++ (0 ∷ uleb_of (place child)) in
    record {
      within = at.next;
      count = at.count;
      text = ap (λ (xs : List ℕ). xs ++ rest) more_is ∙ append_assoc written one rest
          ∙ ap (λ (xs : List ℕ). written ++ xs) (sym (edge_spelled names rows place k child (row_at rows child) at)) ∙ subst Text is s.text;
    }

pub spelling_at : (names : List (List ℕ)) (rows : List Row) (place : ℕ → ℕ) (row left child : ℕ) (before written : List ℕ)
    → AreRows names rows → 1 ≤ left
    → IsSpelling names rows place row left child before written → IsCursor names rows (left - 1) child (row_at rows child)
spelling_at names rows place row left child before written sound some s =
    let is : left ≡ suc (left - 1) = omega arith in
    let Count : ℕ → Type 0 = λ n. edge_count (first_edges n (trees_from names rows child)) ≡ n in
    cursor names rows (left - 1) child sound (subst Count is s.count)

pub spelling_last : (names : List (List ℕ)) (rows : List Row) (place : ℕ → ℕ) (row left child : ℕ) (before written : List ℕ) → left ≡ 0
    → IsSpelling names rows place row left child before written → written ≡ before ++ edges_bytes place (row + 1) (children_at names
    rows row)
spelling_last names rows place row left child before written none s =
    sym (append-nil written)
    ∙ ap (λ (n : ℕ). written ++ edges_bytes place child (first_edges n (trees_from names rows child))) (sym none) ∙ s.text

-- the bytes of some trees and of the others
tree_bytes-split : (says : ℕ → Exported) (place : ℕ → ℕ) (i k : ℕ) (es : Edges)
    → tree_bytes says place i (first_edges k es) ++ tree_bytes says place (i + node_count (first_edges k es)) (later_edges k es) ≡
    tree_bytes says place i es
tree_bytes-split says place i zero es = ap (λ (n : ℕ). tree_bytes says place n es) (omega arith)
tree_bytes-split says place i (suc k) no_edge = refl
tree_bytes-split says place i (suc k) (edge label symbol below rest) =
    let same : i + (1 + (node_count below + node_count (first_edges k rest))) ≡ i + (node_count below + 1) + node_count (first_edges k
    rest) = omega arith in
    let own : List ℕ = node_bytes says place i symbol below in
    let under : List ℕ = tree_bytes says place (i + 1) below in
    let first : List ℕ = tree_bytes says place (i + (node_count below + 1)) (first_edges k rest) in
    ap (λ (n : ℕ). (own ++ (under ++ first)) ++ tree_bytes says place n (later_edges k rest)) same
    ∙ append_assoc own (under ++ first) (tree_bytes says place (i + (node_count below + 1) + node_count (first_edges k rest))
    (later_edges k rest))
    ∙ ap (λ (xs : List ℕ). own ++ xs) (append_assoc under first (tree_bytes says place (i + (node_count below + 1) + node_count
    (first_edges k rest)) (later_edges k rest)))
    ∙ ap (λ (xs : List ℕ). own ++ (under ++ xs)) (tree_bytes-split says place (i + (node_count below + 1)) k rest)

pub tree_bytes-row : (says : ℕ → Exported) (place : ℕ → ℕ) (i : ℕ) (names : List (List ℕ)) (row : Row) (rows : List Row)
    → tree_bytes says place i (trees_of names (row ∷ rows))
    ≡ node_bytes says place i (symbol_at row) (first_edges row.children (trees_of names rows)) ++ tree_bytes says place (i + 1)
    (trees_of names rows)
tree_bytes-row says place i names row rows =
    let children : Edges = first_edges row.children (trees_of names rows) in
    let same : i + (node_count children + 1) ≡ i + 1 + node_count children = omega arith in
    ap (λ (n : ℕ). node_bytes says place i (symbol_at row) children ++ (tree_bytes says place (i + 1) children
    ++ tree_bytes says place n (later_edges row.children (trees_of names rows)))) same
    ∙ ap (λ (xs : List ℕ). node_bytes says place i (symbol_at row) children ++ xs) (tree_bytes-split says place (i + 1) row.children
    (trees_of names rows))

-- a node's bytes, from its parts
pub node_written : (says : ℕ → Exported) (place : ℕ → ℕ) (i : ℕ) (names : List (List ℕ)) (rows : List Row) (before terminal counted
    more : List ℕ)
    → AreRows names rows → i < length rows
    → terminal ≡ before ++ terminal_bytes (option_map says (symbol_at (row_at rows i))) → counted ≡ terminal ++ (row_at rows
    i).children ∷ []
    → more ≡ counted ++ edges_bytes place (i + 1) (children_at names rows i)
    → more ≡ before ++ node_bytes says place i (symbol_at (row_at rows i)) (children_at names rows i)
node_written says place i names rows before terminal counted more sound within terminal_is counted_is more_is =
    let at = row_sound names rows i _ sound.trees within in
    let part : List ℕ = terminal_bytes (option_map says (symbol_at (row_at rows i))) in
    let edges : List ℕ = edges_bytes place (i + 1) (children_at names rows i) in
    more_is ∙ ap (λ (xs : List ℕ). xs ++ edges) (counted_is ∙ ap (λ (xs : List ℕ). xs ++ (row_at rows i).children ∷ []) terminal_is)
    ∙ append_assoc (before ++ part) ((row_at rows i).children ∷ []) edges
    ∙ append_assoc before part ((row_at rows i).children ∷ edges)
    ∙ ap (λ (n : ℕ). before ++ (part ++ (n ∷ edges))) (sym at.children)

-- the bytes from a row on are those of its node and those behind it
node_first : (says : ℕ → Exported) (place : ℕ → ℕ) (i : ℕ) (names : List (List ℕ)) (rows : List Row) → i < length rows
    → tree_bytes says place i (trees_from names rows i)
    ≡ node_bytes says place i (symbol_at (row_at rows i)) (children_at names rows i) ++ tree_bytes says place (i + 1) (trees_from names
    rows (i + 1))
node_first says place i names rows within =
    ap (λ (es : Edges). tree_bytes says place i es) (trees_cons names rows i _ within)
    ∙ tree_bytes-row says place i names (row_at rows i) (drop (i + 1) rows)

-- The nodes before a row are put at a place, one behind the other, and the bytes of the others are left.
pub record IsSpelled (whole : List ℕ) (at : ℕ) (left before now : List ℕ) (end : ℕ) : Type 0 where
  pub written : List ℕ
  pub is : now ≡ put at written before
  pub ends : end ≡ at + length written
  pub text : written ++ left ≡ whole

pub spelled_first : (whole : List ℕ) (at : ℕ) (before : List ℕ) → at ≤ length before → IsSpelled whole at whole before before at
spelled_first whole at before within = record {
  written = [];
  is = sym (put_nothing at before within);
  ends = omega arith;
  text = refl;
}

-- there is room for what is left, and the bytes are as many as before
pub spelled_fits : (whole : List ℕ) (at : ℕ) (left before now : List ℕ) (end : ℕ) → IsSpelled whole at left before now end
    → at + length whole ≤ length before → (end + length left ≤ length now) × (length now ≡ length before)
spelled_fits whole at left before now end s room =
    let all = ap length (sym s.text) ∙ length-append s.written left in
    let long = ap length s.is ∙ length-put at s.written before (omega (arith, all)) in (omega (arith, all, long, s.ends), long)

-- there is room for the next node
pub node_fits : (says : ℕ → Exported) (place : ℕ → ℕ) (i : ℕ) (names : List (List ℕ)) (rows : List Row) (whole : List ℕ) (at : ℕ)
    (before now node : List ℕ) (end : ℕ)
    → i < length rows → at + length whole ≤ length before
    → IsSpelled whole at (tree_bytes says place i (trees_from names rows i)) before now end
    → node ≡ node_bytes says place i (symbol_at (row_at rows i)) (children_at names rows i)
    → end + length node ≤ length now
node_fits says place i names rows whole at before now node end within room s node_is =
    let left : List ℕ = tree_bytes says place (i + 1) (trees_from names rows (i + 1)) in
    let first : tree_bytes says place i (trees_from names rows i) ≡ node ++ left
    = node_first says place i names rows within ∙ ap (λ (xs : List ℕ). xs ++ left) (sym node_is) in
    omega (arith, (spelled_fits whole at _ before now end s room).0, ap length first, length-append node left)

-- one node more is put
pub spelled_more : (says : ℕ → Exported) (place : ℕ → ℕ) (i : ℕ) (names : List (List ℕ)) (rows : List Row) (whole : List ℕ) (at : ℕ)
    (before now node next : List ℕ) (end to : ℕ)
    → i < length rows → at + length whole ≤ length before
    → IsSpelled whole at (tree_bytes says place i (trees_from names rows i)) before now end
    → node ≡ node_bytes says place i (symbol_at (row_at rows i)) (children_at names rows i)
    → next ≡ put end node now → to ≡ end + length node
    → IsSpelled whole at (tree_bytes says place (i + 1) (trees_from names rows (i + 1))) before next to
spelled_more says place i names rows whole at before now node next end to within room s node_is next_is to_is =
    let left : List ℕ = tree_bytes says place (i + 1) (trees_from names rows (i + 1)) in
    let first : tree_bytes says place i (trees_from names rows i) ≡ node ++ left
    = node_first says place i names rows within ∙ ap (λ (xs : List ℕ). xs ++ left) (sym node_is) in
    let fits = spelled_fits whole at _ before now end s room in
    let long = ap length first ∙ length-append node left in
    record {
      written = s.written ++ node;
      is = next_is ∙ ap (λ (xs : List ℕ). put end node xs) s.is
          ∙ put-put at end s.written node before s.ends (omega (arith, fits.0, fits.1, long));
      ends = omega (arith, to_is, s.ends, length-append s.written node);
      text = append_assoc s.written node left ∙ ap (λ (xs : List ℕ). s.written ++ xs) (sym first) ∙ s.text;
    }

-- behind the last node all is put
pub spelled_last : (whole : List ℕ) (at : ℕ) (left before now : List ℕ) (end : ℕ) → IsSpelled whole at left before now end → left ≡ []
    → now ≡ put at whole before
spelled_last whole at left before now end s none =
    s.is ∙ ap (λ (xs : List ℕ). put at xs before) (sym (append-nil s.written) ∙ ap (λ (xs : List ℕ). s.written ++ xs) (sym none) ∙ s.text)

-- a terminal part by what it says
pub terminal_spelled : (says : ℕ → Exported) (row : Row) (x : Exported) (part : ℕ) (before sized after : List ℕ)
    → row.is_terminal ≡ true → says row.symbol ≡ x
    → part ≡ length (export_bytes x) → sized ≡ before ++ uleb_of part → after ≡ sized ++ export_bytes x
    → after ≡ before ++ terminal_bytes (option_map says (symbol_at row))
terminal_spelled says row x part before sized after marked is part_is sized_is after_is =
    let mark : symbol_at row ≡ Some row.symbol = rw marked refl in
    after_is ∙ ap (λ (xs : List ℕ). xs ++ export_bytes x) (sized_is ∙ ap (λ (n : ℕ). before ++ uleb_of n) part_is)
    ∙ append_assoc before (uleb_of (length (export_bytes x))) (export_bytes x)
    ∙ ap (λ (y : Exported). before ++ (uleb_of (length (export_bytes y)) ++ export_bytes y)) (sym is)
    ∙ ap (λ (m : Option ℕ). before ++ terminal_bytes (option_map says m)) (sym mark)
