-- The row after each subtree, by its number.
--
-- While the table is built, a row tells how many rows stand behind its subtree, since these are there already. The rows behind
-- a row spell the trees of its children and those beside it, one node each. So with n rows in all, those that stand behind the
-- subtree begin at n less their number, which is the row itself and the nodes of its children further on.
use Rattle.std.proofs.Common.{◌≡◌, ℕ, zero, suc, ◌+◌, ◌<◌, ◌≤◌, false, List, [], ◌∷◌, length, drop, get_or, refl, sym, ap, subst, ◌∙◌, arith}
use Rattle.std.specs.List.{All}
use Rattle.std.proofs.lemmas.List.{length-map, length-drop, get_or-map, drop-map}
use Rattle.macho_trie.specs.Trees.{Edges, edge, node_count}
use Rattle.macho_trie.specs.Tables.{first_edges, later_edges, label_of, symbol_at, trees_of, row_at, trees_from, IsRow, SpellTrees, AreRows}
use Rattle.macho_trie.specs.steps.Building.{IsClosedRow, AreClosedRows, numbered, numbered_rows}
use Rattle.macho_trie.specs.declared.table.Row.{Row}
use Rattle.macho_trie.proofs.Building.{node_count-split, node_count-rows}

-- the trees don't tell how far they go
pub trees-numbered : (names : List (List ℕ)) (count : ℕ) (rows : List Row) → trees_of names (numbered_rows count rows) ≡ trees_of names rows
trees-numbered names count [] = refl
trees-numbered names count (row ∷ rows) =
    ap (λ (es : Edges). edge (label_of names row) (symbol_at row) (first_edges row.children es) (later_edges row.children es))
    (trees-numbered names count rows)

spelled : (names : List (List ℕ)) (count : ℕ) (rows : List Row) → AreClosedRows names rows → SpellTrees names (numbered_rows count rows)
spelled names count [] c = tt
spelled names count (row ∷ rows) c =
    let R : Edges → Type 0 = λ es. IsRow names (numbered count row) es in (
      subst R (sym (trees-numbered names count rows)) (record {
        symbol = c.0.row.symbol;
        label = c.0.row.label;
        children = c.0.row.children;
      }),
      spelled names count rows c.1,
    )

-- a row among all
closed_at : (names : List (List ℕ)) (rows : List Row) (i : ℕ) (d : Row) → AreClosedRows names rows → i < length rows
    → IsClosedRow names (get_or rows i d) (trees_from names rows (i + 1))
closed_at names [] i d c within = absurd (omega arith)
closed_at names (row ∷ rows) zero d c within = c.0
closed_at names (row ∷ rows) (suc i) d c within =
    let next : suc i + 1 ≡ suc (i + 1) = omega arith in
    let P : ℕ → Type 0 = λ n. IsClosedRow names (get_or rows i d) (trees_of names (drop n (row ∷ rows))) in
    subst P (sym next) (closed_at names rows i d c.1 (omega arith))

-- the rows behind a subtree are those that the others don't take
behind : (names : List (List ℕ)) (rows : List Row) (i : ℕ) (d : Row) → AreClosedRows names rows → i < length rows
    → (get_or rows i d).after + (i + 1 + node_count (first_edges (get_or rows i d).children (trees_from names rows (i + 1)))) ≡ length rows
behind names rows i d c within =
    omega (
      arith,
      within,
      (closed_at names rows i d c within).after,
      node_count-split (get_or rows i d).children (trees_from names rows (i + 1)),
      node_count-rows names (drop (i + 1) rows),
      length-drop (i + 1) rows,
    )

pub ends_within : (names : List (List ℕ)) (rows : List Row) → AreClosedRows names rows → All (λ row. row.after ≤ length rows) rows
ends_within names rows c i d within = omega (arith, behind names rows i d c within)

pub numbered_sound : (names : List (List ℕ)) (rows : List Row) → AreClosedRows names rows → AreRows names (numbered_rows (length rows) rows)
numbered_sound names rows c = record { trees = spelled names (length rows) rows c; after = after }
  where
    none : Row
    none = record { symbol = 0; is_terminal = false; children = 0; start = 0; length = 0; after = 0 }

    after : (i : ℕ) → i < length (numbered_rows (length rows) rows)
        → (row_at (numbered_rows (length rows) rows) i).after
        ≡ i + 1 + node_count (first_edges (row_at (numbered_rows (length rows) rows) i).children
        (trees_from names (numbered_rows (length rows) rows) (i + 1)))
    after i inside =
        let within : i < length rows = omega (arith, inside, length-map rows (numbered (length rows))) in
        let is : row_at (numbered_rows (length rows) rows) i ≡ numbered (length rows) (get_or rows i none)
        = get_or-map (numbered (length rows)) rows i none none within in
        let rest : trees_from names (numbered_rows (length rows) rows) (i + 1) ≡ trees_from names rows (i + 1)
        = ap (λ (rs : List Row). trees_of names rs) (drop-map (numbered (length rows)) (i + 1) rows)
        ∙ trees-numbered names (length rows) (drop (i + 1) rows) in
        let nodes = ap (λ (r : Row). node_count (first_edges r.children (trees_from names (numbered_rows (length rows) rows) (i + 1)))) is
        ∙ ap (λ (es : Edges). node_count (first_edges (get_or rows i none).children es)) rest in
        omega (arith, ap (λ (r : Row). r.after) is, nodes, behind names rows i none c within)
