-- The edges of a row, one after the other: from a child's row to the next one.
--
-- The trees that rows from a place on spell begin with the tree of the row there. Its children are the first trees of the
-- rows behind it, so the other trees are spelled by the rows after those of its subtree, and their number is known by the
-- row. So the rows of a node's children are found one after the other.
use Rattle.std.proofs.Common.{◌≡◌, ℕ, zero, suc, ◌+◌, ◌<◌, ◌≤◌, List, [], ◌∷◌, length, drop, get_or, refl, sym, ap, subst, ◌∙◌, arith, drop-cons, inl, inr}
use Rattle.std.proofs.lemmas.Bool.{cases_lt}
use Rattle.std.proofs.lemmas.List.{drop-drop, drop_all, length-drop}
use Rattle.macho_trie.specs.Trees.{Edges, no_edge, edge, edge_count, node_count}
use Rattle.macho_trie.specs.Tables.{first_edges, later_edges, label_of, symbol_at, trees_of, row_at, IsRow, SpellTrees, AreRows}
use Rattle.macho_trie.specs.declared.table.Row.{Row}
use Rattle.macho_trie.proofs.Building.{node_count-split, node_count-rows}

-- the trees of the rows from a place on
abbrev pub trees_at : List (List ℕ) → List Row → ℕ → Edges
trees_at names rows c = trees_of names (drop c rows)

later-none : (k : ℕ) → later_edges k no_edge ≡ no_edge
later-none zero = refl
later-none (suc k) = refl

-- the trees after some are those of the rows after theirs
later_rows : (fuel : ℕ) (names : List (List ℕ)) (rows : List Row) (k : ℕ) → length rows ≤ fuel
    → later_edges k (trees_of names rows) ≡ trees_of names (drop (node_count (first_edges k (trees_of names rows))) rows)
later_rows fuel names [] k short = later-none k ∙ sym (ap (λ (rs : List Row). trees_of names rs) (drop_all (node_count (first_edges k
    no_edge)) [] (omega arith)))
later_rows fuel names (row ∷ rows) zero short = refl
later_rows zero names (row ∷ rows) (suc k) short = absurd (omega arith)
later_rows (suc fuel) names (row ∷ rows) (suc k) short =
    let children : Edges = first_edges row.children (trees_of names rows) in
    let beside : Edges = later_edges row.children (trees_of names rows) in
    let first = later_rows fuel names rows row.children (omega arith) in
    let rest = later_rows fuel names (drop (node_count children) rows) k (omega (arith, length-drop (node_count children) rows)) in
    let all : node_count (first_edges (suc k) (trees_of names (row ∷ rows))) ≡ suc (node_count children + node_count (first_edges k
    beside)) = omega arith in
    ap (λ (es : Edges). later_edges k es) first ∙ rest
    ∙ ap (λ (es : Edges). trees_of names (drop (node_count (first_edges k es)) (drop (node_count children) rows))) (sym first)
    ∙ ap (λ (rs : List Row). trees_of names rs) (drop-drop (node_count (first_edges k beside)) (node_count children) rows)
    ∙ ap (λ (n : ℕ). trees_of names (drop n (row ∷ rows))) (sym all)

-- a row among all
pub row_sound : (names : List (List ℕ)) (rows : List Row) (c : ℕ) (d : Row) → SpellTrees names rows → c < length rows
    → IsRow names (get_or rows c d) (trees_at names rows (c + 1))
row_sound names [] c d sound within = absurd (omega arith)
row_sound names (row ∷ rows) zero d sound within = sound.0
row_sound names (row ∷ rows) (suc c) d sound within =
    let next : suc c + 1 ≡ suc (c + 1) = omega arith in
    let P : ℕ → Type 0 = λ n. IsRow names (get_or rows c d) (trees_of names (drop n (row ∷ rows))) in
    subst P (sym next) (row_sound names rows c d sound.1 (omega arith))

pub trees_cons : (names : List (List ℕ)) (rows : List Row) (c : ℕ) (d : Row) → c < length rows
    → trees_at names rows c ≡ trees_of names (get_or rows c d ∷ drop (c + 1) rows)
trees_cons names rows c d within =
    let next : suc c ≡ c + 1 = omega arith in
    ap (λ (rs : List Row). trees_of names rs) (drop-cons rows c d within)
    ∙ ap (λ (n : ℕ). trees_of names (get_or rows c d ∷ drop n rows)) next

-- the trees beside a row's subtree
pub trees_beside : (names : List (List ℕ)) (rows : List Row) (c : ℕ) (row : Row)
    → row.after ≡ c + 1 + node_count (first_edges row.children (trees_at names rows (c + 1)))
    → later_edges row.children (trees_at names rows (c + 1)) ≡ trees_at names rows (row.after)
trees_beside names rows c row after =
    later_rows (length (drop (c + 1) rows)) names (drop (c + 1) rows) row.children (omega arith)
    ∙ ap (λ (rs : List Row). trees_of names rs) (drop-drop (node_count (first_edges row.children (trees_at names rows (c + 1)))) (c +
    1) rows)
    ∙ ap (λ (n : ℕ). trees_at names rows n) (sym after)

-- An edge is left: the row at hand is there, its tree is the first, and the others are further on.
pub record IsCursor (names : List (List ℕ)) (rows : List Row) (k c : ℕ) (row : Row) : Type 0 where
  pub within : c < length rows
  pub sound : IsRow names row (trees_at names rows (c + 1))
  pub after : row.after ≡ c + 1 + node_count (first_edges row.children (trees_at names rows (c + 1)))
  pub is : first_edges (suc k) (trees_at names rows c)
      ≡ edge (label_of names row) (symbol_at row) (first_edges row.children (trees_at names rows (c + 1))) (first_edges k (trees_at
      names rows (row.after)))
  pub count : edge_count (first_edges k (trees_at names rows (row.after))) ≡ k
  pub next : row.after ≤ length rows

pub cursor : (names : List (List ℕ)) (rows : List Row) (k c : ℕ) → AreRows names rows
    → edge_count (first_edges (suc k) (trees_at names rows c)) ≡ suc k
    → IsCursor names rows k c (row_at rows c)
cursor names rows k c sound count =
    elim (cases_lt c (length rows)) [
      | inr past ↦
          let none : first_edges (suc k) (trees_at names rows c) ≡ no_edge
          = ap (λ (rs : List Row). first_edges (suc k) (trees_of names rs)) (drop_all c rows past) in
          absurd (omega (arith, ap edge_count none))
      | inl within ↦
          let row : Row = row_at rows c in
          let here : IsRow names row (trees_at names rows (c + 1)) = row_sound names rows c _ sound.trees within in
          let after : row.after ≡ c + 1 + node_count (first_edges row.children (trees_at names rows (c + 1))) = sound.after c within in
          let beside : later_edges row.children (trees_at names rows (c + 1)) ≡ trees_at names rows (row.after)
          = trees_beside names rows c row after in
          let is : first_edges (suc k) (trees_at names rows c)
          ≡ edge (label_of names row) (symbol_at row) (first_edges row.children (trees_at names rows (c + 1)))
          (first_edges k (trees_at names rows (row.after)))
          = ap (λ (es : Edges). first_edges (suc k) es) (trees_cons names rows c _ within)
          ∙ ap (λ (es : Edges). edge (label_of names row) (symbol_at row) (first_edges row.children (trees_at names rows (c + 1)))
          (first_edges k es)) beside in
          record {
            within = within;
            sound = here;
            after = after;
            is = is;
            count = omega (arith, ap edge_count is, count);
            next = omega (
              arith,
              after,
              node_count-split row.children (trees_at names rows (c + 1)),
              node_count-rows names (drop (c + 1) rows),
              length-drop (c + 1) rows,
            );
          }
    ]
