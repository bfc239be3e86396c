-- The table of a trie: its nodes in preorder, each with the number of its edges. So the children of a node are the first
-- trees that the rows behind it spell.
use Rattle.std.specs.Prelude.{◌≡◌, ◌↔◌, ℕ, zero, suc, ◌+◌, ◌<◌, ◌≤◌, if◌then◌else◌, false, drop, List, [], ◌∷◌, length, slice_range, slice_index_or, Option, Some, None}
use Rattle.macho_trie.specs.Trees.{Edges, no_edge, edge, LeadsTo, edge_count, node_count, AreRadix}
use Rattle.macho_trie.specs.declared.table.Row.{Row}

-- so many edges of a list, and those after them
abbrev pub first_edges : ℕ → Edges → Edges
first_edges zero es = no_edge
first_edges (suc n) no_edge = no_edge
first_edges (suc n) (edge label symbol below rest) = edge label symbol below (first_edges n rest)

abbrev pub later_edges : ℕ → Edges → Edges
later_edges zero es = es
later_edges (suc n) no_edge = no_edge
later_edges (suc n) (edge label symbol below rest) = later_edges n rest

-- the name of a symbol by its number
abbrev pub name_at : List (List ℕ) → ℕ → List ℕ
name_at names s = slice_index_or names s []

-- the label of a row's edge, in the name of its symbol
abbrev pub label_of : List (List ℕ) → Row → List ℕ
label_of names row = slice_range (name_at names row.symbol) row.start (row.start + row.length)

abbrev pub symbol_at : Row → Option ℕ
symbol_at row = if row.is_terminal then Some row.symbol else None

-- the trees that rows in preorder spell
abbrev pub trees_of : List (List ℕ) → List Row → Edges
trees_of names [] = no_edge
trees_of names (row ∷ rows) =
    edge (label_of names row) (symbol_at row) (first_edges row.children (trees_of names rows))
    (later_edges row.children (trees_of names rows))

-- A row before the trees of those behind it: its edge's label is in a name, and its children are there.
pub record IsRow (names : List (List ℕ)) (row : Row) (behind : Edges) : Type 0 where
  pub symbol : row.symbol < length names
  pub label : row.start + row.length ≤ length (name_at names row.symbol)
  pub children : edge_count (first_edges row.children behind) ≡ row.children

abbrev pub SpellTrees : List (List ℕ) → List Row → Type 0
SpellTrees names [] = Unit {0}
SpellTrees names (row ∷ rows) = IsRow names row (trees_of names rows) × SpellTrees names rows

-- the row at a place of a table
abbrev pub row_at : List Row → ℕ → Row
row_at rows i = slice_index_or rows i (record { symbol = 0; is_terminal = false; children = 0; start = 0; length = 0; after = 0 })

-- the trees that the rows from a place on spell, and those of a row's children
abbrev pub trees_from : List (List ℕ) → List Row → ℕ → Edges
trees_from names rows i = trees_of names (drop i rows)

abbrev pub children_at : List (List ℕ) → List Row → ℕ → Edges
children_at names rows i = first_edges (row_at rows i).children (trees_from names rows (i + 1))

-- Rows of a table: they spell trees, and each tells the row after its subtree.
pub record AreRows (names : List (List ℕ)) (rows : List Row) : Type 0 where
  pub trees : SpellTrees names rows
  pub after : (i : ℕ) → i < length rows → (row_at rows i).after ≡ i + 1 + node_count (children_at names rows i)

-- A table of the radix tree of some names: its first row is the root, and each name leads to its symbol and no other.
pub record IsTable (names : List (List ℕ)) (rows : List Row) : Type 0 where
  pub sound : AreRows names rows
  pub symbol : Option ℕ
  pub below : Edges
  pub root : trees_of names rows ≡ edge [] symbol below no_edge
  pub radix : AreRadix below
  pub leads : (name : List ℕ) (s : ℕ) → LeadsTo (trees_of names rows) name s ↔ ((s < length names) × (name_at names s ≡ name))
