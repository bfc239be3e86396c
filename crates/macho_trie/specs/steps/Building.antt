-- How a table is built from its last row to its first: the nodes on the way to the least name so far are open, the deepest
-- first, and have their children among the trees of the rows that are done.
use Rattle.std.specs.Prelude.{◌≡◌, ◌⊎◌, ℕ, ◌+◌, ◌-◌, ◌<◌, ◌≤◌, nat_lt, if◌then◌else◌, Bool, true, false, List, [], ◌∷◌, ◌++◌, length, map, take, slice_index, Option, Some, None, reverse}
use Rattle.macho_trie.specs.Trees.{Edges, no_edge, edge, edge_count, node_count, BeginsAbove, AreRadix}
use Rattle.macho_trie.specs.Tables.{first_edges, later_edges, name_at, trees_of, IsRow, AreRows}
use Rattle.macho_trie.specs.declared.table.Row.{Row}
use Rattle.macho_trie.specs.declared.build.Open.{Open}
use Rattle.macho_trie.specs.declared.build.Builder.{Builder}
use Rattle.macho_trie.specs.Symbols.{names_of}

-- a name with its symbol where one ends
abbrev pub ending : List ℕ → Option ℕ → List (List ℕ × ℕ)
ending name None = []
ending name (Some s) = (name, s) ∷ []

-- the names behind a way, in preorder, each with its symbol
abbrev pub names_along : List ℕ → Edges → List (List ℕ × ℕ)
names_along way no_edge = []
names_along way (edge label symbol below rest) =
    ending (way ++ label) symbol ++ (names_along (way ++ label) below ++ names_along way rest)

-- the names at closed children of open nodes, the deepest node first
abbrev pub names_open : List ℕ → Edges → List Open → List (List ℕ × ℕ)
names_open name trees [] = []
names_open name trees (node ∷ nodes) =
    names_along (take node.depth name) (first_edges node.children trees) ++ names_open name (later_edges node.children trees) nodes

-- A row while the table is built. Its end isn't known yet, so the row after its subtree is told by the number of rows from
-- there to the end.
pub record IsClosedRow (names : List (List ℕ)) (r : Row) (behind : Edges) : Type 0 where
  pub row : IsRow names r behind
  pub after : r.after ≡ node_count (later_edges r.children behind)

abbrev pub AreClosedRows : List (List ℕ) → List Row → Type 0
AreClosedRows names [] = Unit {0}
AreClosedRows names (row ∷ rows) = IsClosedRow names row (trees_of names rows) × AreClosedRows names rows

-- the rows of a table of so many, each with the row after its subtree by its number
abbrev pub numbered : ℕ → Row → Row
numbered count row = record row { after = count - row.after }

abbrev pub numbered_rows : ℕ → List Row → List Row
numbered_rows count rows = map (numbered count) rows

-- The closed children of an open node are the first trees.
pub record IsGroup (node : Open) (trees : Edges) : Type 0 where
  pub children : edge_count (first_edges node.children trees) ≡ node.children
  pub opened : node_count (later_edges node.children trees) ≡ node.opened
  pub radix : AreRadix (first_edges node.children trees)

-- the open nodes above one of this depth: a child at a lesser byte of the name is to come at each
abbrev pub AreAbove : List ℕ → ℕ → Edges → List Open → Type 0
AreAbove name depth trees [] = (depth ≡ 0) × (trees ≡ no_edge)
AreAbove name depth trees (node ∷ nodes) =
    (node.depth < depth) × IsGroup node trees × BeginsAbove (slice_index name node.depth) (first_edges node.children trees)
    × ((1 ≤ node.children) ⊎ (node.depth ≡ 0)) × AreAbove name node.depth (later_edges node.children trees) nodes

-- there is an edge, and the first one's label begins with this byte
abbrev pub BeginsWith : ℕ → Edges → Type 0
BeginsWith byte no_edge = ⊥
BeginsWith byte (edge label symbol below rest) = slice_index label 0 ≡ byte

-- The names from one on are in the tree, and its node is the deepest open one.
pub record IsOpenAt (names : List (List ℕ)) (symbol : ℕ) (rows : List Row) (node : Open) (nodes : List Open) : Type 0 where
  pub here : symbol < length names
  pub sound : AreClosedRows names rows
  pub depth : node.depth ≡ length (name_at names symbol)
  pub group : IsGroup node (trees_of names rows)
  pub above : AreAbove (name_at names symbol) node.depth (later_edges node.children (trees_of names rows)) nodes

-- The deepest open node may be closed: the name ends there, or no name ends and two edges begin.
pub record IsClosing (names : List (List ℕ)) (symbol : ℕ) (terminal : Bool) (least : ℕ) (rows : List Row) (node : Open) (nodes : List
    Open) : Type 0 where
  pub here : symbol < length names
  pub sound : AreClosedRows names rows
  pub deep : least < node.depth
  pub within : node.depth ≤ length (name_at names symbol)
  pub group : IsGroup node (trees_of names rows)
  pub ends : ((terminal ≡ true) × (node.depth ≡ length (name_at names symbol))) ⊎ ((terminal ≡ false) × (2 ≤ node.children))
  pub above : AreAbove (name_at names symbol) node.depth (later_edges node.children (trees_of names rows)) nodes

-- The deepest open node lies on the way to the name, its child there is closed, and so are all deeper nodes.
pub record IsClosed (names : List (List ℕ)) (symbol least : ℕ) (rows : List Row) (node : Open) (nodes : List Open) : Type 0 where
  pub here : symbol < length names
  pub sound : AreClosedRows names rows
  pub deep : least ≤ node.depth
  pub within : node.depth < length (name_at names symbol)
  pub group : IsGroup node (trees_of names rows)
  pub begins : BeginsWith (slice_index (name_at names symbol) node.depth) (first_edges node.children (trees_of names rows))
  pub ends : (node.depth ≡ least) ⊎ (2 ≤ node.children)
  pub above : AreAbove (name_at names symbol) node.depth (later_edges node.children (trees_of names rows)) nodes

-- the row of a node that is closed, with the label of its edge from a depth on
abbrev pub closed_row : ℕ → Bool → ℕ → Open → Row
closed_row symbol terminal start node = record {
  symbol = symbol;
  is_terminal = terminal;
  children = node.children;
  start = start;
  length = node.depth - start;
  after = node.opened;
}

-- the depth at which a closed node hangs: that of the next open node, or the least one where that is deeper
abbrev pub hanging_depth : ℕ → List Open → ℕ
hanging_depth least [] = least
hanging_depth least (node ∷ nodes) = if nat_lt node.depth least then least else node.depth

-- the open nodes with a closed child under the next one, or under a new one at the least depth
abbrev pub adopted : ℕ → ℕ → List Open → List Open
adopted least opened [] = []
adopted least opened (node ∷ nodes) =
    if nat_lt node.depth least then record { depth = least; children = 1; opened = opened } ∷ node ∷ nodes
    else record { depth = node.depth; children = node.children + 1; opened = node.opened } ∷ nodes

-- The deepest open node lies on the way to a name that is less than those in the tree.
pub record IsReady (names : List (List ℕ)) (name : List ℕ) (rows : List Row) (node : Open) (nodes : List Open) : Type 0 where
  pub sound : AreClosedRows names rows
  pub within : node.depth ≤ length name
  pub group : IsGroup node (trees_of names rows)
  pub begins : node.depth < length name → BeginsAbove (slice_index name node.depth) (first_edges node.children (trees_of names rows))
  pub some : (1 ≤ node.children) ⊎ (node.depth ≡ 0)
  pub above : AreAbove name node.depth (later_edges node.children (trees_of names rows)) nodes

-- the open nodes with one of this depth, which is new, behind so many rows, where none is
abbrev pub arrived : ℕ → ℕ → List Open → List Open
arrived depth count [] = []
arrived depth count (node ∷ nodes) =
    if nat_lt node.depth depth then record { depth = depth; children = 0; opened = count } ∷ node ∷ nodes else node ∷ nodes

-- the same of a list of open nodes, which isn't empty
abbrev pub AreOpenAt : List (List ℕ) → ℕ → List Row → List Open → Type 0
AreOpenAt names symbol rows [] = ⊥
AreOpenAt names symbol rows (node ∷ nodes) = IsOpenAt names symbol rows node nodes

abbrev pub AreClosing : List (List ℕ) → ℕ → Bool → ℕ → List Row → List Open → Type 0
AreClosing names symbol terminal least rows [] = ⊥
AreClosing names symbol terminal least rows (node ∷ nodes) = IsClosing names symbol terminal least rows node nodes

abbrev pub AreClosed : List (List ℕ) → ℕ → ℕ → List Row → List Open → Type 0
AreClosed names symbol least rows [] = ⊥
AreClosed names symbol least rows (node ∷ nodes) = IsClosed names symbol least rows node nodes

abbrev pub AreReady : List (List ℕ) → List ℕ → List Row → List Open → Type 0
AreReady names name rows [] = ⊥
AreReady names name rows (node ∷ nodes) = IsReady names name rows node nodes

-- A node is closed: what is known then, and the names in the tree, with the one that ends at the node.
pub record ClosedAs (names : List (List ℕ)) (symbol : ℕ) (terminal : Bool) (least : ℕ) (before : List Row) (was : List Open) (rows :
    List Row) (now : List Open) : Type 0 where
  pub closed : AreClosed names symbol least rows now
  pub built : names_open (name_at names symbol) (trees_of names rows) now
      ≡ (if terminal then (name_at names symbol, symbol) ∷ [] else []) ++ names_open (name_at names symbol) (trees_of names before) was

-- The node of a name is the deepest open one, and the names in the tree are the same.
pub record ArrivedAs (names : List (List ℕ)) (symbol : ℕ) (before : List Row) (was : List Open) (rows : List Row) (now : List Open) :
    Type 0 where
  pub opened : AreOpenAt names symbol rows now
  pub built : names_open (name_at names symbol) (trees_of names rows) now ≡ names_open (name_at names symbol) (trees_of names before) was

-- The node of the name before another one is the deepest open one, and the tree has that other one too.
pub record StepsAs (names : List (List ℕ)) (above symbol : ℕ) (before : List Row) (was : List Open) (rows : List Row) (now : List Open)
    : Type 0 where
  pub opened : AreOpenAt names symbol rows now
  pub built : names_open (name_at names symbol) (trees_of names rows) now
      ≡ (name_at names above, above) ∷ names_open (name_at names above) (trees_of names before) was

-- The root is the one open node, and its children are all trees.
pub record IsRoot (names : List (List ℕ)) (symbol : ℕ) (terminal : Bool) (rows : List Row) (node : Open) (nodes : List Open) : Type 0 where
  pub here : symbol < length names
  pub sound : AreClosedRows names rows
  pub depth : node.depth ≡ 0
  pub group : IsGroup node (trees_of names rows)
  pub alone : nodes ≡ []
  pub all : later_edges node.children (trees_of names rows) ≡ no_edge
  pub ends : terminal ≡ true → length (name_at names symbol) ≡ 0

abbrev pub AreRoot : List (List ℕ) → ℕ → Bool → List Row → List Open → Type 0
AreRoot names symbol terminal rows [] = ⊥
AreRoot names symbol terminal rows (node ∷ nodes) = IsRoot names symbol terminal rows node nodes

-- All nodes are closed: the rows spell one radix tree, with the names that were in the tree and the one that ends at the root.
pub record RootedAs (names : List (List ℕ)) (symbol : ℕ) (terminal : Bool) (before : List Row) (was : List Open) (rows : List Row) :
    Type 0 where
  pub sound : AreRows names rows
  pub mark : Option ℕ
  pub below : Edges
  pub root : trees_of names rows ≡ edge [] mark below no_edge
  pub radix : AreRadix below
  pub built : names_along [] (trees_of names rows)
      ≡ (if terminal then (name_at names symbol, symbol) ∷ [] else []) ++ names_open (name_at names symbol) (trees_of names before) was

-- a builder's names, its rows from the first to the last, and its open nodes, the deepest first
abbrev pub names_in : Builder → List (List ℕ)
names_in b = names_of b.symbols.now

abbrev pub rows_in : Builder → List Row
rows_in b = reverse b.rows.items

abbrev pub open_in : Builder → List Open
open_in b = reverse b.nodes.items

abbrev pub root_node : Open
root_node = record { depth = 0; children = 0; opened = 0 }

abbrev pub deepest : List Open → ℕ
deepest [] = 0
deepest (node ∷ nodes) = node.depth

-- the same between a builder before a call and after it
abbrev pub Closes : ℕ → Bool → ℕ → Builder → Builder → Type 0
Closes symbol terminal least old new = ClosedAs (names_in new) symbol terminal least (rows_in old) (open_in old) (rows_in new) (open_in new)

abbrev pub Arrives : ℕ → Builder → Builder → Type 0
Arrives symbol old new = ArrivedAs (names_in new) symbol (rows_in old) (open_in old) (rows_in new) (open_in new)

abbrev pub Steps : ℕ → ℕ → Builder → Builder → Type 0
Steps above symbol old new = StepsAs (names_in new) above symbol (rows_in old) (open_in old) (rows_in new) (open_in new)

abbrev pub IsRooted : ℕ → Bool → Builder → List Row → Type 0
IsRooted symbol terminal old rows = RootedAs (names_in old) symbol terminal (rows_in old) (open_in old) rows

-- what is known of a builder's open nodes
abbrev pub MayClose : ℕ → Bool → ℕ → Builder → Type 0
MayClose symbol terminal least b = AreClosing (names_in b) symbol terminal least (rows_in b) (open_in b)

abbrev pub IsAt : ℕ → Builder → Type 0
IsAt symbol b = AreOpenAt (names_in b) symbol (rows_in b) (open_in b)

abbrev pub IsReadyFor : ℕ → Builder → Type 0
IsReadyFor symbol b = AreReady (names_in b) (name_at (names_in b) symbol) (rows_in b) (open_in b)

abbrev pub IsAtRoot : ℕ → Bool → Builder → Type 0
IsAtRoot symbol terminal b = AreRoot (names_in b) symbol terminal (rows_in b) (open_in b)
