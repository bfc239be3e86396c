-- The radix tree of a set of names: each edge has a label, and a name is the labels on the way to its node, one after
-- the other. A trie's nodes are those of this tree (`mach-o/loader.h`, DYLD_EXPORTS_TRIE).
use Rattle.std.specs.Prelude.{◌≡◌, ◌⊎◌, ℕ, ◌+◌, ◌<◌, ◌≤◌, List, [], ◌++◌, length, slice_index, Option, Some, IsSome}

-- The edges of a node in order: each has its label, the number of the symbol whose name ends at the child, if one does,
-- and the edges of the child.
pub data Edges : Type 0 where
  no_edge : Edges
  edge : (label : List ℕ) (symbol : Option ℕ) (below rest : Edges) → Edges

-- A name leads to a symbol: it begins with an edge's label, and what is left of it ends at the child or leads on below it.
abbrev pub LeadsTo : Edges → List ℕ → ℕ → Type 0
LeadsTo no_edge name s = ⊥
LeadsTo (edge label symbol below rest) name s =
    ((left : List ℕ) × (name ≡ label ++ left) × (((left ≡ []) × (symbol ≡ Some s)) ⊎ LeadsTo below left s)) ⊎ LeadsTo rest name s

abbrev pub edge_count : Edges → ℕ
edge_count no_edge = 0
edge_count (edge label symbol below rest) = 1 + edge_count rest

-- the nodes that the edges lead to, those below them among them
abbrev pub node_count : Edges → ℕ
node_count no_edge = 0
node_count (edge label symbol below rest) = 1 + (node_count below + node_count rest)

-- A label of an edge: some bytes without a NUL.
pub record IsLabel (label : List ℕ) : Type 0 where
  pub some : 1 ≤ length label
  pub plain : (k : ℕ) → k < length label → (1 ≤ slice_index label k) × (slice_index label k < 256)

-- the first edge's label begins with a byte above this one
abbrev pub BeginsAbove : ℕ → Edges → Type 0
BeginsAbove byte no_edge = Unit {0}
BeginsAbove byte (edge label symbol below rest) = byte < slice_index label 0

-- Edges of a radix tree: the labels of a node's edges begin with rising bytes, so with different ones, and at each edge's
-- end a name ends or two edges begin.
abbrev pub AreRadix : Edges → Type 0
AreRadix no_edge = Unit {0}
AreRadix (edge label symbol below rest) =
    IsLabel label × (IsSome symbol ⊎ (2 ≤ edge_count below)) × AreRadix below × BeginsAbove (slice_index label 0) rest × AreRadix rest
