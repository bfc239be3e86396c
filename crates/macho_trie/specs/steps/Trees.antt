-- Lists of at most one tree, and the numbers of children.
use Rattle.std.specs.Prelude.{◌≡◌, ◌⊎◌, ℕ, ◌+◌}
use Rattle.macho_trie.specs.Trees.{Edges, no_edge, edge, node_count}

-- one tree alone, or none
abbrev pub IsOneTree : Edges → Type 0
IsOneTree no_edge = Unit {0}
IsOneTree (edge label symbol below rest) = rest ≡ no_edge

-- a number is that of one of the nodes to which edges lead, where nodes are numbered in preorder
abbrev pub HasChild : ℕ → ℕ → Edges → Type 0
HasChild c i no_edge = ⊥
HasChild c i (edge label symbol below rest) = (c ≡ i) ⊎ HasChild c (i + (node_count below + 1)) rest
