-- The walk over an exports trie, along all edges, and what it may meet that makes the trie malformed (`mach-o/loader.h`,
-- DYLD_EXPORTS_TRIE).
use Rattle.std.specs.Prelude.{◌≡◌, ◌≢◌, ℕ, ◌<◌, List, [], ◌++◌, length, slice_index, Some, None, Contains}
use Rattle.std.specs.List.{All, AllPairs}
use Rattle.macho_trie.specs.Nodes.{Edge, Node, node_at}

-- The least relation with two rules: the walk begins at the first byte, with the empty name, and goes from a node along each
-- of its edges to the child's place, with the edge's label at the end of the name.
pub data Reaches (bytes : List ℕ) : ℕ → List ℕ → Type 0 where
  first : Reaches bytes 0 []
  next : (at : ℕ) (name : List ℕ) (node : Node) (e : Edge) → Reaches bytes at name → node_at bytes at ≡ Some node → Contains node.edges e
      → Reaches bytes e.child (name ++ e.label)

-- The edges of one node may stand together: no label is empty, and no two begin with the same byte.
pub record AreApart (edges : List Edge) : Type 0 where
  pub some : All (λ e. 0 < length e.label) edges
  pub apart : AllPairs (λ e f. slice_index e.label 0 ≢ slice_index f.label 0) edges

-- The walk meets something wrong at a place: no node, a node whose edges may not stand together, or a node that it has met
-- before, by another name. (Where edges may stand together, no two ways spell the same name. A circle is a second meeting, too.)
pub data IsWrongAt (bytes : List ℕ) (place : ℕ) : Type 0 where
  no_node : (name : List ℕ) → Reaches bytes place name → node_at bytes place ≡ None → IsWrongAt bytes place
  not_apart : (name : List ℕ) (node : Node) → Reaches bytes place name → node_at bytes place ≡ Some node → (AreApart node.edges → ⊥)
      → IsWrongAt bytes place
  twice : (name other : List ℕ) → Reaches bytes place name → Reaches bytes place other → name ≢ other → IsWrongAt bytes place

-- a trie that has bytes is malformed at a place; no bytes at all are a trie without names
abbrev pub IsMalformedAt : List ℕ → ℕ → Type 0
IsMalformedAt bytes place = (0 < length bytes) × IsWrongAt bytes place
