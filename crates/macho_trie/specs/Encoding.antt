-- The bytes of a radix tree as an exports trie: its nodes in preorder, each with its terminal part and its edges
-- (`mach-o/loader.h`, DYLD_EXPORTS_TRIE). Nodes are numbered in preorder, the root is number 0.
use Rattle.std.specs.Prelude.{◌≡◌, ◌↔◌, ℕ, ◌+◌, ◌<◌, ◌≤◌, List, [], ◌∷◌, ◌++◌, length, take, sum, slice_index_or, Option, Some, None}
use Rattle.std.specs.Option.{option_map}
use Rattle.macho_bytes.specs.Uleb.{uleb_of}
use Rattle.macho_trie.specs.Exports.{Exported, as_value, as_reexport}
use Rattle.macho_trie.specs.Trees.{Edges, no_edge, edge, LeadsTo, edge_count, node_count, AreRadix}

-- the terminal part's numbers and name
abbrev pub export_bytes : Exported → List ℕ
export_bytes (as_value flags address) = uleb_of flags ++ uleb_of address
export_bytes (as_reexport flags ordinal name) = uleb_of flags ++ (uleb_of ordinal ++ (name ++ 0 ∷ []))

-- the terminal size and the terminal part: size 0 where nothing is exported
abbrev pub terminal_bytes : Option Exported → List ℕ
terminal_bytes None = 0 ∷ []
terminal_bytes (Some x) = uleb_of (length (export_bytes x)) ++ export_bytes x

-- what stands for a symbol
abbrev pub says_of : List (List ℕ × Exported) → ℕ → Exported
says_of symbols s = (slice_index_or symbols s ([], as_value 0 0)).1

-- the edges of a node, where each node has a place: label, NUL, and the child's place
abbrev pub edges_bytes : (ℕ → ℕ) → ℕ → Edges → List ℕ
edges_bytes place i no_edge = []
edges_bytes place i (edge label symbol below rest) =
    label ++ (0 ∷ (uleb_of (place i) ++ edges_bytes place (i + (node_count below + 1)) rest))

abbrev pub node_bytes : (ℕ → Exported) → (ℕ → ℕ) → ℕ → Option ℕ → Edges → List ℕ
node_bytes says place i symbol below = terminal_bytes (option_map says symbol) ++ (edge_count below ∷ edges_bytes place (i + 1) below)

-- the nodes of edges and all below them, in preorder, from a number on
abbrev pub tree_bytes : (ℕ → Exported) → (ℕ → ℕ) → ℕ → Edges → List ℕ
tree_bytes says place i no_edge = []
tree_bytes says place i (edge label symbol below rest) =
    node_bytes says place i symbol below ++ (tree_bytes says place (i + 1) below ++ tree_bytes says place (i + (node_count below + 1)) rest)

-- the sizes of the same, where the number of each child has a width
abbrev pub edges_size : (ℕ → ℕ) → ℕ → Edges → ℕ
edges_size width i no_edge = 0
edges_size width i (edge label symbol below rest) = length label + 1 + width i + edges_size width (i + (node_count below + 1)) rest

-- the sizes of the nodes in preorder, where a terminal part with its size has so many bytes
abbrev pub node_sizes : (Option ℕ → ℕ) → (ℕ → ℕ) → ℕ → Edges → List ℕ
node_sizes size width i no_edge = []
node_sizes size width i (edge label symbol below rest) =
    (size symbol + 1 + edges_size width (i + 1) below)
    ∷ (node_sizes size width (i + 1) below ++ node_sizes size width (i + (node_count below + 1)) rest)

-- where a node stands, and the size of all nodes
unfoldable pub place_of : (Option ℕ → ℕ) → (ℕ → ℕ) → Edges → ℕ → ℕ
place_of size width tree k = sum (take k (node_sizes size width 0 tree))

unfoldable pub total_of : (Option ℕ → ℕ) → (ℕ → ℕ) → Edges → ℕ
total_of size width tree = sum (node_sizes size width 0 tree)

-- the size of a terminal part with its size
abbrev pub terminal_size : (ℕ → Exported) → Option ℕ → ℕ
terminal_size says symbol = length (terminal_bytes (option_map says symbol))

-- no edge is too narrow: each child's place can be written in the width
abbrev pub AreWide : (Option ℕ → ℕ) → (ℕ → ℕ) → Edges → Type 0
AreWide size width tree = (k : ℕ) → 1 ≤ k → k < node_count tree → length (uleb_of (place_of size width tree k)) ≤ width k

-- Widths are consistent where each is the size of its child's place under these widths. The least ones are at most any
-- others that are wide enough, so at most any consistent ones.
pub record AreLeast (size : Option ℕ → ℕ) (width : ℕ → ℕ) (tree : Edges) : Type 0 where
  pub consistent : (k : ℕ) → 1 ≤ k → k < node_count tree → width k ≡ length (uleb_of (place_of size width tree k))
  pub least : (other : ℕ → ℕ) → AreWide size other tree → (k : ℕ) → 1 ≤ k → k < node_count tree → width k ≤ other k

-- The bytes are the exports trie of some symbols: the nodes in preorder of the radix tree of their names, with the least
-- widths, each at its place.
pub record IsExportsTrie (symbols : List (List ℕ × Exported)) (bytes : List ℕ) : Type 0 where
  pub symbol : Option ℕ
  pub below : Edges
  pub radix : AreRadix below
  pub names : (name : List ℕ) (s : ℕ) → LeadsTo (edge [] symbol below no_edge) name s
      ↔ ((s < length symbols) × ((slice_index_or symbols s ([], as_value 0 0)).0 ≡ name))
  pub width : ℕ → ℕ
  pub least : AreLeast (terminal_size (says_of symbols)) width (edge [] symbol below no_edge)
  pub text : bytes ≡ tree_bytes (says_of symbols) (place_of (terminal_size (says_of symbols)) width (edge [] symbol below no_edge)) 0
      (edge [] symbol below no_edge)
