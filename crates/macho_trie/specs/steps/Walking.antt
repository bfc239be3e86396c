-- The walk over a trie so far: which visits were made, which are pending, and the lines that were listed. A visit is a place
-- and the name by which it is reached.
use Rattle.std.specs.Prelude.{◌≡◌, ◌⊎◌, ℕ, ◌<◌, Bool, true, false, List, [], ◌∷◌, ◌++◌, length, slice_index, slice_index_or, Option, Some, None, Contains}
use Rattle.std.specs.List.{All, AllPairs}
use Rattle.std.specs.Cmp.Lexicographic.{slice_cmp}
use Rattle.std.specs.Ordering.{nat_cmp}
use Rattle.std.specs.declared.cmp.Ordering.TheVariants.{Less}
use Rattle.macho_trie.specs.Exports.{Exported}
use Rattle.macho_trie.specs.Nodes.{Edge, Node, node_at}
use Rattle.macho_trie.specs.Walks.{Reaches, AreApart}

-- a name is less than another
abbrev pub IsBefore : List ℕ → List ℕ → Type 0
IsBefore x y = slice_cmp nat_cmp x y ≡ Less

-- Two names share some first bytes, and the next byte of the first one is less. So this holds of longer names, too.
pub record IsParted (x y : List ℕ) : Type 0 where
  pub shared : List ℕ
  pub low : ℕ
  pub high : ℕ
  pub left : List ℕ
  pub right : List ℕ
  pub is_left : x ≡ shared ++ (low ∷ left)
  pub is_right : y ≡ shared ++ (high ∷ right)
  pub less : low < high

-- a list, the last element first
unfoldable pub last_first : {X : Type 0} → List X → List X
last_first [] = []
last_first (x ∷ xs) = last_first xs ++ x ∷ []

-- the visit along an edge of a node with a name
abbrev pub child_of : List ℕ → Edge → ℕ × List ℕ
child_of name e = (e.child, name ++ e.label)

-- Edges in the order of the first bytes of their labels.
pub record DoRise (edges : List Edge) : Type 0 where
  pub some : All (λ e. 0 < length e.label) edges
  pub rise : AllPairs (λ e f. slice_index e.label 0 < slice_index f.label 0) edges

-- what the node at a place exports
abbrev pub DoesExport : List ℕ → ℕ → Exported → Type 0
DoesExport bytes place x = (node : Node) × (node_at bytes place ≡ Some node) × (node.export ≡ Some x)

-- A visit that was made found a node whose edges may stand together. Each of them leads to a visit.
pub record IsFine (bytes : List ℕ) (seen pending : List (ℕ × List ℕ)) (place : ℕ) (name : List ℕ) : Type 0 where
  pub node : Node
  pub is : node_at bytes place ≡ Some node
  pub apart : AreApart node.edges
  pub on : (e : Edge) → Contains node.edges e → Contains seen (e.child, name ++ e.label) ⊎ Contains pending (e.child, name ++ e.label)

-- The visits that were made and those that are pending, the next one last: the marks tell the places of those made, and
-- names come in order.
pub record IsWalked (bytes : List ℕ) (met : List Bool) (seen pending : List (ℕ × List ℕ)) : Type 0 where
  pub some : 0 < length bytes
  pub long : length met ≡ length bytes
  pub met_seen : (p : ℕ) → slice_index_or met p false ≡ true → (name : List ℕ) × Contains seen (p, name)
  pub seen_met : (p : ℕ) (name : List ℕ) → Contains seen (p, name) → slice_index_or met p false ≡ true
  pub once : (p : ℕ) (x y : List ℕ) → Contains seen (p, x) → Contains seen (p, y) → x ≡ y
  pub seen_reached : (p : ℕ) (name : List ℕ) → Contains seen (p, name) → Reaches bytes p name
  pub pending_reached : (p : ℕ) (name : List ℕ) → Contains pending (p, name) → Reaches bytes p name
  pub fine : (p : ℕ) (name : List ℕ) → Contains seen (p, name) → IsFine bytes seen pending p name
  pub before : (p q : ℕ) (x y : List ℕ) → Contains seen (p, x) → Contains pending (q, y) → IsBefore x y
  pub parted : AllPairs (λ v w. IsParted w.1 v.1) pending
  pub root : Contains seen (0, []) ⊎ Contains pending (0, [])

-- The lines of the visits that were made.
pub record IsLined (bytes : List ℕ) (seen : List (ℕ × List ℕ)) (lines : List (List ℕ × Exported)) : Type 0 where
  pub rising : AllPairs (λ x y. IsBefore x.0 y.0) lines
  pub found : (name : List ℕ) (x : Exported) → Contains lines (name, x) → (p : ℕ) × Contains seen (p, name) × DoesExport bytes p x
  pub all : (p : ℕ) (name : List ℕ) (x : Exported) → Contains seen (p, name) → DoesExport bytes p x → Contains lines (name, x)

-- the line of a visit
abbrev pub line_if : List ℕ → Option Exported → List (List ℕ × Exported)
line_if name None = []
line_if name (Some x) = (name, x) ∷ []
