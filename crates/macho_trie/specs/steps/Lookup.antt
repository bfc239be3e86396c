-- One step of a look-up along the edges of a node.
use Rattle.std.specs.Prelude.{◌≡◌, ℕ, ◌≤◌, ◌&&◌, if◌then◌else◌, List, length, Option, Some}
use Rattle.std.specs.List.{find}
use Rattle.std.specs.Option.{option_map, is_none}
use Rattle.macho_trie.specs.Exports.{Exported}
use Rattle.macho_trie.specs.Nodes.{Edge, Node, node_at}
use Rattle.macho_trie.specs.Lookup.{leads}

-- what a step along an edge needs: the child, and the length of the label
abbrev pub step_of : Edge → ℕ × ℕ
step_of e = (e.child, length e.label)

-- the step that is known, or the one along a further edge that may be taken
abbrev pub noted : List ℕ → Option (ℕ × ℕ) → Edge → Option (ℕ × ℕ)
noted rest known e = if is_none known && leads rest e then Some (step_of e) else known

-- the step from a list of edges
unfoldable pub step_among : List ℕ → List Edge → Option (ℕ × ℕ)
step_among rest edges = option_map step_of (find (leads rest) edges)

-- a step is along a part of what is left
abbrev pub IsStep : List ℕ → ℕ × ℕ → Type 0
IsStep rest s = (1 ≤ s.1) × (s.1 ≤ length rest)

-- What is seen of a node by the rest of a name: its export, and the step from it.
pub record Visits (bytes : List ℕ) (at : ℕ) (rest : List ℕ) (export : Option Exported) (step : Option (ℕ × ℕ)) : Type 0 where
  pub node : Node
  pub is : node_at bytes at ≡ Some node
  pub exports : export ≡ node.export
  pub leads_on : step ≡ step_among rest node.edges
