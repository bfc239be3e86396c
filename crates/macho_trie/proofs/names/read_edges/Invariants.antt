use Rattle.std.proofs.Common.{◌≡◌, ◌≤◌, ◌-◌, length}
use Rattle.macho_trie.specs.Nodes.{edges_at}
use Rattle.macho_trie.specs.steps.Stacks.{edges_of, behind_edges}
use Rattle.macho_trie.proofs.names.read_edges.Given as goal

-- the edges that are left, behind those that were read, are all edges
abbrev pub invariant-loop-edge : goal.invariant-loop-edge
invariant-loop-edge l = record {
  within : l.place ≤ length l.bytes;
  few : length l.edges.items ≤ l.edge;
  same : behind_edges (edges_of l.edges.items) (edges_at (l.count - l.edge) l.bytes l.place) ≡ edges_at l.count l.bytes l.at;
}
