use Rattle.std.proofs.Common.{◌≡◌, ◌≤◌, ◌-◌, length, IfSome}
use Rattle.macho_trie.specs.Nodes.{edges_at}
use Rattle.macho_trie.specs.steps.Lookup.{IsStep}
use Rattle.macho_trie.proofs.Edges.{behind}
use Rattle.macho_trie.proofs.lookup.first_step.Given as goal

-- the edges that are left give, behind the step so far, what all edges give
abbrev pub invariant-loop-edge : goal.invariant-loop-edge
invariant-loop-edge l = record {
  within : l.place ≤ length l.bytes;
  part : IfSome l.step (IsStep l.rest);
  same : behind l.rest l.step (edges_at (l.count - l.edge) l.bytes l.place) ≡ behind l.rest l.initial.step (edges_at l.count l.bytes l.at);
}
