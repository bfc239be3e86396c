use Rattle.std.proofs.Common.{◌≡◌, ◌≤◌, ◌++◌, length, drop, map}
use Rattle.macho_trie.specs.steps.Walking.{last_first}
use Rattle.macho_trie.specs.steps.Stacks.{pending_at}
use Rattle.macho_trie.proofs.names.push_children.Given as goal

-- the children of the last edges are there
abbrev pub invariant-loop-left : goal.invariant-loop-left
invariant-loop-left l = record {
  within : l.left ≤ length l.edges;
  pushed : l.pending.items ≡ l.initial.pending.items ++ last_first (map (pending_at l.kept) (drop l.left l.edges));
}

abbrev pub decreases-loop-left : goal.decreases-loop-left
decreases-loop-left l = l.left
