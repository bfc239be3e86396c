use Rattle.std.proofs.Common.{◌≡◌, take, slice_index}
use Rattle.macho_trie.specs.Encoding.{node_sizes}
use Rattle.macho_trie.specs.steps.Layouts.{size_at, tree_at}
use Rattle.macho_trie.proofs.Parents.{AreNamedSoFar}
use Rattle.macho_trie.proofs.layout.Layout.sizes.Given as goal

-- the sizes so far are the first ones, and the children of the rows so far are named
abbrev pub invariant-loop-row : goal.invariant-loop-row
invariant-loop-row l = record {
  first : l.sizes.items ≡ take l.row (node_sizes (size_at l.self) (slice_index l.widths) 0 (tree_at l.self));
  named : AreNamedSoFar l.self l.parents l.row;
}
