use Rattle.std.proofs.Common.{slice_index}
use Rattle.macho_trie.specs.steps.Layouts.{size_at, tree_at, AreSizes}
use Rattle.macho_trie.proofs.Raising.{AreWidening}
use Rattle.macho_trie.proofs.layout.Layout.widen.Given as goal

-- the edges so far were looked at
abbrev pub invariant-loop-child : goal.invariant-loop-child
invariant-loop-child l = record {
  wider : AreWidening (size_at l.self) (tree_at l.self) l.places l.list l.initial.widths l.widths l.child-index l.growth;
  sizes : AreSizes l.self (slice_index l.widths) l.sizes;
}
