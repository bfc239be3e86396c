use Rattle.std.proofs.Common.{◌≡◌, ◌<◌, ◌-◌, [], length}
use Rattle.std.specs.List.{All}
use Rattle.macho_trie.specs.steps.Layouts.{AreListed}
use Rattle.macho_trie.proofs.layout.moved_edges.Given as goal

-- all on the list are in front, and without a moved place there is none
abbrev pub invariant-loop-child : goal.invariant-loop-child
invariant-loop-child l = record {
  list : AreListed (length l.places - 1) l.moved.items;
  front : All (λ k. k < l.child) l.moved.items;
  none : l.before ≡ l.places → l.moved.items ≡ [];
}
