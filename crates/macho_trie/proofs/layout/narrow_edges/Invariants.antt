use Rattle.std.proofs.Common.{◌≡◌, ◌<◌, ◌≤◌, ℕ, [], length, slice_index}
use Rattle.std.specs.List.{All}
use Rattle.macho_trie.specs.steps.Layouts.{IsNarrow, AreListed, needed}
use Rattle.macho_trie.proofs.layout.narrow_edges.Given as goal

-- all on the list are too narrow and in front, and where it is empty none so far is
abbrev pub invariant-loop-child : goal.invariant-loop-child
invariant-loop-child l = record {
  all : All (IsNarrow l.places l.widths) l.narrow.items;
  list : AreListed (length l.widths) l.narrow.items;
  front : All (λ k. k < l.child) l.narrow.items;
  none : l.narrow.items ≡ [] → (k : ℕ) → 1 ≤ k → k < l.child → needed l.places k ≤ slice_index l.widths k;
}
