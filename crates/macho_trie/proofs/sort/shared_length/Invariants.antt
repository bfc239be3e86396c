use Rattle.std.proofs.Common.{◌≡◌, ℕ, ◌<◌, ◌≤◌, ◌-◌, length, slice_index}
use Rattle.macho_trie.proofs.sort.shared_length.Given as goal

abbrev pub invariant-loop-shared : goal.invariant-loop-shared
invariant-loop-shared l = record {
  first : l.shared ≤ length l.first;
  second : l.shared ≤ length l.second;
  same : (k : ℕ) → k < l.shared → slice_index l.first k ≡ slice_index l.second k;
}

abbrev pub decreases-loop-shared : goal.decreases-loop-shared
decreases-loop-shared l = length l.first - l.shared
