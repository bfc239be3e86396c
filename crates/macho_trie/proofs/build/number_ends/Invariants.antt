use Rattle.std.proofs.Common.{◌≡◌, ℕ, ◌<◌, ◌≤◌, length, get_or}
use Rattle.macho_trie.specs.steps.Building.{numbered}
use Rattle.macho_trie.specs.declared.table.Row.{Row}
use Rattle.macho_trie.proofs.build.number_ends.Given as goal

-- the rows so far are numbered, and the others are as they were
abbrev pub invariant-loop-place : goal.invariant-loop-place
invariant-loop-place l = record {
  long : length l.rows ≡ length l.initial.rows;
  done : (k : ℕ) (d : Row) → k < l.place → get_or l.rows k d ≡ numbered (length l.initial.rows) (get_or l.initial.rows k d);
  left : (k : ℕ) (d : Row) → l.place ≤ k → k < length l.initial.rows → get_or l.rows k d ≡ get_or l.initial.rows k d;
}
