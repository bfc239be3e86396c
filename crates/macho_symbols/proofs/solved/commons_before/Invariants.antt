use Rattle.std.proofs.Common.{◌≡◌, ◌≤◌, ◌<◌, ◌-◌, ℕ, true, false, get_or, length}
use Rattle.macho_symbols.specs.declared.solved.Common.{Common}
use Rattle.macho_symbols.specs.steps.Solved.{common_id, is_before}
use Rattle.macho_symbols.proofs.solved.commons_before.Given as goal

abbrev pub invariant-loop-low : goal.invariant-loop-low
invariant-loop-low l =
    record {
      order : l.low ≤ l.high;
      within : l.high ≤ length l.commons;
      below : (k : ℕ) (d : Common) → k < l.low → is_before (common_id (get_or l.commons k d)) (record { file = l.file; symbol = l.row })
          ≡ true;
      above : (k : ℕ) (d : Common) → l.high ≤ k → k < length l.commons
          → is_before (common_id (get_or l.commons k d)) (record { file = l.file; symbol = l.row }) ≡ false;
    }

abbrev pub decreases-loop-low : goal.decreases-loop-low
decreases-loop-low l = l.high - l.low
