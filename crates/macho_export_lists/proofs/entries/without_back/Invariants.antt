use Rattle.std.proofs.Common.{◌≡◌, ℕ, ◌-◌, ◌<◌, true, get_or, length}
use Rattle.macho_export_lists.specs.steps.Lines.{is_blank}
use Rattle.macho_export_lists.proofs.entries.without_back.Given as goal

abbrev pub invariant-loop-skipped : goal.invariant-loop-skipped
invariant-loop-skipped l = (k : ℕ) → k < l.skipped → is_blank (get_or l.text (length l.text - 1 - k) 0) ≡ true
