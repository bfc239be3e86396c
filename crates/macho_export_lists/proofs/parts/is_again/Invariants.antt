use Rattle.std.proofs.Common.{◌≡◌, ℕ, ◌+◌, ◌<◌, ◌≤◌, false}
use Rattle.std.specs.List.{slice_range}
use Rattle.std.specs.Str.{bytes_eq}
use Rattle.macho_export_lists.proofs.parts.is_again.Given as goal

abbrev pub invariant-loop-earlier : goal.invariant-loop-earlier
invariant-loop-earlier l =
    (k : ℕ) → l.first ≤ k → k < l.earlier
    → bytes_eq (slice_range l.name k (k + l.count)) (slice_range l.name l.at (l.at + l.count)) ≡ false
