-- What holds before segment k: the first k end no further behind the base than the sum.
use Rattle.std.proofs.Common.{◌≡◌, ℕ, ◌+◌, ◌≤◌, ◌<◌, get_or}
use Rattle.macho_model.specs.declared.placed.PlacedSegment.{PlacedSegment}
use Rattle.macho_placement_rules.proofs.segments.are_within.Given as goal

abbrev pub invariant-loop-segment : goal.invariant-loop-segment
invariant-loop-segment l =
    (l.end ≡ l.base + l.sum)
    × ((k : ℕ) (d : PlacedSegment) → k < l.segment-index
    → (get_or l.segments k d).address + (get_or l.segments k d).size ≤ l.base + l.sum)
