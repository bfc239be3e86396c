-- What holds before segment k: the first k are made of whole pages.
use Rattle.std.proofs.Common.{ℕ, ◌<◌, get_or}
use Rattle.macho_model.specs.declared.placed.PlacedSegment.{PlacedSegment}
use Rattle.macho_model.specs.Placement.{IsPaged}
use Rattle.macho_placement_rules.proofs.segments.are_paged.Given as goal

abbrev pub invariant-loop-segment : goal.invariant-loop-segment
invariant-loop-segment l = (k : ℕ) (d : PlacedSegment) → k < l.segment-index → IsPaged (get_or l.segments k d)
