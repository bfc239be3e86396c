-- What holds before segment k: none of the first k is `__TEXT` at the address.
use Rattle.std.proofs.Common.{◌≡◌, ℕ, ◌<◌, ◌==◌, ◌&&◌, false, get_or}
use Rattle.macho_model.specs.declared.placed.PlacedSegment.{PlacedSegment}
use Rattle.macho_model.specs.Segments.{TEXT}
use Rattle.macho_model.specs.Placement.{is_segment_named}
use Rattle.macho_placement_rules.proofs.segments.has_text_at.Given as goal

abbrev pub invariant-loop-segment : goal.invariant-loop-segment
invariant-loop-segment l =
    (k : ℕ) (d : PlacedSegment) → k < l.segment-index
    → (is_segment_named TEXT (get_or l.segments k d) && ((get_or l.segments k d).address == l.base)) ≡ false
