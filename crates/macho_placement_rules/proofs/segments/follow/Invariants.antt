-- What holds before segment k: each of the first k but the first stands behind the one before it.
use Rattle.std.proofs.Common.{◌≡◌, ℕ, ◌+◌, ◌<◌, map, get_or}
use Rattle.macho_records.specs.Segments.{text_of}
use Rattle.macho_model.specs.declared.placed.PlacedSegment.{PlacedSegment}
use Rattle.macho_model.specs.Links.{Link}
use Rattle.macho_model.specs.Segments.{other_segments}
use Rattle.macho_model.specs.Placement.{Follows}
use Rattle.macho_placement_rules.proofs.segments.follow.Given as goal

abbrev pub invariant-loop-next : goal.invariant-loop-next
invariant-loop-next l =
    (t : Link) → map text_of l.others ≡ other_segments t → (k : ℕ) (d e : PlacedSegment) → k + 1 < l.next
    → Follows t (get_or l.segments k d) (get_or l.segments (k + 1) e)
