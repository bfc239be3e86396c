-- The number of a segment: what holds before number k is that none of the first k has the name.
use Rattle.std.proofs.Common.{◌≡◌, ℕ, ◌<◌, false, get_or}
use Rattle.macho_records.specs.declared.segments.SegmentName.{SegmentName}
use Rattle.macho_layout.specs.Keys.{same_segment}
use Rattle.macho_layout.proofs.cells.segment_number.Given as goal

abbrev pub invariant-loop-number : goal.invariant-loop-number
invariant-loop-number l = (k : ℕ) (d : SegmentName) → k < l.number → same_segment (get_or l.names k d) l.name ≡ false
