-- What holds before segment k: none of the first k has the name and the file offsets.
use Rattle.std.proofs.Common.{◌≡◌, ℕ, ◌+◌, ◌<◌, ◌≤◌, true, get_or}
use Rattle.std.specs.Str.{bytes_eq}
use Rattle.macho_records.specs.Segments.{text_of}
use Rattle.macho_model.specs.declared.placed.PlacedSegment.{PlacedSegment}
use Rattle.macho_model.specs.Segments.{LINKEDIT}
use Rattle.macho_placement_rules.proofs.lying.table_in.Given as goal

abbrev pub invariant-loop-segment : goal.invariant-loop-segment
invariant-loop-segment l =
    (k : ℕ) (d : PlacedSegment) → k < l.segment-index → bytes_eq (text_of (get_or l.segments k d).name) LINKEDIT ≡ true
    → (get_or l.segments k d).file_offset ≤ l.range.start → l.range.start ≤ l.range.end
    → l.range.end ≤ (get_or l.segments k d).file_offset + (get_or l.segments k d).file_size → ⊥
