-- What holds before segment k: none of the first k has the name and the addresses.
use Rattle.std.proofs.Common.{◌≡◌, ℕ, ◌+◌, ◌<◌, ◌≤◌, true, get_or, if◌then◌else◌}
use Rattle.std.specs.Str.{bytes_eq}
use Rattle.macho_records.specs.Segments.{text_of}
use Rattle.macho_model.specs.declared.placed.PlacedSegment.{PlacedSegment}
use Rattle.macho_placement_rules.proofs.lying.lies_in.Given as goal

abbrev pub invariant-loop-segment : goal.invariant-loop-segment
invariant-loop-segment l =
    (k : ℕ) (d : PlacedSegment) → k < l.segment-index → bytes_eq (text_of (get_or l.segments k d).name) l.name ≡ true
    → (get_or l.segments k d).address ≤ l.start
    → l.start + l.size ≤ (get_or l.segments k d).address
    + (if l.in_file then (get_or l.segments k d).file_size else (get_or l.segments k d).size) → ⊥
