-- What holds before number k: none of the first k has the name.
use Rattle.std.proofs.Common.{◌≡◌, ℕ, ◌<◌, false, get_or}
use Rattle.std.specs.Str.{bytes_eq}
use Rattle.macho_records.specs.Segments.{text_of}
use Rattle.macho_records.specs.declared.segments.SegmentName.{SegmentName}
use Rattle.macho_placement_rules.proofs.segments.number_of.Given as goal

abbrev pub invariant-loop-number : goal.invariant-loop-number
invariant-loop-number l = (k : ℕ) (d : SegmentName) → k < l.number → bytes_eq l.text (text_of (get_or l.others k d)) ≡ false
