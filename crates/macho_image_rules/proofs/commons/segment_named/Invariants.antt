-- What holds before a segment: those before it have another name.
use Rattle.std.proofs.Common.{◌≡◌, ℕ, ◌<◌, get_or, false}
use Rattle.macho_model.specs.declared.placed.PlacedSegment.{PlacedSegment}
use Rattle.macho_model.specs.Placement.{is_segment_named}
use Rattle.macho_image_rules.proofs.commons.segment_named.Given as goal

abbrev pub invariant-loop-index : goal.invariant-loop-index
invariant-loop-index l = (k : ℕ) (d : PlacedSegment) → k < l.index → is_segment_named l.name (get_or l.segments k d) ≡ false
