-- What holds before number k: the first k lie in the segment.
use Rattle.std.proofs.Common.{ℕ, ◌<◌, false, get_or}
use Rattle.macho_model.specs.declared.placed.PlacedCommon.{PlacedCommon}
use Rattle.macho_model.specs.Segments.{DATA}
use Rattle.macho_placement_rules.specs.steps.Lying.{HasRoom}
use Rattle.macho_placement_rules.specs.steps.Pieces.{common_part}
use Rattle.macho_placement_rules.proofs.lying.commons_in.Given as goal

abbrev pub invariant-loop-common : goal.invariant-loop-common
invariant-loop-common l =
    (k : ℕ) (d : PlacedCommon) → k < l.common-index
    → HasRoom false l.segments DATA (get_or l.commons k d).address (common_part l.specs (get_or l.commons k d)).size
