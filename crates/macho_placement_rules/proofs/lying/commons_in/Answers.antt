-- Whether commons lie in a segment.
--
-- What holds of the first k and of the next one holds of one more.
use Rattle.std.proofs.Common.{false}
use Rattle.macho_model.specs.declared.placed.PlacedCommon.{PlacedCommon}
use Rattle.macho_model.specs.Segments.{DATA}
use Rattle.macho_placement_rules.specs.steps.Lying.{HasRoom}
use Rattle.macho_placement_rules.specs.steps.Pieces.{common_part}
use Rattle.macho_placement_rules.proofs.Each.{each_more}
use Rattle.macho_placement_rules.proofs.lying.commons_in.Goals as goal

pub loop-common-preserved : goal.loop-common-preserved
loop-common-preserved c =
    each_more (λ (x : PlacedCommon). HasRoom false c.args.segments.now DATA x.address (common_part c.args.specs.now x).size)
    c.args.commons.now c.loop-common.common-index _ c.loop-common-test.true c.loop-common.invariant c.if-not-lies_in.ensures.found
