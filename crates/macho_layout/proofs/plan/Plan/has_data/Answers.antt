-- The table of segments holds those of the sections.
use Rattle.macho_layout.proofs.Tests.{or_same, is_zero}
use Rattle.macho_layout.proofs.plan.Plan.has_data.Goals as goal

pub returns-else-not-is_empty : goal.returns-else-not-is_empty
returns-else-not-is_empty c =
    rw (← c.self.view_is, ← c.self.invariant.0.segments_are)
    (or_same _ _ _ (is_zero _ _ _ c.is_empty.ensures c.if-not-is_empty.false c.self.inside.commons.ok.0) c.contains.ensures)
