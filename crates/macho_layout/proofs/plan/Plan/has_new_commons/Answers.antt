-- The table of names holds those of the sections.
use Rattle.macho_layout.proofs.Tests.{and_same, is_some_length}
use Rattle.macho_layout.proofs.plan.Plan.has_new_commons.Goals as goal

pub returns-then-not-is_empty : goal.returns-then-not-is_empty
returns-then-not-is_empty c =
    rw (← c.self.view_is, ← c.self.invariant.0.keys_are, ← c.common_name.ensures)
    (and_same _ _ _ (is_some_length _ _ _ c.is_empty.ensures c.if-not-is_empty.true c.self.inside.commons.ok.0) c.contains.ensures)
