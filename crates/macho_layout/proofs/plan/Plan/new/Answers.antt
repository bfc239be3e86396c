-- A plan of nothing: its tables are empty.
use Rattle.macho_layout.proofs.Tables.{names_none}
use Rattle.macho_layout.proofs.plan.Plan.new.Goals as goal

pub invariant_of-result : goal.invariant_of-result
invariant_of-result c =
    rw (c.new.ensures.items, c.new-2.ensures.items, c.new-5.ensures.empty, c.new-6.ensures.empty) names_none
