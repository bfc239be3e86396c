-- Whether slots lie in the file part of a segment.
--
-- What holds of the first k and of the next one holds of one more. One that lies in none refutes it of all.
use Rattle.std.proofs.Common.{true, sym, ◌∙◌}
use Rattle.macho_model.specs.declared.placed.Slot.{Slot}
use Rattle.macho_model.specs.Segments.{DATA_CONST}
use Rattle.macho_placement_rules.specs.steps.Lying.{HasRoom}
use Rattle.macho_placement_rules.proofs.Each.{each_more}
use Rattle.macho_placement_rules.proofs.lying.slots_in.Goals as goal

pub loop-slot-preserved : goal.loop-slot-preserved
loop-slot-preserved c =
    each_more (λ (s : Slot). HasRoom true c.args.segments.now DATA_CONST s.address 8) c.args.slots.now c.loop-slot.slot-index _
    c.loop-slot-test.true c.loop-slot.invariant c.if-not-lies_in.ensures.found

pub returns-then-not-lies_in-clause-only : goal.returns-then-not-lies_in-clause-only
returns-then-not-lies_in-clause-only c = λ all.
    sym c.if-not-lies_in.true ∙ c.lies_in.ensures.only (all c.loop-slot.slot-index _ c.loop-slot-test.true)
