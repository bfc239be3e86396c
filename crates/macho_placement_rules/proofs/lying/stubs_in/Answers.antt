-- Whether stubs lie in the file part of a segment.
--
-- What holds of the first k and of the next one holds of one more. One that lies in none refutes it of all.
use Rattle.std.proofs.Common.{true, sym, ◌∙◌}
use Rattle.macho_model.specs.declared.placed.Stub.{Stub}
use Rattle.macho_model.specs.Segments.{TEXT}
use Rattle.macho_placement_rules.specs.steps.Lying.{HasRoom}
use Rattle.macho_placement_rules.proofs.Each.{each_more}
use Rattle.macho_placement_rules.proofs.lying.stubs_in.Goals as goal

pub loop-stub-preserved : goal.loop-stub-preserved
loop-stub-preserved c =
    each_more (λ (s : Stub). HasRoom true c.args.segments.now TEXT s.address 12) c.args.stubs.now c.loop-stub.stub-index _
    c.loop-stub-test.true c.loop-stub.invariant c.if-not-lies_in.ensures.found

pub returns-then-not-lies_in-clause-only : goal.returns-then-not-lies_in-clause-only
returns-then-not-lies_in-clause-only c = λ all.
    sym c.if-not-lies_in.true ∙ c.lies_in.ensures.only (all c.loop-stub.stub-index _ c.loop-stub-test.true)
