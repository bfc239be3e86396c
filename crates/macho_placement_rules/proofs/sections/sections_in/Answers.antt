-- Whether sections lie in their segments.
--
-- What holds of the first k and of the next one holds of one more. One that doesn't lie there refutes it of all; at the end these are all.
use Rattle.std.proofs.Common.{sym, ◌∙◌, arith}
use Rattle.macho_placement_rules.specs.steps.Lying.{HoldsSection}
use Rattle.macho_placement_rules.proofs.Each.{both_more}
use Rattle.macho_placement_rules.proofs.sections.sections_in.Goals as goal

pub loop-number-preserved : goal.loop-number-preserved
loop-number-preserved c =
    both_more (HoldsSection c.args.segments.now) c.args.sections.now c.args.specs.now c.loop-number.number _ _ c.loop-number-test.true
    (omega arith) c.loop-number.invariant c.if-not-section_lies.ensures.found

pub returns-then-not-section_lies-clause-only : goal.returns-then-not-section_lies-clause-only
returns-then-not-section_lies-clause-only c = λ all.
    sym c.if-not-section_lies.true ∙ c.section_lies.ensures.only (all c.loop-number.number _ _ c.loop-number-test.true)

pub returns-clause-found : goal.returns-clause-found
returns-clause-found c = λ k d e low. c.loop-number.invariant k d e (omega arith)
