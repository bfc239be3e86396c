-- Whether a range suits each of some sections.
--
-- What holds of the first k and of the next one holds of one more. One that it doesn't suit refutes it of all; at the end these are all.
use Rattle.std.proofs.Common.{sym, ◌∙◌, arith}
use Rattle.macho_placement_rules.specs.steps.Template.{Suits}
use Rattle.macho_placement_rules.proofs.Each.{both_more}
use Rattle.macho_placement_rules.proofs.template.suits_each.Goals as goal

pub loop-number-preserved : goal.loop-number-preserved
loop-number-preserved c =
    both_more (Suits c.args.range) c.args.sections.now c.args.specs.now c.loop-number.number _ _ c.loop-number-test.true
    (omega arith) c.loop-number.invariant c.if-not-suits.ensures.found

pub returns-then-not-suits-clause-only : goal.returns-then-not-suits-clause-only
returns-then-not-suits-clause-only c = λ all.
    sym c.if-not-suits.true ∙ c.suits.ensures.only (all c.loop-number.number _ _ c.loop-number-test.true)

pub returns-clause-found : goal.returns-clause-found
returns-clause-found c = λ k d e low. c.loop-number.invariant k d e (omega arith)
