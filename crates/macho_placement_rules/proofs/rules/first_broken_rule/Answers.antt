-- The first rule that a placement breaks: that of the base, that of the lists, or the first of the others.
use Rattle.std.proofs.Common.{Some, sym}
use Rattle.macho_layout.specs.Placements.{placed_of}
use Rattle.macho_placement_rules.proofs.First.{base_broken, list_broken, answered, none_told}
use Rattle.macho_placement_rules.proofs.rules.first_broken_rule.Goals as goal

pub returns-then-not-is_based-clause-fault : goal.returns-then-not-is_based-clause-fault
returns-then-not-is_based-clause-fault c = λ l are sum.
    base_broken l c.args.counts.now (placed_of c.args.placement.now) c.is_based.result c.if-not-is_based.true
    (c.is_based.ensures.only l (sym are.plan.executable))

pub returns-then-not-is_whole-clause-fault : goal.returns-then-not-is_whole-clause-fault
returns-then-not-is_whole-clause-fault c = λ l are sum.
    list_broken l c.args.counts.now (placed_of c.args.placement.now) c.is_whole.result c.if-not-is_whole.true
    (c.if-not-is_based.ensures.found l (sym are.plan.executable)) (c.is_whole.ensures.only l are)

pub returns-clause-found : goal.returns-clause-found
returns-clause-found c = λ l are sum.
    (answered l c.args.counts.now (placed_of c.args.placement.now) c.in_ok-kept.kept c.first_broken.result c.first_broken.ensures
    (c.in_ok-kept.ensures l are sum (c.if-not-is_whole.ensures.found l are))
    (c.if-not-is_based.ensures.found l (sym are.plan.executable)) (c.if-not-is_whole.ensures.found l are)).right

pub returns-clause-fault : goal.returns-clause-fault
returns-clause-fault c = λ l are sum.
    (answered l c.args.counts.now (placed_of c.args.placement.now) c.in_ok-kept.kept c.first_broken.result c.first_broken.ensures
    (c.in_ok-kept.ensures l are sum (c.if-not-is_whole.ensures.found l are))
    (c.if-not-is_based.ensures.found l (sym are.plan.executable)) (c.if-not-is_whole.ensures.found l are)).first

-- a rule that is told is broken, so none is told of a right placement
pub returns-then-not-is_based-clause-only : goal.returns-then-not-is_based-clause-only
returns-then-not-is_based-clause-only c = λ l are sum placed.
    none_told l c.args.counts.now (placed_of c.args.placement.now) (Some 1) placed
    (base_broken l c.args.counts.now (placed_of c.args.placement.now) c.is_based.result c.if-not-is_based.true
    (c.is_based.ensures.only l (sym are.plan.executable)))

pub returns-then-not-is_whole-clause-only : goal.returns-then-not-is_whole-clause-only
returns-then-not-is_whole-clause-only c = λ l are sum placed.
    none_told l c.args.counts.now (placed_of c.args.placement.now) (Some 2) placed
    (list_broken l c.args.counts.now (placed_of c.args.placement.now) c.is_whole.result c.if-not-is_whole.true
    (c.if-not-is_based.ensures.found l (sym are.plan.executable)) (c.is_whole.ensures.only l are))

pub returns-clause-only : goal.returns-clause-only
returns-clause-only c = λ l are sum placed.
    none_told l c.args.counts.now (placed_of c.args.placement.now) c.first_broken.result placed
    (answered l c.args.counts.now (placed_of c.args.placement.now) c.in_ok-kept.kept c.first_broken.result c.first_broken.ensures
    (c.in_ok-kept.ensures l are sum (c.if-not-is_whole.ensures.found l are))
    (c.if-not-is_based.ensures.found l (sym are.plan.executable)) (c.if-not-is_whole.ensures.found l are)).first
