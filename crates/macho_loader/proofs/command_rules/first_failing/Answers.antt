-- The command that the walk came to passes; behind the last one all have passed.
use Rattle.std.proofs.Common.{◌≡◌, ◌≤◌, true, length, refl, sym, subst, ◌∙◌, arith}
use Rattle.macho_image_walks.specs.Readings.{listed}
use Rattle.macho_image_walks.specs.Tests.{list_of, test_of}
use Rattle.macho_image_walks.proofs.NumberedWalk.{nth_one}
use Rattle.macho_image_walks.proofs.RuleWalk.{each_by_number}
use Rattle.macho_loader.specs.steps.Cursors.{IsStep}
use Rattle.macho_loader.proofs.ListWalks.{more_below}
use Rattle.macho_loader.proofs.command_rules.first_failing.Goals as goal
use Rattle.macho_model.specs.Commands.{command_at}

pub loop-step-init : goal.loop-step-init
loop-step-init c =
    let none = c.first-at.ensures.none in
    (c.first-at.ensures.at (list_of c.args.asked) c.args.bytes.now, λ k lt. absurd (omega (arith, lt, none)))

pub loop-step-preserved : goal.loop-step-preserved
loop-step-preserved c =
    let b = c.args.bytes.now in
    let step = subst (λ w. IsStep w b c.loop-step.at c.in-Some.step) c.list.ensures (c.in-Some.ensures.found c.in-Some.step refl) in (
      step.next,
      more_below c.loop-step.at.number c.in-Some.step.next.number step.more c.loop-step.invariant.1
          (λ place nth. subst (λ p. test_of c.args.asked b (command_at b p) ≡ true)
          (nth_one (list_of c.args.asked) b c.loop-step.at.number c.in-Some.step.place place step.nth nth)
          (sym c.passes.ensures ∙ c.if-not-passes.false)),
    )

pub returns-clause-only : goal.returns-clause-only
returns-clause-only c _ =
    let b = c.args.bytes.now in
    let past = subst (λ w. length (listed w b) ≤ c.loop-step.at.number) c.list.ensures (c.step_from.ensures.only c.in_default.is) in
    each_by_number b c.args.asked (λ k within place nth. c.loop-step.invariant.1 k (omega (arith, past, nth.within)) place nth)
