-- The segment that the walk came to begins behind the one before it; behind the last one all do.
use Rattle.std.proofs.Common.{◌≡◌, ◌+◌, ◌-◌, ◌≤◌, refl, sym, ap, subst, ◌∙◌, arith}
use Rattle.std.specs.Prelude.{unwrap_or}
use Rattle.macho_image_walks.specs.declared.walk.Listed.TheVariants as list
use Rattle.macho_image_walks.specs.Readings.{IsNth}
use Rattle.macho_image_walks.specs.steps.Asked.{BeginsBefore}
use Rattle.macho_image_walks.proofs.RuleWalk.{neighbour_fails, neighbours_by_number}
use Rattle.macho_loader.proofs.ListWalks.{order_more}
use Rattle.macho_loader.proofs.command_rules.first_overlapping.Goals as goal
use Rattle.macho_loader.proofs.command_rules.first_overlapping.Goals.{else-at-gt0-via-then-at-gt0+else-not-follows, else-at-gt0-via-else-at-gt0}

pub loop-step-init : goal.loop-step-init
loop-step-init c =
    let none = c.first-at.ensures.none in (
      c.first-at.ensures.at list.Segments c.args.bytes.now,
      λ some. absurd (omega (arith, some, none)),
      λ k lt. absurd
          (omega (arith, lt, none)),
    )

pub returns-then-not-follows-clause-found : goal.returns-then-not-follows-clause-found
returns-then-not-follows-clause-found c place is =
    let b = c.args.bytes.now in
    let positive = c.if-at-gt0.true in
    let some : 1 ≤ c.loop-step.at.number = omega (arith, positive) in
    let step = c.in-Some.ensures.found c.in-Some.step refl in
    let same : c.loop-step.at.number ≡ c.loop-step.at.number - 1 + 1 = omega (arith, some) in
    subst (λ p. BeginsBefore b p) (ap (λ o. unwrap_or o place) is)
    (neighbour_fails b (c.loop-step.at.number - 1) c.loop-step.last c.in-Some.step.place (c.loop-step.invariant.1 some)
    (subst (λ j. IsNth list.Segments b j c.in-Some.step.place) same step.nth) (sym c.follows.ensures ∙ c.if-not-follows.true))

pub loop-step-preserved : goal.loop-step-preserved
loop-step-preserved c =
    let b = c.args.bytes.now in
    let step = c.in-Some.ensures.found c.in-Some.step refl in
    let before : c.loop-step.at.number ≡ c.in-Some.step.next.number - 1 = omega (arith, step.more) in (
      step.next,
      λ _. subst (λ j. IsNth list.Segments b j c.in-Some.step.place) before step.nth,
      order_more b c.loop-step.at.number c.in-Some.step.next.number c.loop-step.last c.in-Some.step.place step.more c.loop-step.invariant.1
          step.nth c.loop-step.invariant.2
          (λ some. elim c.else-at-gt0.branch [
            | else-at-gt0-via-then-at-gt0+else-not-follows w ↦ sym w.follows.ensures ∙ w.if-not-follows.false
            | else-at-gt0-via-else-at-gt0 w ↦ let none = w.if-at-gt0.false in absurd (omega (arith, some, none))
          ]),
    )

pub returns-clause-only : goal.returns-clause-only
returns-clause-only c _ =
    let past = c.step_from.ensures.only c.in_default.is in
    neighbours_by_number c.args.bytes.now (λ k within first second at_first at_second.
    c.loop-step.invariant.2 k (omega (arith, past, at_second.within)) first second at_first at_second)
