-- The imports of the table that the walk came to fit; behind the last one those of all do.
use Rattle.std.proofs.Common.{refl, arith}
use Rattle.macho_image_walks.specs.declared.walk.Listed.TheVariants as list
use Rattle.macho_image_walks.proofs.RuleWalk.{import_fails, same_table, each_import}
use Rattle.macho_loader.proofs.ListWalks.{more_below}
use Rattle.macho_loader.proofs.import_rules.first_bad_import.Goals as goal

pub loop-step-init : goal.loop-step-init
loop-step-init c =
    let none = c.first-at.ensures.none in
    (c.first-at.ensures.at list.Tables c.args.bytes.now, λ k lt. absurd (omega (arith, lt, none)))

pub returns-in-Some-bad_import_in-clause-found : goal.returns-in-Some-bad_import_in-clause-found
returns-in-Some-bad_import_in-clause-found c place is =
    let step = c.in-Some.ensures.found c.in-Some.step refl in
    import_fails c.args.bytes.now c.loop-step.at.number c.in-Some.step.place place step.nth
    (c.in-Some-bad_import_in.ensures.found place is)

pub loop-step-preserved : goal.loop-step-preserved
loop-step-preserved c =
    let step = c.in-Some.ensures.found c.in-Some.step refl in (
      step.next,
      more_below c.loop-step.at.number c.in-Some.step.next.number step.more c.loop-step.invariant.1
          (λ place nth. same_table c.args.bytes.now c.loop-step.at.number place c.in-Some.step.place nth step.nth
          (c.bad_import_in.ensures.only c.in_default-bad_import_in.is)),
    )

pub returns-clause-only : goal.returns-clause-only
returns-clause-only c _ =
    let past = c.step_from.ensures.only c.in_default.is in
    each_import c.args.bytes.now (λ k within place nth. c.loop-step.invariant.1 k (omega (arith, past, nth.within)) place nth)
