-- The segment that the walk came to has the number; one that fails makes the answer false, at the end all have passed.
use Rattle.std.proofs.Common.{◌+◌, refl, sym, subst, ◌∙◌, arith}
use Rattle.macho_model.specs.Images.{starts_count}
use Rattle.macho_model.specs.LoadRules.{starts_fit}
use Rattle.macho_image_walks.specs.declared.walk.Listed.TheVariants as list
use Rattle.macho_image_walks.specs.Readings.{table_there, IsNth}
use Rattle.macho_model.proofs.EachBelow.{fails_below, pass_below}
use Rattle.macho_image_walks.proofs.ListedLaws.{address_found, count_of_segments}
use Rattle.macho_loader.proofs.ListWalks.{more_below, starts_have_segments}
use Rattle.macho_loader.proofs.table_rules.all_starts_are_right.Goals as goal

pub loop-number-init : goal.loop-number-init
loop-number-init c = (c.first-at.ensures.at list.Segments c.args.bytes.now, c.first-at.ensures.none, λ k lt. absurd (omega (arith, lt)))

pub starts_are_right-requires-clause-of : goal.starts_are_right-requires-clause-of
starts_are_right-requires-clause-of c =
    let step = c.in-Some.ensures.found c.in-Some.step refl in
    address_found c.args.bytes.now c.loop-number.number c.in-Some.step.place c.segment_at-address.result.address
    (subst (λ j. IsNth list.Segments c.args.bytes.now j c.in-Some.step.place) c.loop-number.invariant.1 step.nth)
    c.segment_at-address.ensures.address

pub returns-then-not-starts_are_right : goal.returns-then-not-starts_are_right
returns-then-not-starts_are_right c =
    let b = c.args.bytes.now in
    let t = table_there b c.args.place in
    let end = c.count_of_starts-number-end.ensures in
    let within = c.loop-number-test.true in
    sym (fails_below (starts_count b t) (starts_fit b t) c.loop-number.number (omega (arith, end, within))
    (sym c.starts_are_right.ensures ∙ c.if-not-starts_are_right.true))

pub unreachable-requires : goal.unreachable-requires
unreachable-requires c =
    let b = c.args.bytes.now in
    let end = c.count_of_starts-number-end.ensures in
    let within = c.loop-number-test.true in
    let past = c.step_from.ensures.only c.in-None.is in
    let there = starts_have_segments b (table_there b c.args.place) c.requires in
    omega (arith, end, within, past, there, c.loop-number.invariant.1, count_of_segments b)

pub loop-number-preserved : goal.loop-number-preserved
loop-number-preserved c =
    let step = c.in-Some.ensures.found c.in-Some.step refl in (
      step.next,
      omega (arith, step.more, c.loop-number.invariant.1),
      more_below c.loop-number.number (c.loop-number.number + 1) refl c.loop-number.invariant.2
          (sym c.starts_are_right.ensures ∙ c.if-not-starts_are_right.false),
    )

pub returns : goal.returns
returns c =
    let b = c.args.bytes.now in
    let t = table_there b c.args.place in
    let end = c.count_of_starts-number-end.ensures in
    let past = c.loop-number-test.false in
    sym (pass_below (starts_count b t) (starts_fit b t) (λ k lt. c.loop-number.invariant.2 k (omega (arith, end, past, lt))))
