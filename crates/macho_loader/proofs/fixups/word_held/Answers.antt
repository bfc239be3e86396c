-- The segment that the walk came to has no word there.
use Rattle.std.proofs.Common.{refl, subst, arith}
use Rattle.macho_image_walks.specs.declared.walk.Listed.TheVariants as list
use Rattle.macho_image_walks.specs.Readings.{HasWord, segment_there}
use Rattle.macho_image_walks.proofs.NumberedWalk.{nth_one}
use Rattle.macho_loader.proofs.ListWalks.{more_below}
use Rattle.macho_loader.proofs.fixups.word_held.Goals as goal

pub loop-step-init : goal.loop-step-init
loop-step-init c =
    let none = c.first-at.ensures.none in
    (c.first-at.ensures.at list.Segments c.args.bytes.now, λ k lt. absurd (omega (arith, lt, none)))

pub loop-step-preserved : goal.loop-step-preserved
loop-step-preserved c =
    let b = c.args.bytes.now in
    let step = c.in-Some.ensures.found c.in-Some.step refl in (
      step.next,
      more_below c.loop-step.at.number c.in-Some.step.next.number step.more c.loop-step.invariant.1
          (λ place word nth has. absurd (c.in_default-word_of.not-Some word (c.word_of.ensures.only word
          (subst (λ p. HasWord b (segment_there b p) c.args.address word)
          (nth_one list.Segments b c.loop-step.at.number place c.in-Some.step.place nth step.nth) has)))),
    )
