-- One more has passed, and has its number in the list.
use Rattle.std.proofs.Common.{refl, arith}
use Rattle.macho_loader.proofs.cursor.count_listed.Goals as goal

pub loop-step-init : goal.loop-step-init
loop-step-init c = let none = c.first-at.ensures.none in (c.first-at.ensures.at c.args.list c.args.bytes.now, omega (arith, none))

pub loop-step-preserved : goal.loop-step-preserved
loop-step-preserved c =
    let step = c.in-Some.ensures.found c.in-Some.step refl in
    let more = step.more in
    let within = step.nth.within in
    (step.next, omega (arith, more, within))
