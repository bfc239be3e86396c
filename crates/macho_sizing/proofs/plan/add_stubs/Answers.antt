-- Each stub adds what one more adds.
use Rattle.macho_sizing.proofs.Adding.{stubs_more, slot_at}
use Rattle.macho_model.specs.declared.targets.Target.TheVariants as target
use Rattle.macho_sizing.proofs.plan.add_stubs.Goals as goal

pub loop-number-preserved : goal.loop-number-preserved
loop-number-preserved c =
    let stubs = c.args.tables.now.stubs in
    let k = c.loop-number.number in
    let at = slot_at stubs k (target.Import c.in-Some.import) c.in-Some.ensures in
    stubs_more c.args.tables.now.slots stubs k (target.Import c.in-Some.import)
    (record { import = c.in-Some.import; slot = c.in_ok-slot.slot })
    c.args.plan.now c.loop-number.plan c.add_stub.new.self at.0 at.1 c.in_ok-slot.ensures c.loop-number.invariant
    c.in_ok-add_stub.ensures.done
