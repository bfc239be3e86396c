-- Each slot adds what one more adds.
use Rattle.std.proofs.Common.{[], ◌∷◌, ◌++◌, take, sym, ap, ◌∙◌}
use Rattle.std.proofs.lemmas.List.{take_more}
use Rattle.macho_model.specs.declared.targets.Target.{Target}
use Rattle.macho_sizing.proofs.Adding.{with_slots, slots_both, slot_at}
use Rattle.macho_sizing.proofs.plan.add_slots.Goals as goal

pub loop-number-preserved : goal.loop-number-preserved
loop-number-preserved c =
    let slots = c.args.tables.now.slots in
    let k = c.loop-number.number in
    let at = slot_at slots k c.in-Some.target c.in-Some.ensures in
    slots_both c.args.plan.now c.loop-number.plan c.add_slot.new.self (take k slots) (c.in-Some.target ∷ [])
    c.loop-number.invariant c.in_ok-add_slot.ensures.done
    ∙ ap (λ (t : Target). with_slots c.args.plan.now (take k slots ++ t ∷ [])) (sym at.1)
    ∙ ap (with_slots c.args.plan.now) (sym (take_more slots k c.in-Some.target at.0))
