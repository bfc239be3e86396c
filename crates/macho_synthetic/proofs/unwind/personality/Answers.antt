use Rattle.std.proofs.Common.{◌≡◌, ap, ◌∙◌}
use Rattle.std.specs.List.{position_or_len}
use Rattle.macho_model.specs.declared.targets.Target.{Target}
use Rattle.macho_model.specs.Targets.{same_target}
use Rattle.macho_consumed.proofs.BoundInputs.{slot_told, no_slot_told}
use Rattle.macho_synthetic.proofs.unwind.personality.Goals as goal
use Rattle.macho_synthetic.proofs.unwind.personality.Goals.{in-Some, in-None}

pub returns : goal.returns
returns g c =
    let look = g.P.Places.look c.args.places.now in
    let slots = c.args.tables.now.slots in
    let told : c.target-target.result ≡ look.target c.args.file c.args.used.relocation.r_symbolnum = c.target-target.ensures in
    let placed : c.match-slot_number.number ≡ position_or_len (same_target c.target-target.result) slots =
    elim c.match-slot_number.branch [
      | in-Some w ↦ w.number-is ∙ slot_told slots c.target-target.result w.in-Some.number w.in-Some.ensures
      | in-None w ↦ w.number-is ∙ w.num_slots-number.ensures ∙ no_slot_told slots c.target-target.result w.in-None.ensures
    ] in
    let id = placed ∙ ap (λ (t : Target). position_or_len (same_target t) slots) told in
    let slot = c.slot.ensures ∙ ap look.slot told in
    λ i. record { id = id i; slot = slot i }
