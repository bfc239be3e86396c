-- The number that is found is the place among slots, and so is the number of slots where none is found.
use Rattle.std.proofs.Common.{◌∙◌}
use Rattle.macho_model.specs.declared.targets.Target.TheVariants as target
use Rattle.macho_consumed.proofs.BoundInputs.{slot_told, no_slot_told}
use Rattle.macho_sizing.proofs.plan.slot_of_import.Goals as goal
use Rattle.macho_sizing.proofs.plan.slot_of_import.Goals.{in-Some, in-None}

pub returns : goal.returns
returns c =
    let slots = c.args.tables.now.slots in
    elim c.match-slot_number.branch [
      | in-Some w ↦ w.number-is ∙ slot_told slots (target.Import c.args.import) w.in-Some.number w.in-Some.ensures
      | in-None w ↦ w.number-is ∙ w.num_slots-number.ensures ∙ no_slot_told slots (target.Import c.args.import) w.in-None.ensures
    ]
