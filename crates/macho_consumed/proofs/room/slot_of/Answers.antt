use Rattle.std.proofs.Common.{ap, ◌∙◌, sym}
use Rattle.macho_model.specs.Targets.{target_of}
use Rattle.macho_consumed.specs.steps.Inputs.{number_of_target}
use Rattle.macho_consumed.proofs.BoundInputs.{slot_told, no_slot_told, number_is}
use Rattle.macho_consumed.proofs.room.slot_of.Goals as goal

pub returns-in-Some : goal.returns-in-Some
unfolding target_of
returns-in-Some c = λ l noted.
    number_is l c.args.needs.now.tables.slots c.target-target.result c.args.entry.file c.in_ok-used.used c.in-Some.number
    (slot_told c.args.needs.now.tables.slots c.target-target.result c.in-Some.number c.in-Some.ensures)
    (c.target-target.ensures l _ noted.imports) noted.slots
    ∙ ap (number_of_target l c.args.entry.file) (sym c.in_ok-used.was)

pub returns-in-None : goal.returns-in-None
unfolding target_of
returns-in-None c = λ l noted.
    number_is l c.args.needs.now.tables.slots c.target-target.result c.args.entry.file c.in_ok-used.used c.num_slots.result
    (c.num_slots.ensures ∙ no_slot_told c.args.needs.now.tables.slots c.target-target.result c.in-None.ensures)
    (c.target-target.ensures l _ noted.imports) noted.slots
    ∙ ap (number_of_target l c.args.entry.file) (sym c.in_ok-used.was)
