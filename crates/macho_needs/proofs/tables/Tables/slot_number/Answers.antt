use Rattle.std.proofs.Common.{◌∙◌, ap, map, position}
use Rattle.macho_model.specs.Targets.{same_target}
use Rattle.macho_needs.specs.Tables.{Numbered, target_of}
use Rattle.macho_needs.proofs.Mapped.{slot_found}
use Rattle.macho_needs.proofs.tables.Tables.slot_number.Goals as goal

pub returns : goal.returns
returns c = c.get_index_of.ensures.index ∙ slot_found c.self.inside.slots.keys c.key.result
    ∙ ap (λ t. position (same_target t) (map target_of c.self.inside.slots.keys)) c.key.ensures
    ∙ ap (λ (t : Numbered). position (same_target c.args.target) t.slots) c.self.view_is
