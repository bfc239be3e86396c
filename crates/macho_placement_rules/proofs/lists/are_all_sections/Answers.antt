-- Whether the sections are those of a link's plan.
--
-- They are as many, and each is that of its number; one that isn't shows that the lists differ.
use Rattle.std.proofs.Common.{sym, ◌∙◌, arith}
use Rattle.macho_model.specs.Placement.{id_of}
use Rattle.macho_placement_rules.specs.steps.Lists.{spec_id}
use Rattle.macho_placement_rules.specs.steps.Pieces.{no_section, no_spec}
use Rattle.macho_placement_rules.proofs.Same.{maps_same, same_at, planned_ids}
use Rattle.macho_placement_rules.proofs.lists.are_all_sections.Goals as goal

pub returns-then-not-is_same-clause-only : goal.returns-then-not-is_same-clause-only
returns-then-not-is_same-clause-only c = λ l told same.
    sym c.if-not-is_same.true ∙ c.is_same.ensures.only (same_at id_of spec_id c.args.sections.now c.args.specs.now no_section no_spec
    c.loop-number.number (same ∙ sym (planned_ids l c.args.specs.now told)) c.loop-number-test.true)

pub returns-clause-found : goal.returns-clause-found
returns-clause-found c = λ l told.
    maps_same id_of spec_id c.args.sections.now c.args.specs.now no_section no_spec (omega arith)
    (λ k low. c.loop-number.invariant k no_section no_spec (omega arith)) ∙ planned_ids l c.args.specs.now told
