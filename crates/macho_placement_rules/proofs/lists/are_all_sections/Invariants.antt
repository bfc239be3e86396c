-- What holds before number k: the first k are those of the plan.
use Rattle.std.proofs.Common.{◌≡◌, ℕ, ◌<◌, get_or}
use Rattle.macho_model.specs.Placement.{id_of}
use Rattle.macho_model.specs.declared.placed.PlacedSection.{PlacedSection}
use Rattle.macho_layout.specs.declared.spec.SectionSpec.{SectionSpec}
use Rattle.macho_placement_rules.specs.steps.Lists.{spec_id}
use Rattle.macho_placement_rules.proofs.lists.are_all_sections.Given as goal

abbrev pub invariant-loop-number : goal.invariant-loop-number
invariant-loop-number l =
    (k : ℕ) (d : PlacedSection) (e : SectionSpec) → k < l.number → id_of (get_or l.sections k d) ≡ spec_id (get_or l.specs k e)
