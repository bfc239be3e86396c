-- What holds before number k: the first k lie in their segments.
use Rattle.std.proofs.Common.{ℕ, ◌<◌, get_or}
use Rattle.macho_model.specs.declared.placed.PlacedSection.{PlacedSection}
use Rattle.macho_layout.specs.declared.spec.SectionSpec.{SectionSpec}
use Rattle.macho_placement_rules.specs.steps.Lying.{HoldsSection}
use Rattle.macho_placement_rules.proofs.sections.sections_in.Given as goal

abbrev pub invariant-loop-number : goal.invariant-loop-number
invariant-loop-number l =
    (k : ℕ) (d : PlacedSection) (e : SectionSpec) → k < l.number → HoldsSection l.segments (get_or l.sections k d) (get_or l.specs k e)
