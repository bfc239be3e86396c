-- What holds before number k: the range suits the first k sections.
use Rattle.std.proofs.Common.{ℕ, ◌<◌, get_or}
use Rattle.macho_model.specs.declared.placed.PlacedSection.{PlacedSection}
use Rattle.macho_layout.specs.declared.spec.SectionSpec.{SectionSpec}
use Rattle.macho_placement_rules.specs.steps.Template.{Suits}
use Rattle.macho_placement_rules.proofs.template.suits_each.Given as goal

abbrev pub invariant-loop-number : goal.invariant-loop-number
invariant-loop-number l =
    (k : ℕ) (d : PlacedSection) (e : SectionSpec) → k < l.number → Suits l.range (get_or l.sections k d) (get_or l.specs k e)
