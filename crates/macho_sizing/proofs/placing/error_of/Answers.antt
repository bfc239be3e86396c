-- What a layout is refused for, its link is refused for.
use Rattle.std.proofs.Common.{subst, ap, ◌∙◌}
use Rattle.macho_layout.specs.declared.fault.LayoutFault.{LayoutFault}
use Rattle.macho_layout.specs.declared.fault.LayoutFault.TheVariants.{TooLarge}
use Rattle.macho_layout.specs.Laid.{FaultStands}
use Rattle.macho_sizing.specs.steps.Rooms.{kept_counts}
use Rattle.macho_sizing.proofs.Placements.{number_refused, sum_refused, image_refused}
use Rattle.macho_sizing.proofs.placing.error_of.Goals as goal

pub returns-in-TooMany : goal.returns-in-TooMany
returns-in-TooMany c l p counts plan are f =
    number_refused l p counts c.in-TooMany.what c.in-TooMany.number plan
    (subst (λ (x : LayoutFault). FaultStands p (kept_counts counts) x) c.in-TooMany.is f)

pub returns-in-TooLarge-Some : goal.returns-in-TooLarge-Some
returns-in-TooLarge-Some c l p counts plan are f =
    let both = image_refused l p counts c.in-TooLarge-Some.placement plan are
    (subst (λ (x : LayoutFault). FaultStands p (kept_counts counts) x) (c.in-TooLarge-Some.is
    ∙ ap TooLarge c.in-TooLarge-Some.placement-is) f) in
    c.too_large.ensures l counts both.0 both.1

pub returns-in-TooLarge-None : goal.returns-in-TooLarge-None
returns-in-TooLarge-None c l p counts plan are f =
    sum_refused l p counts plan
    (subst (λ (x : LayoutFault). FaultStands p (kept_counts counts) x) (c.in-TooLarge-None.is
    ∙ ap TooLarge c.in-TooLarge-None.placement-is) f)
