-- The range of the thread-local template that a layout tells.
use Rattle.macho_model.specs.declared.placed.Counts.{Counts}
use Rattle.macho_model.specs.Links.{Link}
use Rattle.macho_model.specs.Placement.{Placed}
use Rattle.macho_layout.specs.Plans.{Planning, IsPlanOf}
use Rattle.macho_layout.specs.Sums.{FitsLimits}
use Rattle.macho_layout.specs.Laid.{IsLaidOut}
use Rattle.macho_image_laws.specs.Template.{TemplateIsTight}

-- it is no wider than its sections
abbrev pub TemplatesAreTight : Type 0
TemplatesAreTight =
    (l : Link) (plan : Planning) (counts : Counts) (p : Placed) → IsPlanOf l plan → FitsLimits plan counts → IsLaidOut plan counts p
    → TemplateIsTight l p p.template
