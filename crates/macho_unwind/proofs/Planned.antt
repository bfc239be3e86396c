-- How many bytes a section has, by its plan.
--
-- Without a plan there are none. With one they are the plan's text, which has the size that the plan says.
use Rattle.std.proofs.Common.{◌≡◌, ℕ, Option, None, Some, length, sym, ◌∙◌}
use Rattle.macho_unwind_pages.specs.declared.plans.Plan.{Plan}
use Rattle.macho_unwind_pages.specs.Plans.{plan_list}
use Rattle.macho_unwind.specs.Texts.{planned_text}
use Rattle.macho_unwind.specs.steps.Planned.{HasSize}
use Rattle.macho_unwind.proofs.Lengths.{length-section}

-- the size that is kept is that of the bytes
pub planned_long : (plan : Option Plan) (size : ℕ) → HasSize plan size → size ≡ length (planned_text plan)
planned_long None size has = has
planned_long (Some plan) size has = has.is ∙ sym (length-section (plan_list plan))
