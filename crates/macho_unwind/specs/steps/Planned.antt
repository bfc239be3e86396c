-- A section before it is bytes: how many it will have.
use Rattle.std.specs.Prelude.{◌≡◌, ℕ, Option, None, Some}
use Rattle.macho_unwind_pages.specs.declared.plans.Plan.{Plan}
use Rattle.macho_unwind_pages.specs.Plans.{IsPlan, plan_list, size_of}
use Rattle.macho_unwind.specs.Texts.{HasPlaces}

-- A plan can be written, and takes so many bytes.
pub record IsSized (plan : Plan) (size : ℕ) : Type 0 where
  pub formed : IsPlan (plan_list plan)
  pub places : HasPlaces (plan_list plan)
  pub is : size ≡ size_of (plan_list plan)

-- so many bytes are those of a plan that can be written, or none
abbrev pub HasSize : Option Plan → ℕ → Type 0
HasSize None size = size ≡ 0
HasSize (Some plan) size = IsSized plan size
