-- Parts of the definitions of `Texts`, by names that proofs use.
use Rattle.std.specs.Prelude.{ℕ, ◌-◌, length}
use Rattle.macho_unwind_pages.specs.Plans.{PlanList}
use Rattle.macho_unwind.specs.Texts.{page_place}

-- the place of the last page, the greatest offset that a section tells
abbrev pub last_place : PlanList → ℕ
last_place plan = page_place plan (length plan.pages - 1)
