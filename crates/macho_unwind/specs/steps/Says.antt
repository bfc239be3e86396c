-- What a plan says of an offset, in the words of its rows: a row is a function's start and its encoding with the number
-- of its personality in bits 28 and 29.
use Rattle.std.specs.Prelude.{◌≡◌, ◌≢◌, ℕ, ◌-◌, ◌≤◌, ◌<◌, List, length, slice_index, All, Contains, Option, Some, None}
use Rattle.macho_unwind_pages.specs.declared.plans.Lsda.{Lsda}
use Rattle.macho_unwind_pages.specs.declared.paging.Row.{Row}
use Rattle.macho_unwind_pages.specs.Plans.{PlanList}
use Rattle.macho_unwind_pages.specs.steps.Words.{rows_of}
use Rattle.macho_unwind.specs.Sections.{personality_in}
use Rattle.macho_unwind.specs.declared.lookup.Found.{Found}
use Rattle.macho_unwind.specs.steps.Sections.{without_personality}

-- A slot of a list by its number from 1 on.
pub record IsSlot (slots : List ℕ) (number slot : ℕ) : Type 0 where
  pub one : 1 ≤ number
  pub there : number ≤ length slots
  pub is : slot ≡ slice_index slots (number - 1)

-- the slot that a number names: none for 0
abbrev pub NamesSlot : List ℕ → ℕ → Option ℕ → Type 0
NamesSlot slots number None = number ≡ 0
NamesSlot slots number (Some slot) = IsSlot slots number slot

-- the LSDA of the function at a start, none where there is none
abbrev pub IsLsdaOf : List Lsda → ℕ → Option ℕ → Type 0
IsLsdaOf lsdas start None = All (λ l. l.function ≢ start) lsdas
IsLsdaOf lsdas start (Some lsda) = Contains lsdas (record { function = start; lsda = lsda })

-- A plan says x of an offset: the offset is below the end, and x is the row with the greatest start not above it.
pub record PlanSays (plan : PlanList) (offset : ℕ) (x : Found) : Type 0 where
  pub row : Row
  pub one : Contains (rows_of plan) row
  pub up_to : row.start ≤ offset
  pub greatest : All (λ r. r.start ≤ offset → r.start ≤ row.start) (rows_of plan)
  pub before_end : offset < plan.end
  pub start : x.start ≡ row.start
  pub cleared : x.encoding ≡ without_personality row.code
  pub personality : NamesSlot plan.personalities (personality_in row.code) x.personality
  pub lsda : IsLsdaOf plan.lsdas row.start x.lsda
