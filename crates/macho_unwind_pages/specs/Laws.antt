-- Laws of plans, and of the ids that entries name.
use Rattle.std.specs.Prelude.{◌≡◌, ℕ, ◌<◌, ◌≤◌, ◌↔◌, Some, List, length, Contains}
use Rattle.std.specs.List.{AllPairs, range_with_len}
use Rattle.macho_unwind_pages.specs.declared.entries.UnwindInput.{UnwindInput}
use Rattle.macho_unwind_pages.specs.declared.entries.ResolvedUnwindInfo.{ResolvedUnwindInfo}
use Rattle.macho_unwind_pages.specs.Entries.{AreEntries, SpansAtMost, inputs_of, ids_of}
use Rattle.macho_unwind_pages.specs.Bounds.{most_pages, unwind_bound_of}
use Rattle.macho_unwind_pages.specs.Plans.{PlanList, IsPlanOf, size_of}

-- one entry or more have one plan at most
abbrev pub PlansAreOne : Type 0
PlansAreOne =
    (text : ℕ) (entries : List ResolvedUnwindInfo) (p q : PlanList) → 0 < length entries
    → IsPlanOf text entries p → IsPlanOf text entries q → p ≡ q

-- a plan has no more pages than are told before, for any span that the starts keep to
abbrev pub HasFewPages : List ResolvedUnwindInfo → PlanList → Type 0
HasFewPages entries plan = (span : ℕ) → SpansAtMost span entries → length plan.pages ≤ most_pages (inputs_of entries) span

-- and no more bytes
abbrev pub IsShort : List ResolvedUnwindInfo → PlanList → Type 0
IsShort entries plan = (span : ℕ) → SpansAtMost span entries → size_of plan ≤ unwind_bound_of (inputs_of entries) span

-- the room that is told before suffices for a plan of one entry or more
abbrev pub PlansAreShort : Type 0
PlansAreShort =
    (text : ℕ) (entries : List ResolvedUnwindInfo) (plan : PlanList) → 0 < length entries → AreEntries text entries
    → IsPlanOf text entries plan → HasFewPages entries plan × IsShort entries plan

-- an entry names an id
abbrev pub Names : List UnwindInput → ℕ → Type 0
Names entries id = (e : UnwindInput) × Contains entries e × (e.personality ≡ Some id)

-- The ids rise, so each stands once, and they are those that entries name.
pub record AreIdsOf (entries : List UnwindInput) (ids : List ℕ) : Type 0 where
  pub rising : AllPairs (λ a b. a < b) ids
  pub named : (id : ℕ) → Contains ids id ↔ Names entries id

abbrev pub IdsAreNamed : Type 0
IdsAreNamed = (entries : List UnwindInput) → AreIdsOf entries (ids_of entries)

-- where entries name the numbers below n and no others, these are their ids
abbrev pub IdsAreNumbers : Type 0
IdsAreNumbers =
    (entries : List UnwindInput) (n : ℕ) → ((id : ℕ) → (id < n) ↔ Names entries id) → ids_of entries ≡ range_with_len 0 n
