-- What the calls answer.
use Rattle.std.specs.Prelude.{◌≡◌, ℕ, ◌^◌, ◌<◌, ◌≤◌, Option, None, Some, List, length}
use Rattle.macho_unwind_pages.specs.declared.entries.UnwindInput.{UnwindInput}
use Rattle.macho_unwind_pages.specs.declared.entries.ResolvedUnwindInfo.{ResolvedUnwindInfo}
use Rattle.macho_unwind_pages.specs.declared.entries.UnwindFault.{UnwindFault}
use Rattle.macho_unwind_pages.specs.declared.entries.UnwindFault.TheVariants.{TooManyPersonalities, OffsetTooLarge, OutOfMemory}
use Rattle.macho_unwind_pages.specs.Entries.{MOST_PERSONALITIES, inputs_of, ids_of}
use Rattle.macho_unwind_pages.specs.Bounds.{unwind_bound_of}
use Rattle.macho_unwind_pages.specs.Plans.{HasFarOffset}

-- the entries name more personality functions than a section has
abbrev pub HasTooMany : List UnwindInput → Type 0
HasTooMany entries = MOST_PERSONALITIES < length (ids_of entries)

-- Why a size isn't told: too many personality functions, or else a bound that doesn't fit 32 bits.
abbrev pub SizeFault : List UnwindInput → ℕ → UnwindFault → Type 0
SizeFault entries span TooManyPersonalities = HasTooMany entries
SizeFault entries span OffsetTooLarge =
    (length (ids_of entries) ≤ MOST_PERSONALITIES) × (2 ^ 32 ≤ unwind_bound_of entries span)
SizeFault entries span OutOfMemory = Unit {0}

-- Why a bound isn't told: too many personality functions.
abbrev pub BoundFault : List UnwindInput → UnwindFault → Type 0
BoundFault entries TooManyPersonalities = HasTooMany entries
BoundFault entries OffsetTooLarge = ⊥
BoundFault entries OutOfMemory = Unit {0}

-- the bound, and none where it is 2^64 or more
abbrev pub TellsBound : List UnwindInput → ℕ → Option ℕ → Type 0
TellsBound entries span None = 2 ^ 64 ≤ unwind_bound_of entries span
TellsBound entries span (Some bound) = bound ≡ unwind_bound_of entries span

-- Why entries have no plan: too many personality functions, or else an offset that doesn't fit 32 bits.
abbrev pub PlanFault : ℕ → List ResolvedUnwindInfo → UnwindFault → Type 0
PlanFault text entries TooManyPersonalities = HasTooMany (inputs_of entries)
PlanFault text entries OffsetTooLarge =
    (length (ids_of (inputs_of entries)) ≤ MOST_PERSONALITIES) × HasFarOffset text entries
PlanFault text entries OutOfMemory = Unit {0}
