-- The section of entries that have addresses.
use Rattle.std.specs.Prelude.{ℕ, ◌+◌, ◌^◌, ◌<◌, ◌≤◌, ◌⊎◌, List, length, All, Contains}
use Rattle.macho_unwind_pages.specs.declared.entries.ResolvedUnwindInfo.{ResolvedUnwindInfo}
use Rattle.macho_unwind_pages.specs.Plans.{HasFarOffset}
use Rattle.macho_unwind.specs.Entries.{FindsEntries, FindsOnlyEntries, FitsTheBound, HasFarPage}
use Rattle.macho_promise.specs.UnwindSays.{IsUnwindText}
use Rattle.macho_synthetic.specs.declared.fault.MadeFault.{MadeFault}
use Rattle.macho_synthetic.specs.declared.fault.MadeFault.TheVariants.{TooLarge, OutOfMemory}

-- Bytes are the section of entries, all of whose ends are told in 32 bits.
pub record IsBuilt (base : ℕ) (entries : List ResolvedUnwindInfo) (bytes : List ℕ) : Type 0 where
  pub exact : IsUnwindText base entries bytes
  pub found : FindsEntries base entries bytes
  pub only : 0 < length entries → FindsOnlyEntries base entries bytes
  pub fits : FitsTheBound entries bytes
  pub near : HasFarOffset base entries → ⊥
  pub ends : All (λ e. e.start + e.length < base + 2 ^ 32) entries

-- some function ends further away
abbrev pub HasFarEnd : ℕ → List ResolvedUnwindInfo → Type 0
HasFarEnd base entries = (e : ResolvedUnwindInfo) × Contains entries e × (base + 2 ^ 32 ≤ e.start + e.length)

-- why there is no such section
abbrev pub IsNotBuilt : ℕ → List ResolvedUnwindInfo → MadeFault → Type 0
IsNotBuilt base entries TooLarge = HasFarEnd base entries ⊎ HasFarOffset base entries ⊎ HasFarPage base entries
IsNotBuilt base entries OutOfMemory = Unit {0}
