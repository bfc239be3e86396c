-- How often a device has failed. A count only tells that an answer of a failure has its cause outside.
use Rattle.std.specs.Prelude.{◌≡◌, ℕ, ◌+◌, ◌-◌, ◌^◌, ◌<◌, ◌≤◌, min, ◌⊎◌}
use Rattle.macho_devices.specs.declared.file_system.FileFault.{FileFault}
use Rattle.macho_devices.specs.declared.file_system.FileFault.TheVariants.{Failed, OutOfMemory}

-- the last value of a count, which is a number of 64 bits: there it stays
abbrev pub last_count : ℕ
last_count = 2 ^ 64 - 1

-- a count after one call more
abbrev pub one_more : ℕ → ℕ
one_more count = min (count + 1) last_count

-- A count goes on: it never falls, and never passes its last value.
pub record CountsOn (old new : ℕ) : Type 0 where
  pub never_falls : old ≤ new
  pub never_passes : old ≤ last_count → new ≤ last_count

-- The count rose in this call, or it stood at its last value and could not rise.
abbrev pub CountRose : ℕ → ℕ → Type 0
CountRose old new = (old < new) ⊎ (old ≡ last_count)

-- A failed call raised its own count; want of memory is no failure of the device and leaves the count.
abbrev pub HasCause : FileFault → ℕ → ℕ → Type 0
HasCause Failed old new = CountRose old new
HasCause OutOfMemory old new = new ≡ old
