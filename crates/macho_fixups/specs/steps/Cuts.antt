-- Where a sorted run of fixups is cut: in front of an address.
use Rattle.std.specs.Prelude.{◌≡◌, ℕ, ◌+◌, ◌<◌, ◌≤◌, List, length, get_or}
use Rattle.macho_fixups.specs.declared.run.Fixup.{Fixup}
use Rattle.macho_fixups.specs.declared.run.FixupSegment.{FixupSegment}
use Rattle.macho_fixups.specs.declared.run.SegmentRun.{SegmentRun}
use Rattle.macho_fixups.specs.Runs.{pages_of}

-- the fixups from one to another are below an address
pub record AreBelowFrom (fixups : List Fixup) (from bound to : ℕ) : Type 0 where
  pub each : (k : ℕ) (d : Fixup) → from ≤ k → k < to → (get_or fixups k d).address < bound

-- they are, and the next one isn't
pub record IsSkip (fixups : List Fixup) (from bound to : ℕ) : Type 0 where
  pub onward : from ≤ to
  pub within : to ≤ length fixups
  pub below : AreBelowFrom fixups from bound to
  pub stops : (d : Fixup) → to < length fixups → bound ≤ (get_or fixups to d).address

-- the first n fixups are below an address
pub record AreBelow (fixups : List Fixup) (n bound : ℕ) : Type 0 where
  pub each : (k : ℕ) (d : Fixup) → k < n → (get_or fixups k d).address < bound

-- they are, and no other one is
pub record IsCut (fixups : List Fixup) (n bound : ℕ) : Type 0 where
  pub within : n ≤ length fixups
  pub below : (k : ℕ) (d : Fixup) → k < n → (get_or fixups k d).address < bound
  pub above : (k : ℕ) (d : Fixup) → n ≤ k → k < length fixups → bound ≤ (get_or fixups k d).address

-- a fixup is next, and it is below an address
abbrev pub IsNextBelow : List Fixup → ℕ → ℕ → Type 0
IsNextBelow fixups next bound = (next < length fixups) × ((d : Fixup) → (get_or fixups next d).address < bound)

-- none is, or it isn't below
abbrev pub IsNoneBelow : List Fixup → ℕ → ℕ → Type 0
IsNoneBelow fixups next bound = (d : Fixup) → next < length fixups → bound ≤ (get_or fixups next d).address

-- the fixups of a segment end in front of a number, and its pages up to the last one are so many
pub record IsRunOf (fixups : List Fixup) (s : FixupSegment) (run : SegmentRun) : Type 0 where
  pub end_at : IsCut fixups run.end (s.address + s.file_size)
  pub counted : run.pages ≡ pages_of s fixups
