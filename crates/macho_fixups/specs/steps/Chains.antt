-- The segment of an address, as the writer passes from segment to segment.
use Rattle.std.specs.Prelude.{ℕ, ◌+◌, ◌<◌, ◌≤◌, List, length, get_or}
use Rattle.macho_fixups.specs.declared.run.FixupSegment.{FixupSegment}
use Rattle.macho_fixups.specs.Runs.{Holds}

-- an address is one of a segment's file part, whose number is not below another
pub record IsSegmentOf (segments : List FixupSegment) (a m : ℕ) : Type 0 where
  pub within : m < length segments
  pub holds : (d : FixupSegment) → Holds (get_or segments m d) a
  pub passed : (j : ℕ) (e : FixupSegment) → j < m → (get_or segments j e).address + (get_or segments j e).file_size ≤ a

-- the first m segments are behind an address
pub record ArePassed (segments : List FixupSegment) (m a : ℕ) : Type 0 where
  pub each : (j : ℕ) (e : FixupSegment) → j < m → (get_or segments j e).address + (get_or segments j e).file_size ≤ a
