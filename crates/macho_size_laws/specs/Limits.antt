-- The limits that sizes and a placement keep.
use Rattle.std.specs.Prelude.{ℕ, ◌<◌, Some, None, Contains}
use Rattle.macho_model.specs.declared.placed.Counts.{Counts}
use Rattle.macho_model.specs.declared.placed.PlacedSegment.{PlacedSegment}
use Rattle.macho_model.specs.declared.placed.Range64.{Range64}
use Rattle.macho_model.specs.declared.targets.Limit.{Limit}
use Rattle.macho_model.specs.Links.{Link}
use Rattle.macho_model.specs.Placement.{Placed, linkedit_ranges}
use Rattle.macho_model.specs.Limits.{PassesLimit, IsTooLarge, LIMIT_32}

-- No number passes a limit, and no file offset or size of the placement passes 32 bits. What is left that an image may be too
-- large by are the offsets of initializers and of unwind entries.
pub record LimitsHold (l : Link) (counts : Counts) (p : Placed) : Type 0 where
  pub numbers : (what : Limit) (number : ℕ) → PassesLimit l counts what number None → ⊥
  pub pages : (what : Limit) (number : ℕ) → PassesLimit l counts what number (Some p) → ⊥
  pub sum : IsTooLarge l counts None → ⊥
  pub files : (s : PlacedSegment) → Contains p.segments s → (s.file_offset < LIMIT_32) × (s.file_size < LIMIT_32)
  pub ranges : (r : Range64) → Contains (linkedit_ranges p) r → r.end < LIMIT_32
