-- Names that can be written.
use Rattle.std.specs.Prelude.{ℕ, ◌<◌, ◌≤◌, List, length, slice_index}

-- A name of bytes without a NUL.
pub record IsPlain (name : List ℕ) : Type 0 where
  pub plain : (k : ℕ) → k < length name → (1 ≤ slice_index name k) × (slice_index name k < 256)
