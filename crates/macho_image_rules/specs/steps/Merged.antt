-- What a walk over two rising lists of numbers keeps.
use Rattle.std.specs.Prelude.{◌≡◌, ℕ, ◌<◌, ◌≤◌, List, length, get_or}

-- The first i numbers of one list are the first n of another, each perhaps several times there.
pub record IsMerged (xs ys : List ℕ) (i n : ℕ) : Type 0 where
  pub within : i ≤ length xs
  pub each : (k : ℕ) → k < i → (m : ℕ) × (m < n) × (get_or ys m 0 ≡ get_or xs k 0)
  pub all : (m : ℕ) → m < n → (k : ℕ) × (k < i) × (get_or xs k 0 ≡ get_or ys m 0)
