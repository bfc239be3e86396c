-- Blocks one behind the other, each at the least place that its alignment allows.
use Rattle.std.specs.Prelude.{◌≡◌, ℕ, ◌+◌, ◌^◌, List, [], ◌∷◌}
use Rattle.macho_bytes.specs.Numbers.{rounded_up}

-- A block: the place of its first byte, its bytes, and its alignment as an exponent of 2.
pub record Block : Type 0 where
  pub start : ℕ
  pub size : ℕ
  pub exponent : ℕ

-- from a place on, each block stands at the least multiple of its alignment behind the one before it; the last ends at `to`
abbrev pub StandLeast : ℕ → List Block → ℕ → Type 0
StandLeast n [] m = n ≡ m
StandLeast n (b ∷ bs) m = (b.start ≡ rounded_up (2 ^ b.exponent) n) × StandLeast (b.start + b.size) bs m

pub record IsStack (start : ℕ) (blocks : List Block) (end : ℕ) : Type 0 where
  pub least : StandLeast start blocks end
