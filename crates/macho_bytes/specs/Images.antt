-- An image: a list of bytes made of parts, zero everywhere else.
use Rattle.std.specs.Prelude.{◌≡◌, ℕ, List, length, slice_index, replicate, All}
use Rattle.macho_bytes.specs.Texts.{Part, Stands, IsOutside}

-- so many zeros
abbrev pub zeros : ℕ → List ℕ
zeros n = replicate n 0

-- n bytes in which each part stands, and in which every byte outside the parts is zero
pub record IsImage (n : ℕ) (parts : List Part) (bytes : List ℕ) : Type 0 where
  pub size : length bytes ≡ n
  pub each : All (Stands bytes) parts
  pub rest : (i : ℕ) → All (IsOutside i) parts → slice_index bytes i ≡ 0
