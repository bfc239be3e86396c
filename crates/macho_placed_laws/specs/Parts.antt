-- Parts that are written one after the other, each into a range of its own.
use Rattle.std.specs.Prelude.{◌≡◌, ℕ, ◌+◌, ◌≤◌, ◌⊎◌, List, [], ◌∷◌, length, slice_index, slice_range, All}
use Rattle.macho_bytes.specs.Texts.{put, Part, end_of, Stands, IsOutside}
use Rattle.macho_model.specs.Zeros.{Span}

-- what stands after these parts were written, in order
abbrev pub written : List Part → List ℕ → List ℕ
written [] bytes = bytes
written (q ∷ parts) bytes = written parts (put q.at q.text bytes)

-- a part lies in a range; an empty one lies in any
abbrev pub LiesInRange : Part → Span → Type 0
LiesInRange q s = (length q.text ≡ 0) ⊎ ((s.start ≤ q.at) × (end_of q ≤ s.start + s.size))

-- parts lie in ranges, one by one
abbrev pub LieInRanges : List Part → List Span → Type 0
LieInRanges [] [] = Unit {0}
LieInRanges [] (s ∷ spans) = ⊥
LieInRanges (q ∷ parts) [] = ⊥
LieInRanges (q ∷ parts) (s ∷ spans) = LiesInRange q s × LieInRanges parts spans

-- Each part stands in a file of n bytes, and every byte in none of them is 0.
pub record IsMadeOf (n : ℕ) (parts : List Part) (b : List ℕ) : Type 0 where
  pub size : length b ≡ n
  pub each : All (Stands b) parts
  pub rest : (i : ℕ) → All (IsOutside i) parts → slice_index b i ≡ 0

-- what stands now where a part stood
abbrev pub part_now : List ℕ → Part → Part
part_now b q = record { at = q.at; text = slice_range b q.at (end_of q) }
