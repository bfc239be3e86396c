-- Texts at places of a list of bytes: what stands there, and what a write there makes.
use Rattle.std.specs.Prelude.{◌≡◌, ℕ, ◌+◌, ◌≤◌, ◌==◌, ◌⊎◌, List, ◌++◌, length, take, drop, slice_range}
use Rattle.std.specs.List.{before_first}

-- the list with a text in place of what stood from a place on
unfoldable pub put : ℕ → List ℕ → List ℕ → List ℕ
put at text bytes = take at bytes ++ (text ++ drop (at + length text) bytes)

-- A part: a text and the place of its first byte.
pub record Part : Type 0 where
  pub at : ℕ
  pub text : List ℕ

-- the place after a part
abbrev pub end_of : Part → ℕ
end_of p = p.at + length p.text

-- the part's text stands at its place, whole
pub record Stands (bytes : List ℕ) (p : Part) : Type 0 where
  pub within : end_of p ≤ length bytes
  pub same : slice_range bytes p.at (end_of p) ≡ p.text

-- two parts share no byte
abbrev pub Apart : Part → Part → Type 0
Apart p q = (end_of p ≤ q.at) ⊎ (end_of q ≤ p.at)

-- a place is in none of a part's bytes
abbrev pub IsOutside : ℕ → Part → Type 0
IsOutside i p = (i + 1 ≤ p.at) ⊎ (end_of p ≤ i)

-- the bytes up to the first NUL, all of them where there is none
abbrev pub name_of : List ℕ → List ℕ
name_of bytes = before_first (λ b. b == 0) bytes
