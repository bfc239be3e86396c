-- Numbers and ranges of a file, read past its end.
--
-- A byte behind the end reads as 0, so a number of w bytes is the sum of its bytes, wherever it stands; one of twice as
-- many bytes is the sum of its halves. A range that is cut at the end has the same bytes, since there are no others.
use Rattle.std.proofs.Common.{◌≡◌, ℕ, zero, suc, ◌+◌, ◌*◌, ◌-◌, ◌≤◌, List, [], ◌∷◌, length, take, drop, slice_index, slice_range, refl, ap, arith}
use Rattle.std.proofs.lemmas.List.{get_or-drop, length-drop}
use Rattle.byteorder.specs.Endian.{little_from}
use Rattle.macho_bytes.specs.Numbers.{le_at}

-- behind the end there are zeros
pub behind_end : (xs : List ℕ) (i : ℕ) → length xs ≤ i → slice_index xs i ≡ 0
behind_end [] i h = refl
behind_end (x ∷ xs) zero h = absurd (omega (arith, h))
behind_end (x ∷ xs) (suc i) h = behind_end xs i (omega (arith, h))

-- a byte of what is left from a place on, and the same byte by another sum
byte : (b : List ℕ) (at i : ℕ) → slice_index (drop at b) i ≡ slice_index b (at + i)
byte b at i = get_or-drop at b i 0

same_byte : (b : List ℕ) (i j : ℕ) → i ≡ j → slice_index b i ≡ slice_index b j
same_byte b i j e = ap (λ (k : ℕ). slice_index b k) e

-- a number of two bytes, and the halves of one of four and of eight
pub le_at_two : (b : List ℕ) (at : ℕ) → le_at 2 b at ≡ slice_index b (at + 0) + 256 * slice_index b (at + 1)
unfolding le_at
le_at_two b at = omega (arith, byte b at 0, byte b at 1)

four_bytes : (b : List ℕ) (at : ℕ)
    → le_at 4 b at ≡ slice_index b (at + 0) + 256 * slice_index b (at + 1) + 65536 * slice_index b (at + 2) + 16777216 * slice_index b
    (at + 3)
unfolding le_at
four_bytes b at = omega (arith, byte b at 0, byte b at 1, byte b at 2, byte b at 3)

pub le_at_four : (b : List ℕ) (at : ℕ) → le_at 4 b at ≡ le_at 2 b (at + 0) + 65536 * le_at 2 b (at + 2)
le_at_four b at =
    omega (
      arith,
      four_bytes b at,
      le_at_two b (at + 0),
      le_at_two b (at + 2),
      same_byte b (at + 0 + 0) (at + 0) (omega arith),
      same_byte b (at + 0 + 1) (at + 1) (omega arith),
      same_byte b (at + 2 + 0) (at + 2) (omega arith),
      same_byte b (at + 2 + 1) (at + 3) (omega arith),
    )

eight_bytes : (b : List ℕ) (at : ℕ)
    → le_at 8 b at ≡ le_at 4 b at + 4294967296 * (slice_index b (at + 4) + 256 * slice_index b (at + 5) + 65536 * slice_index b (at + 6)
    + 16777216 * slice_index b (at + 7))
unfolding le_at
eight_bytes b at = omega (arith, byte b at 4, byte b at 5, byte b at 6, byte b at 7)

pub le_at_eight : (b : List ℕ) (at : ℕ) → le_at 8 b at ≡ le_at 4 b (at + 0) + 4294967296 * le_at 4 b (at + 4)
le_at_eight b at =
    let start : le_at 4 b (at + 0) ≡ le_at 4 b at = ap (λ (k : ℕ). le_at 4 b k) (omega arith) in
    omega (
      arith,
      eight_bytes b at,
      start,
      four_bytes b (at + 4),
      same_byte b (at + 4 + 0) (at + 4) (omega arith),
      same_byte b (at + 4 + 1) (at + 5) (omega arith),
      same_byte b (at + 4 + 2) (at + 6) (omega arith),
      same_byte b (at + 4 + 3) (at + 7) (omega arith),
    )

-- a number behind the end is 0
number_behind : (w i : ℕ) (xs : List ℕ) → length xs ≤ i → little_from i w xs ≡ 0
number_behind zero i xs h = refl
number_behind (suc w) i xs h = let rest = number_behind w (suc i) xs (omega (arith, h)) in omega (arith, behind_end xs i h, rest)

pub le_at_behind : (w : ℕ) (b : List ℕ) (at : ℕ) → length b ≤ at → le_at w b at ≡ 0
unfolding le_at
le_at_behind w b at h = number_behind w 0 (drop at b) (omega (arith, h, length-drop at b))

-- a range behind the end is empty
pub range_behind : (b : List ℕ) (s e : ℕ) → length b ≤ s → slice_range b s e ≡ []
range_behind b s e h = let long = length-drop s b in nothing (e - s) (drop s b) (omega (arith, long, h))
  where
    nothing : (n : ℕ) (xs : List ℕ) → length xs ≡ 0 → take n xs ≡ []
    nothing zero xs h = refl
    nothing (suc n) [] h = refl
    nothing (suc n) (x ∷ xs) h = absurd (omega (arith, h))
