-- What is read at a place depends on the bytes there alone.
--
-- A number of w bytes is a sum over its bytes, so two lists that agree on w bytes from a place on give the same
-- number there. A record is read row by row, each at its offset, so two lists that agree on its bytes give the same
-- record. A write elsewhere leaves those bytes, so it leaves what is read; and a part of a list reads as the list does.
use Rattle.std.proofs.Common.{◌≡◌, ℕ, zero, suc, ◌+◌, ◌*◌, ◌^◌, ◌<◌, ◌≤◌, ◌⊎◌, List, [], ◌∷◌, length, get_or, drop, slice_range, slice_index, refl, sym, ap, ◌∙◌, arith, inl, inr}
use Rattle.std.proofs.Math.Nat.{mul-suc}
use Rattle.std.proofs.lemmas.List.{get_or-drop}
use Rattle.std.proofs.lemmas.List.Edits.{get_or-between}
use Rattle.byteorder.specs.Endian.{little_from, big_from}
use Rattle.macho_bytes.specs.Numbers.{ByteOrder, little, big, le_at, be_at, le_bytes}
use Rattle.macho_bytes.specs.Texts.{put}
use Rattle.macho_bytes.specs.Layouts.{size_of, reading}
use Rattle.macho_bytes.specs.Spellings.{Row, numbers, text, Spelled, row_size, row_read, numbers_at, size_from, read_from}
use Rattle.macho_bytes.proofs.Puts.{get_or-put_below, get_or-put_above, put_stands}
use Rattle.macho_bytes.proofs.Numbers.{IsSound, number-stands, little_is_sound}

-- A byte order reads a number from its own bytes alone.
pub record IsLocal (order : ByteOrder) : Type 0 where
  pub alike : (w : ℕ) (x y : List ℕ) (i j : ℕ) → ((k : ℕ) → k < w → slice_index x (i + k) ≡ slice_index y (j + k))
      → order.number_at w x i ≡ order.number_at w y j

little_from-alike : (w i : ℕ) (x y : List ℕ) → ((k : ℕ) → k < i + w → slice_index x k ≡ slice_index y k)
    → little_from i w x ≡ little_from i w y
little_from-alike zero i x y same = refl
little_from-alike (suc w) i x y same =
    let here = same i (omega arith) in
    let rest = little_from-alike w (suc i) x y (λ k h. same k (omega arith)) in
    rw (here, rest) refl

-- two lists from two places on
from_places : (x y : List ℕ) (i j k : ℕ) → slice_index x (i + k) ≡ slice_index y (j + k)
    → slice_index (drop i x) k ≡ slice_index (drop j y) k
from_places x y i j k same = get_or-drop i x k 0 ∙ same ∙ sym (get_or-drop j y k 0)

pub little_is_local : IsLocal little
unfolding le_at
little_is_local = record {
  alike = λ w x y i j same. little_from-alike w 0 (drop i x) (drop j y)
      (λ k h. from_places x y i j k (same k (omega arith)));
}

-- a number after a write that shares no byte with it
pub number-put_other : (order : ByteOrder) → IsLocal order → (w at i : ℕ) (t bytes : List ℕ) → at + length t ≤ length bytes
    → (i + w ≤ at) ⊎ (at + length t ≤ i)
    → order.number_at w (put at t bytes) i ≡ order.number_at w bytes i
number-put_other order local w at i t bytes fits apart =
    local.alike w (put at t bytes) bytes i i
    (λ k h. elim apart [
      | inl before ↦ get_or-put_below at t bytes (i + k) fits (omega arith)
      | inr after ↦ get_or-put_above at t bytes (i + k) fits (omega arith)
    ])

-- a number that was written
pub number-put_same : (order : ByteOrder) → IsSound order → (w n at : ℕ) (bytes : List ℕ) → n < 256 ^ w → at + w ≤ length bytes
    → order.number_at w (put at (order.bytes_of w n) bytes) at ≡ n
number-put_same order sound w n at bytes small fits =
    number-stands order sound w n (put at (order.bytes_of w n) bytes) at small
    (put_stands at (order.bytes_of w n) bytes (omega (arith, sound.long w n)))

-- a number in a part of a list
pub number-between : (order : ByteOrder) → IsLocal order → (w from to i : ℕ) (bytes : List ℕ) → from + i + w ≤ to
    → order.number_at w (slice_range bytes from to) i ≡ order.number_at w bytes (from + i)
number-between order local w from to i bytes fits =
    local.alike w (slice_range bytes from to) bytes i (from + i)
    (λ k h. get_or-between bytes from to (i + k) 0 (omega arith) ∙ ap (λ (m : ℕ). get_or bytes m 0) (omega arith))

-- the same of little-endian numbers
pub le_at-put_other : (w at i : ℕ) (t bytes : List ℕ) → at + length t ≤ length bytes → (i + w ≤ at) ⊎ (at + length t ≤ i)
    → le_at w (put at t bytes) i ≡ le_at w bytes i
le_at-put_other w at i t bytes fits apart = number-put_other little little_is_local w at i t bytes fits apart

pub le_at-put_same : (w n at : ℕ) (bytes : List ℕ) → n < 256 ^ w → at + w ≤ length bytes → le_at w (put at (le_bytes w n) bytes) at ≡ n
le_at-put_same w n at bytes small fits = number-put_same little little_is_sound w n at bytes small fits

pub le_at-between : (w from to i : ℕ) (bytes : List ℕ) → from + i + w ≤ to
    → le_at w (slice_range bytes from to) i ≡ le_at w bytes (from + i)
le_at-between w from to i bytes fits = number-between little little_is_local w from to i bytes fits
