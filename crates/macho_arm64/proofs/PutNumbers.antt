-- What numbers say after one of them is put.
--
-- What was put stands, and a number reads back where its spelling stands: so the number that was put is read at its
-- place. A number beside it is the first of the list from its own place on. Its bytes are a part that shares none with
-- what was put, so they stand as before; a number reads no byte past its own, so it is as before.
use Rattle.std.proofs.Common.{◌≡◌, ℕ, ◌+◌, ◌^◌, ◌<◌, ◌≤◌, ◌⊎◌, List, length, drop, slice_range, arith, ap, sym, ◌∙◌, inl, inr}
use Rattle.std.proofs.lemmas.List.Edits.{length-between}
use Rattle.byteorder.specs.Endian.{little_number}
use Rattle.byteorder.specs.Numbers.{little_from-append}
use Rattle.macho_bytes.specs.Numbers.{little, le_at, le_bytes}
use Rattle.macho_bytes.specs.Texts.{put, Part, end_of, Stands}
use Rattle.macho_bytes.proofs.Numbers.{little_is_sound, drop-stands}
use Rattle.macho_bytes.proofs.Puts.{stands_beside}

-- a number is that of its bytes
le_at-stands : (w : ℕ) (bytes : List ℕ) (p : Part) → Stands bytes p → w ≤ length p.text → le_at w bytes p.at ≡ little_number w p.text
unfolding le_at
le_at-stands w bytes p stands long =
    ap (little_number w) (drop-stands bytes p stands) ∙ little_from-append w p.text (drop (end_of p) bytes) long

-- a number beside what was put
pub le_at-beside : (w at v i n : ℕ) (now next : List ℕ) → next ≡ put at (le_bytes v n) now → at + v ≤ length now → i + w ≤ length now
    → (i + w ≤ at) ⊎ (at + v ≤ i) → le_at w next i ≡ le_at w now i
le_at-beside w at v i n now next is room inside apart =
    ap (λ (t : List ℕ). le_at w t i) is
    ∙ le_at-stands w (put at (le_bytes v n) now) part after (omega (arith, long))
    ∙ sym (le_at-stands w now part before (omega (arith, long)))
  where
    long : length (slice_range now i (i + w)) ≡ w
    long = omega (arith, length-between now i (i + w))

    size : length (le_bytes v n) ≡ v
    size = little_is_sound.long v n

    part : Part
    part = record { at = i; text = slice_range now i (i + w) }

    before : Stands now part
    before = record { within = omega (arith, long); same = ap (λ (k : ℕ). slice_range now i (i + k)) long }

    after : Stands (put at (le_bytes v n) now) part
    after = stands_beside at (le_bytes v n) now part (omega (arith, size)) before
        (elim apart [ inl below ↦ inl (omega (arith, long)) | inr above ↦ inr (omega (arith, size)) ])
