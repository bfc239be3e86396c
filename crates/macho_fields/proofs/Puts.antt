-- What a put changes.
--
-- A put of w bytes leaves the length, and every byte in front of its place or behind its end. Two changes of one place, the
-- second at least as wide, are a change of the wider one's bytes. So a number elsewhere in the list is what it was.
use Rattle.std.proofs.Common.{◌≡◌, ℕ, ◌+◌, ◌≤◌, ◌<◌, ◌⊎◌, ◌==◌, true, List, length, slice_index, inl, inr, sym, ap, ◌∙◌, arith}
use Rattle.std.specs.Prelude.{slice_range}
use Rattle.std.proofs.lemmas.List.Edits.{length-between, get_or-between}
use Rattle.macho_bytes.specs.Numbers.{le_at, le_bytes}
use Rattle.macho_bytes.specs.Texts.{put, Part, Stands}
use Rattle.macho_bytes.proofs.Puts.{length-put, get_or-put_below, get_or-put_above, stands_by_bytes}
use Rattle.macho_bytes.proofs.Numbers.{little_is_sound}
use Rattle.macho_model.proofs.Memory.{le_at-between}
use Rattle.macho_arm64.specs.declared.kinds.FieldSize.{FieldSize}
use Rattle.macho_arm64.specs.declared.kinds.FieldSize.TheVariants.{Bytes, Adr, JumpCall, Low12}
use Rattle.macho_arm64.specs.Fields.{width_of, is_field}
use Rattle.macho_fields.specs.steps.Writes.{ChangesOnly}
use Rattle.macho_bytes.proofs.Bools.{either, is_equal}

-- a field has at least 4 bytes
pub field_is_wide : (size : FieldSize) → is_field size ≡ true → 4 ≤ width_of size
field_is_wide (Bytes n) field = elim (either (n == 4) (n == 8) field) [
  | inl four ↦ omega (arith, is_equal n 4 four)
  | inr eight ↦ omega
      (arith, is_equal n 8 eight)
]
field_is_wide Adr field = omega arith
field_is_wide JumpCall field = omega arith
field_is_wide Low12 field = omega arith

-- nothing changed
pub changes_nothing : (at w : ℕ) (old new : List ℕ) → new ≡ old → ChangesOnly at w old new
changes_nothing at w old new same = record { long = ap length same; rest = λ i outside. ap (λ (t : List ℕ). slice_index t i) same }

pub changes_put : (at w n : ℕ) (old new : List ℕ) → at + w ≤ length old → new ≡ put at (le_bytes w n) old → ChangesOnly at w old new
changes_put at w n old new inside is = record { long = ap length is ∙ length-put at text old fits; rest = λ i outside. untouched i outside }
  where
    text : List ℕ
    text = le_bytes w n

    long : length text ≡ w
    long = little_is_sound.long w n

    fits : at + length text ≤ length old
    fits = omega (arith, long, inside)

    untouched : (i : ℕ) → (i + 1 ≤ at) ⊎ (at + w ≤ i) → slice_index new i ≡ slice_index old i
    untouched i (inl below) = ap (λ (t : List ℕ). slice_index t i) is ∙ get_or-put_below at text old i fits (omega arith)
    untouched i (inr above) = ap (λ (t : List ℕ). slice_index t i) is ∙ get_or-put_above at text old i fits (omega (arith, long))

-- a byte outside more is outside less
outside_less : (at v w i : ℕ) → v ≤ w → (i + 1 ≤ at) ⊎ (at + w ≤ i) → (i + 1 ≤ at) ⊎ (at + v ≤ i)
outside_less at v w i less (inl below) = inl below
outside_less at v w i less (inr above) = inr (omega arith)

-- one change behind another
pub changes_both : (at v w : ℕ) (old mid new : List ℕ) → v ≤ w → ChangesOnly at v old mid → ChangesOnly at w mid new
    → ChangesOnly at w old new
changes_both at v w old mid new less first second = record {
  long = second.long ∙ first.long;
  rest = λ i outside. second.rest i outside ∙ first.rest i (outside_less at v w i less outside);
}

-- a number whose bytes are the same in two lists
pub same_bytes : (w at : ℕ) (a b : List ℕ) → at + w ≤ length a → at + w ≤ length b
    → ((i : ℕ) → at ≤ i → i < at + w → slice_index a i ≡ slice_index b i)
    → le_at w a at ≡ le_at w b at
same_bytes w at a b in_a in_b same = sym (le_at-between w a at) ∙ ap (λ (t : List ℕ). le_at w t 0) range ∙ le_at-between w b at
  where
    long : length (slice_range b at (at + w)) ≡ w
    long = omega (arith, length-between b at (at + w))

    part : Part
    part = record { at = at; text = slice_range b at (at + w) }

    stands : Stands a part
    stands =
        stands_by_bytes a part (omega (arith, long))
        (λ i lt. same (at + i) (omega arith) (omega (arith, lt, long)) ∙ sym (get_or-between b at (at + w) i 0 (omega (arith, lt, long))))

    range : slice_range a at (at + w) ≡ slice_range b at (at + w)
    range = ap (λ (e : ℕ). slice_range a at e) (omega (arith, long)) ∙ stands.same

-- a byte of one part is outside another that is apart
apart_byte : (p v at w i : ℕ) → (p + v ≤ at) ⊎ (at + w ≤ p) → p ≤ i → i < p + v → (i + 1 ≤ at) ⊎ (at + w ≤ i)
apart_byte p v at w i (inl before) from to = inl (omega arith)
apart_byte p v at w i (inr after) from to = inr (omega arith)

-- a number that is apart from what changed stands
pub number_stands : (p v at w : ℕ) (old new : List ℕ) → ChangesOnly at w old new → (p + v ≤ at) ⊎ (at + w ≤ p) → p + v ≤ length old
    → le_at v new p ≡ le_at v old p
number_stands p v at w old new changes apart inside =
    same_bytes v p new old (omega (arith, changes.long)) inside (λ i from to. changes.rest i (apart_byte p v at w i apart from to))
