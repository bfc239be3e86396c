-- A section's range of the file: what is filled in it is a part that was put there.
use Rattle.std.proofs.Common.{◌≡◌, ℕ, ◌+◌, ◌-◌, ◌≤◌, List, length, refl, sym, ap, ◌∙◌, arith, ◌⊎◌, inl, inr}
use Rattle.std.proofs.lemmas.Bool.{cases_lt}
use borrow.Rule.Slice.PartMut.{put_mid}
use Rattle.macho_bytes.proofs.Writes.{put_mid-whole}
use Rattle.macho_model.specs.declared.placed.PlacedSection.{PlacedSection}
use Rattle.macho_model.specs.Objects.{section_at}
use Rattle.macho_model.specs.Links.{Link, object_of}
use Rattle.macho_model.specs.Placement.{Placed}
use Rattle.macho_model.specs.Addresses.{offset_in_file}
use Rattle.macho_promise.specs.Filled.{IsFilled}
use Rattle.macho_contents.specs.steps.Sections.{IsPut}

pub range_put : (l : Link) (p : Placed) (q : PlacedSection) (bytes : List ℕ) (at size : ℕ) (old now : List ℕ) → object_of l q.file ≡ bytes
    → size ≡ (section_at bytes q.section).size → (1 ≤ size → at ≡ offset_in_file p q.address) → at + size ≤ length old
    → IsFilled l p q now
    → IsPut l p q old (put_mid at (at + size - at) old now)
range_put l p q bytes at size old now object is place fits filled = record {
  part = record { at = at; text = now };
  is = record {
    place = λ some. place (omega (arith, some, long));
    ends = omega (arith, fits, long);
    filled = filled;
  };
  same = put_mid-whole at (at + size - at) old now now (omega (arith, long)) (omega (arith, fits, long)) refl;
}
  where
    long : length now ≡ size
    long = filled.long ∙ ap (λ (b : List ℕ). (section_at b q.section).size) object ∙ sym is

-- a range ends in the file, an empty one at its start
pub range_ends : (at size wanted offset n : ℕ) → (size ≡ 0 → at ≡ 0) → (1 ≤ size → at ≡ offset) → size ≡ wanted
    → (wanted ≡ 0) ⊎ (offset + wanted ≤ n)
    → at + size ≤ n
range_ends at size wanted offset n none some is (inl empty) =
    let zero_size : size ≡ 0 = omega (arith, is, empty) in
    omega (arith, zero_size, none zero_size)
range_ends at size wanted offset n none some is (inr ends) = elim (cases_lt 0 size) [
  | inl more ↦ omega (arith, some (omega (arith, more)), ends, is)
  | inr empty ↦
      let zero_size : size ≡ 0 = omega (arith, empty) in
      omega (arith, zero_size, none zero_size)
]
