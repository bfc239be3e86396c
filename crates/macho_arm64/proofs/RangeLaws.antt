-- What a field can hold is exactly what some word of it holds.
--
-- An immediate of n bits, read as two's complement, is below 2 ^ (n - 1) or within 2 ^ (n - 1) of 2 ^ 64. Times its unit
-- it is a multiple of the unit in that many times the range. So a number that fails the range test is none that a word
-- of the field says, whatever the word is. (An offset in a page is below a page, which a scaled load could pass.)
use Rattle.std.proofs.Common.{◌≡◌, ℕ, ◌*◌, ◌%◌, ◌^◌, ◌<◌, ◌==◌, nat_lt, ◌&&◌, ◌||◌, true, arith, ap, sym, ◌∙◌, refl, ◌⊎◌, inl, inr}
use Rattle.std.proofs.Math.Nat.{mul-mod_left}
use Rattle.std.proofs.lemmas.Bool.Decides.{nat_tests}
use Rattle.macho_bytes.specs.Numbers.{signed, bits, PAGE}
use Rattle.macho_model.specs.Words.{imm12, imm21, imm26, scale_of, without_imm12}
use Rattle.macho_model.specs.Meaning.{address}
use Rattle.macho_arm64.specs.declared.kinds.FieldSize.{FieldSize}
use Rattle.macho_arm64.specs.declared.kinds.FieldSize.TheVariants.{Bytes, Adr, JumpCall, Low12}
use Rattle.macho_arm64.specs.Fields.{width_of, is_field, fits_signed, can_hold, Holds}

page_range : (imm value : ℕ) → imm < 2 ^ 21 → address (PAGE * signed 21 imm) ≡ value → (fits_signed 33 value && (value % PAGE == 0)) ≡ true
page_range imm value small is = grind (arith, nat_tests)

branch_range : (imm value : ℕ) → imm < 2 ^ 26 → address (4 * signed 26 imm) ≡ value → (fits_signed 28 value && (value % 4 == 0)) ≡ true
branch_range imm value small is = grind (arith, nat_tests)

word_range : (word value : ℕ) → word < 2 ^ 32 → address (signed 32 word) ≡ value → fits_signed 32 value ≡ true
word_range word value small is = grind (arith, nat_tests)

-- the scale is told by what is outside the immediate
same_scale : (a b : ℕ) → without_imm12 a ≡ without_imm12 b → scale_of a ≡ scale_of b
same_scale a b same =
    let op : bits 22 10 a ≡ bits 22 10 b = omega arith in
    let size : bits 30 2 a ≡ bits 30 2 b = omega arith in
    let vector : bits 26 1 a ≡ bits 26 1 b = omega arith in
    let wide : bits 23 1 a ≡ bits 23 1 b = omega arith in
    rw (op, size, vector, wide) refl

offset_range : (word input value : ℕ) → value < PAGE → imm12 word * scale_of word ≡ value → without_imm12 word ≡ without_imm12 input
    → (nat_lt value PAGE && (value % scale_of input == 0)) ≡ true
offset_range word input value small is kept =
    let whole : value % scale_of input ≡ 0 =
    ap (λ (n : ℕ). n % scale_of input) (sym is) ∙ ap (λ (k : ℕ). imm12 word * k % scale_of input) (same_scale word input kept)
    ∙ mul-mod_left (imm12 word) (scale_of input) in
    rw whole (grind (arith, nat_tests))

four_or_eight : (n : ℕ) → ((n == 4) || (n == 8)) ≡ true → (n ≡ 4) ⊎ (n ≡ 8)
four_or_eight n field = grind (arith, nat_tests)

bytes_range : (n word value : ℕ) → ((n == 4) || (n == 8)) ≡ true → word < 256 ^ n → address (signed (8 * n) word) ≡ value
    → ((n == 8) || fits_signed 32 value) ≡ true
bytes_range n word value field small is =
    elim (four_or_eight n field) [
      | inl four ↦
          let low : word < 256 ^ 4 = rw four at small in
          let says : address (signed (8 * 4) word) ≡ value = rw four at is in
          rw four (word_range word value low says)
      | inr eight ↦ rw eight refl
    ]

-- Whatever word holds a value, its field can hold it.
pub holds_only : (size : FieldSize) (input word value : ℕ) → is_field size ≡ true → word < 256 ^ width_of size
    → (size ≡ Low12 → value < PAGE) → Holds size input word value → can_hold size input value ≡ true
holds_only (Bytes n) input word value field small page h = bytes_range n word value field small h.says
holds_only Adr input word value field small page h = page_range (imm21 word) value (omega arith) h.says
holds_only JumpCall input word value field small page h = branch_range (imm26 word) value (omega arith) h.says
holds_only Low12 input word value field small page h = offset_range word input value (page refl) h.says h.kept
