-- What a relocated field holds: the number that its word stands for, which numbers it can hold, and what of the word
-- is no part of the number. Numbers are taken modulo 2 ^ 64. (Instructions: Arm Architecture Reference Manual for
-- A-profile, chapter C6.)
-- a number modulo 2 ^ 64 that n bits hold as two's complement
pub use Rattle.macho_model.specs.Values.{fits_signed}
use Rattle.std.specs.Prelude.{◌≡◌, ℕ, ◌*◌, ◌%◌, ◌==◌, nat_lt, ◌&&◌, ◌||◌, Bool, true, List}
use Rattle.macho_bytes.specs.Numbers.{le_at, signed, PAGE}
use Rattle.macho_model.specs.Words.{is_adrp, imm21, is_branch, imm26, is_add, is_ldr, is_load_store, imm12, scale_of, without_imm21, without_imm26, without_imm12}
use Rattle.macho_model.specs.Meaning.{address}
use Rattle.macho_arm64.specs.declared.kinds.FieldSize.{FieldSize}
use Rattle.macho_arm64.specs.declared.kinds.FieldSize.TheVariants.{Bytes, Adr, JumpCall, Low12}

-- the bytes of a field
abbrev pub width_of : FieldSize → ℕ
width_of (Bytes n) = n
width_of size = 4

-- the number of a field's bytes
abbrev pub field_at : FieldSize → List ℕ → ℕ → ℕ
field_at size bytes at = le_at (width_of size) bytes at

-- a field that a value can be written to: 4 or 8 bytes, or an immediate
abbrev pub is_field : FieldSize → Bool
is_field (Bytes n) = (n == 4) || (n == 8)
is_field size = true

-- the words that a field of a size is part of
abbrev pub fits_word : FieldSize → ℕ → Bool
fits_word (Bytes n) word = true
fits_word Adr word = is_adrp word
fits_word JumpCall word = is_branch word
fits_word Low12 word = is_add word || is_ldr word || is_load_store word

-- The number that a word's field holds: bytes as a signed number, an ADRP's immediate in pages, a branch's in words,
-- that of an ADD, a load or a store in units of its scale.
abbrev pub value_of : FieldSize → ℕ → ℕ
value_of (Bytes n) word = address (signed (8 * n) word)
value_of Adr word = address (PAGE * signed 21 (imm21 word))
value_of JumpCall word = address (4 * signed 26 (imm26 word))
value_of Low12 word = imm12 word * scale_of word

-- what is left of a word when the number is taken out
abbrev pub rest_of : FieldSize → ℕ → ℕ
rest_of (Bytes n) word = 0
rest_of Adr word = without_imm21 word
rest_of JumpCall word = without_imm26 word
rest_of Low12 word = without_imm12 word

-- The numbers that a field can hold: any in 8 bytes, a signed one of 32 bits in 4; whole pages within 4 GiB; whole
-- words within 128 MiB; an offset in a page that is a multiple of the instruction's scale.
abbrev pub can_hold : FieldSize → ℕ → ℕ → Bool
can_hold (Bytes n) word value = (n == 8) || fits_signed 32 value
can_hold Adr word value = fits_signed 33 value && (value % PAGE == 0)
can_hold JumpCall word value = fits_signed 28 value && (value % 4 == 0)
can_hold Low12 word value = nat_lt value PAGE && (value % scale_of word == 0)

-- A word was made to hold a number: its field says the number, and every bit outside the field is the input's.
pub record Holds (size : FieldSize) (input word value : ℕ) : Type 0 where
  pub says : value_of size word ≡ value
  pub kept : rest_of size word ≡ rest_of size input
