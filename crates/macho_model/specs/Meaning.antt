-- What a relocated field says, as relations between a place, a word that is read there and the address that the field
-- refers to. Addresses are numbers modulo 2 ^ 64 (`mach-o/arm64/reloc.h`).
use Rattle.std.specs.Prelude.{◌≡◌, ℕ, ◌+◌, ◌*◌, ◌%◌, ◌^◌, true}
use Rattle.macho_records.specs.Numbers.{signed, page, low}
use Rattle.macho_model.specs.Words.{imm21, imm26, is_add, is_ldr, imm12, scale_of, base_register, written_register, without_imm21, without_imm26, without_imm12}

abbrev pub Same : ℕ → ℕ → Type 0
Same x y = x % 2 ^ 64 ≡ y % 2 ^ 64

-- an address, where a sum may have passed 2 ^ 64
abbrev pub address : ℕ → ℕ
address x = x % 2 ^ 64

-- a pointer of 8 bytes holds an address
abbrev pub PointsTo : ℕ → ℕ → Type 0
PointsTo word x = Same word x

-- a signed difference of a width in bytes: the word plus the subtrahend is the target plus the addend
abbrev pub IsDifference : ℕ → ℕ → ℕ → ℕ → ℕ → Type 0
IsDifference width word target subtrahend addend = Same (signed (8 * width) word + subtrahend) (target + addend)

-- a branch at a place goes to an address; the input's operation stands
pub record BranchesTo (place word input x : ℕ) : Type 0 where
  pub reaches : Same (place + 4 * signed 26 (imm26 word)) x
  pub kept : without_imm26 word ≡ without_imm26 input

-- an ADRP at a place gives the page of an address
pub record PagesTo (place word input x : ℕ) : Type 0 where
  pub reaches : Same (page (address place) + 4096 * signed 21 (imm21 word)) (page (address x))
  pub kept : without_imm21 word ≡ without_imm21 input

-- an ADD, load or store adds the low bits of an address
pub record OffsetsTo (word input x : ℕ) : Type 0 where
  pub reaches : imm12 word * scale_of word ≡ low (address x)
  pub kept : without_imm12 word ≡ without_imm12 input

-- a 64-bit load of a slot was made an ADD that gives the address itself, in the same two registers
pub record AddsTo (word input x : ℕ) : Type 0 where
  pub load : is_ldr input ≡ true
  pub add : is_add word ≡ true
  pub base : base_register word ≡ base_register input
  pub written : written_register word ≡ written_register input
  pub reaches : imm12 word ≡ low (address x)

-- a 64-bit load reads from the low bits of a slot's address
pub record LoadsFrom (word input slot : ℕ) : Type 0 where
  pub load : is_ldr word ≡ true
  pub reaches : 8 * imm12 word ≡ low (address slot)
  pub kept : without_imm12 word ≡ without_imm12 input

-- a signed distance of 4 bytes from a place to a slot
abbrev pub IsDistance : ℕ → ℕ → ℕ → Type 0
IsDistance place word slot = Same (place + signed 32 word) slot

-- The words of a stub at a place go through a slot: `adrp x16, PAGE`, `ldr x16, [x16, OFFSET]` and `br x16`. (The numbers are these words
-- with immediates of 0.)
pub record GoesThrough (place slot adrp ldr br : ℕ) : Type 0 where
  pub pages : PagesTo place adrp 0x90000010 slot
  pub loads : LoadsFrom ldr 0xf9400210 slot
  pub leaves : br ≡ 0xd61f0200
