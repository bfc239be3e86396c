-- The arm64 instructions that relocations speak of, as 32-bit words (Arm Architecture Reference Manual for A-profile,
-- chapter C6), and the immediates that they hold.
use Rattle.std.specs.Prelude.{ℕ, ◌+◌, ◌*◌, ◌^◌, ◌==◌, ◌&&◌, if◌then◌else◌, Bool}
use Rattle.macho_records.specs.Numbers.{bits}

-- ADRP: 1 immlo:2 10000 immhi:19 Rd:5
abbrev pub is_adrp : ℕ → Bool
is_adrp w = (bits 31 1 w == 1) && (bits 24 5 w == 0b10000)

-- its immediate, in pages: 19 bits above 2
abbrev pub imm21 : ℕ → ℕ
imm21 w = bits 5 19 w * 4 + bits 29 2 w

-- B and BL: op 00101 imm26:26
abbrev pub is_branch : ℕ → Bool
is_branch w = bits 26 5 w == 0b00101

-- its immediate, in words
abbrev pub imm26 : ℕ → ℕ
imm26 w = bits 0 26 w

-- ADD of a 64-bit register and an immediate that is not shifted: 1001000100 imm12:12 Rn:5 Rd:5
abbrev pub is_add : ℕ → Bool
is_add w = bits 22 10 w == 0b1001000100

-- LDR of a 64-bit register with an unsigned offset: 1111100101 imm12:12 Rn:5 Rt:5
abbrev pub is_ldr : ℕ → Bool
is_ldr w = bits 22 10 w == 0b1111100101

-- a load or store with an unsigned offset, of whatever size: size:2 111 V:1 01 opc:2 imm12:12 Rn:5 Rt:5
abbrev pub is_load_store : ℕ → Bool
is_load_store w = (bits 27 3 w == 0b111) && (bits 24 2 w == 0b01)

-- the immediate of these three, in units of their scale
abbrev pub imm12 : ℕ → ℕ
imm12 w = bits 10 12 w

-- the scale of an immediate of 12 bits: 1 in an ADD; in a load or store the bytes that it moves, 2 to the power of its size, where size 0
-- of a vector register with the upper bit of opc set stands for 16
abbrev pub scale_of : ℕ → ℕ
scale_of w = if is_add w then 1 else if (bits 30 2 w == 0) && (bits 26 1 w == 1) && (bits 23 1 w == 1) then 16 else 2 ^ bits 30 2 w

-- the registers of a load or an ADD: the base and the one that is written
abbrev pub base_register : ℕ → ℕ
base_register w = bits 5 5 w

abbrev pub written_register : ℕ → ℕ
written_register w = bits 0 5 w

-- what is left of a word when an immediate is taken out
abbrev pub without_imm21 : ℕ → ℕ
without_imm21 w = bits 0 5 w + bits 24 5 w * 2 ^ 24 + bits 31 1 w * 2 ^ 31

abbrev pub without_imm26 : ℕ → ℕ
without_imm26 w = bits 26 6 w * 2 ^ 26

abbrev pub without_imm12 : ℕ → ℕ
without_imm12 w = bits 0 10 w + bits 22 10 w * 2 ^ 22
