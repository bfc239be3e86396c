-- What relocated words say at their places, by computing, each at slide 0 and at another slide of whole pages. Words and
-- immediates are those of the Arm Architecture Reference Manual (chapter C6).
use Rattle.std.proofs.Common.{◌≡◌, ℕ, ◌+◌, ◌-◌, ◌^◌, ◌⊎◌, true, false, [], ◌∷◌, refl, arith, inl, inr}
use Rattle.macho_bytes.specs.Numbers.{le_at, signed}
use Rattle.macho_bytes.specs.Layouts.{reading}
use Rattle.macho_wire.specs.Relocations.{relocation_info}
use Rattle.macho_model.specs.declared.targets.Target.TheVariants as target
use Rattle.macho_model.specs.Links.{Link, SectionId}
use Rattle.macho_model.specs.Fields.{Field}
use Rattle.macho_model.specs.Placement.{Placed}
use Rattle.macho_model.specs.Memory.{Choice}
use Rattle.macho_model.specs.Stands.{Pointer, LoadSays, LoadIsAt}
use Rattle.macho_model.specs.steps.Stands.{SaysOf}
use Rattle.macho_model.specs.Words.{is_branch, is_adrp, is_add, is_ldr, is_load_store, scale_of}
use Rattle.macho_model.specs.Meaning.{PointsTo, IsDifference, BranchesTo, PagesTo, OffsetsTo, AddsTo, LoadsFrom, IsDistance, GoesThrough}
use Rattle.macho_model.specs.steps.Words.{load_scale}

-- the slide of the second facts, one that takes the image over the middle of the addresses
abbrev pub slide : ℕ
slide = 0x8000000000000000

-- the number of four bytes
abbrev pub word_of : ℕ → ℕ → ℕ → ℕ → ℕ
word_of b0 b1 b2 b3 = le_at 4 (b0 ∷ b1 ∷ b2 ∷ b3 ∷ []) 0

-- A relocation's two words: a branch at 0 to symbol 2, and a pointer of 8 bytes at 0 to symbol 0.
pub a_branch_relocation : reading relocation_info (0 ∷ 0 ∷ 0 ∷ 0 ∷ 0x02 ∷ 0x00 ∷ 0x00 ∷ 0x2d ∷ []) 0
    ≡ record { r_address = 0; r_symbolnum = 2; r_pcrel = true; r_length = 2; r_extern = true; r_type = 2 }
unfolding reading le_at
a_branch_relocation = refl

pub a_pointer_relocation : reading relocation_info (0 ∷ 0 ∷ 0 ∷ 0 ∷ 0x00 ∷ 0x00 ∷ 0x00 ∷ 0x0e ∷ []) 0
    ≡ record { r_address = 0; r_symbolnum = 0; r_pcrel = false; r_length = 3; r_extern = true; r_type = 0 }
unfolding reading le_at
a_pointer_relocation = refl

-- which words are which instructions: B, ADRP x0, ADD x0, LDR x0, LDR w0, LDRB w0, LDR q0
pub kinds : (is_branch 0x14000000 ≡ true) × (is_branch 0x94000000 ≡ true) × (is_branch 0x90000000 ≡ false) × (is_adrp 0x90000000 ≡ true)
    × (is_adrp 0x10000000 ≡ false) × (is_add 0x91000000 ≡ true) × (is_add 0x91400000 ≡ false) × (is_ldr 0xf9400000 ≡ true)
    × (is_ldr 0xf9000000 ≡ false)
    × (is_load_store 0xf9000000 ≡ true) × (is_load_store 0xb9400000 ≡ true) × (is_load_store 0x3dc00000 ≡ true)
    × (is_load_store 0x91000000 ≡ false)
kinds = (refl, refl, refl, refl, refl, refl, refl, refl, refl, refl, refl, refl, refl)

-- the scales of their immediates
pub scales : (scale_of 0x91000000 ≡ 1) × (load_scale 0x39400000 ≡ 1) × (load_scale 0x79400000 ≡ 2) × (load_scale 0xb9400000 ≡ 4)
    × (load_scale 0xf9400000 ≡ 8)
    × (load_scale 0x3d400000 ≡ 1) × (load_scale 0x3dc00000 ≡ 16)
scales = (refl, refl, refl, refl, refl, refl, refl)

-- BL from 0x100001000 to 0x100001010: `04 00 00 94`
pub a_branch : BranchesTo 0x100001000 (word_of 0x04 0x00 0x00 0x94) 0x94000000 0x100001010
unfolding le_at
a_branch = record { reaches = refl; kept = refl }

pub a_branch_slid : BranchesTo (0x100001000 + slide) (word_of 0x04 0x00 0x00 0x94) 0x94000000 (0x100001010 + slide)
unfolding le_at
a_branch_slid = record { reaches = refl; kept = refl }

-- a branch back by one word
pub a_branch_back : BranchesTo 0x100001004 (word_of 0xff 0xff 0xff 0x17) 0x14000000 0x100001000
unfolding le_at
a_branch_back = record { reaches = refl; kept = refl }

-- ADRP x0 at 0x100001ffc to 0x100002000: `00 00 00 b0`, one page on
pub a_page : PagesTo 0x100001ffc (word_of 0x00 0x00 0x00 0xb0) 0x90000000 0x100002000
unfolding le_at
a_page = record { reaches = refl; kept = refl }

pub a_page_slid : PagesTo (0x100001ffc + slide) (word_of 0x00 0x00 0x00 0xb0) 0x90000000 (0x100002000 + slide)
unfolding le_at
a_page_slid = record { reaches = refl; kept = refl }

-- ADRP x0 in the image's first page to its base: `00 00 00 90`
pub a_page_of_the_base : PagesTo 0x100000198 (word_of 0x00 0x00 0x00 0x90) 0x90000000 0x100000000
unfolding le_at
a_page_of_the_base = record { reaches = refl; kept = refl }

-- ADD x0, x0, #0x123 to an address with these low bits, and LDR x0, [x0, #16]
pub an_offset : OffsetsTo (word_of 0x00 0x8c 0x04 0x91) 0x91000000 (0x100002123 + slide)
unfolding le_at
an_offset = record { reaches = refl; kept = refl }

pub a_scaled_offset : OffsetsTo (word_of 0x00 0x08 0x40 0xf9) 0xf9400000 (0x100002010 + slide)
unfolding le_at
a_scaled_offset = record { reaches = refl; kept = refl }

-- `ldr x0, [x0]` (`00 00 40 f9`) of a slot, made an ADD of a target with the low bits 0x123: `00 8c 04 91`
pub a_load_made_an_add : AddsTo (word_of 0x00 0x8c 0x04 0x91) (word_of 0x00 0x00 0x40 0xf9) (0x100002123 + slide)
unfolding le_at
a_load_made_an_add = record { load = refl; add = refl; base = refl; written = refl; reaches = refl }

-- and kept, with a slot that ends in 0x010: `00 08 40 f9`
pub a_load_of_a_slot : LoadsFrom (word_of 0x00 0x08 0x40 0xf9) (word_of 0x00 0x00 0x40 0xf9) (0x100004010 + slide)
unfolding le_at
a_load_of_a_slot = record { load = refl; reaches = refl; kept = refl }

-- a difference of 4 bytes with content -4, of addresses 16 apart: `0c 00 00 00`; one with the lesser address first
pub a_difference : IsDifference 4 (word_of 0x0c 0x00 0x00 0x00) (0x100004010 + slide) (0x100004000 + slide)
    (signed 32 (word_of 0xfc 0xff 0xff 0xff))
unfolding le_at
a_difference = refl

pub a_difference_below : IsDifference 4 (word_of 0xf0 0xff 0xff 0xff) 0x100004000 0x100004010 0
unfolding le_at
a_difference_below = refl

-- a pointer, with an addend of -4; and a distance to a slot 0x8000 below its place
pub a_pointer : PointsTo (0x100004000 - 4) (0x100004000 + (2 ^ 64 - 4))
a_pointer = refl

pub a_distance : IsDistance (0x10000c000 + slide) (word_of 0x00 0x80 0xff 0xff) (0x100004000 + slide)
unfolding le_at
a_distance = refl

-- a stub at 0x100004000 through a slot at 0x100008010: `30 00 00 90 10 0a 40 f9 00 02 1f d6`
pub a_stub : GoesThrough 0x100004000 0x100008010 (word_of 0x30 0x00 0x00 0x90) (word_of 0x10 0x0a 0x40 0xf9) (word_of 0x00 0x02 0x1f 0xd6)
unfolding le_at
a_stub = record {
  pages = record { reaches = refl; kept = refl };
  loads = record { load = refl; reaches = refl; kept = refl };
  leaves = refl;
}

pub a_stub_slid : GoesThrough (0x100004000 + slide) (0x100008010 + slide) (word_of 0x30 0x00 0x00 0x90) (word_of 0x10 0x0a 0x40 0xf9)
    (word_of 0x00 0x02 0x1f 0xd6)
unfolding le_at
a_stub_slid = record {
  pages = record { reaches = refl; kept = refl };
  loads = record { load = refl; reaches = refl; kept = refl };
  leaves = refl;
}

-- a pointer has 8 bytes: one of 4 says nothing, whatever word is there
pub short_pointer_says_nothing : (l : Link) (p : Placed) (s : ℕ) (choice : Choice) (id : SectionId) (f : Field) (place word input : ℕ)
    → f.width ≡ 4
    → SaysOf l p s choice id f place word input Pointer → ⊥
short_pointer_says_nothing l p s choice id f place word input four says = absurd (omega (arith, four, says.3))

-- and a value that does not move is not loaded, nor is its page
pub value_is_not_loaded : (l : Link) (p : Placed) (s : ℕ) (choice : Choice) (value word input x : ℕ)
    → LoadSays l p s choice (target.Absolute value) word input ⊎ LoadIsAt l p s choice (target.Absolute value) x → ⊥
value_is_not_loaded l p s choice value word input x (inl says) = says
value_is_not_loaded l p s choice value word input x (inr at) = at
