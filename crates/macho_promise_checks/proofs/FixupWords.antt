-- The words of fixups as bytes, by hand from the bit fields of `mach-o/fixup-chains.h`, and which numbers have one: so answer
-- `write_rebase_encoding` and `write_bind_encoding` of macho_fixups.
use Rattle.std.proofs.Common.{◌≡◌, ◌^◌, true, false, [], ◌∷◌, refl}
use Rattle.macho_bytes.specs.Numbers.{le_bytes}
use Rattle.macho_fixups.specs.Words.{word_of, has_word}
use Rattle.macho_fixups.specs.declared.words.FixupKind.TheVariants.{Rebase, Bind}

-- 0x4000 from the base, two steps of four bytes in front of the page's next word
pub a_target : le_bytes 8 (word_of (Rebase 0x4000) 2) ≡ 0x00 ∷ 0x40 ∷ 0 ∷ 0 ∷ 0 ∷ 0 ∷ 0x10 ∷ 0 ∷ []
unfolding le_bytes word_of
a_target = refl

-- the base, with the greatest highest byte
pub a_highest_byte : le_bytes 8 (word_of (Rebase 0xff00000000000000) 0) ≡ 0 ∷ 0 ∷ 0 ∷ 0 ∷ 0xf0 ∷ 0x0f ∷ 0 ∷ 0 ∷ []
unfolding le_bytes word_of
a_highest_byte = refl

-- 5 behind import 3
pub an_import : le_bytes 8 (word_of (Bind 3 5) 0) ≡ 0x03 ∷ 0 ∷ 0 ∷ 0x05 ∷ 0 ∷ 0 ∷ 0 ∷ 0x80 ∷ []
unfolding le_bytes word_of
an_import = refl

-- a target has 36 bits and a highest byte, an addend 8 bits
pub which_have_words : (has_word (Rebase (2 ^ 36)) ≡ false) × (has_word (Rebase 0xfffffffff) ≡ true)
    × (has_word (Rebase 0xff00000000000000) ≡ true) × (has_word (Rebase (2 ^ 55)) ≡ false) × (has_word (Bind 3 255) ≡ true)
    × (has_word (Bind 3 256) ≡ false)
which_have_words = (refl, refl, refl, refl, refl, refl)
