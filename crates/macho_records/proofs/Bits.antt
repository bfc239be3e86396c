-- What setting and clearing bits leaves.
--
-- A mask that is set is there, and one that is cleared is not; a mask that shares no bit with it reads the same. The
-- flags of a section are its attributes, a multiple of 256, and its type below 256: they share no bit, so joined by
-- `|` they are the sum, which is the flags again.
use Rattle.std.proofs.Common.{◌≡◌, ℕ, ◌-◌, ◌*◌, ◌/◌, ◌%◌, bit_and, bit_or, refl, ap, ◌∙◌, arith}
use Rattle.std.specs.Int.Bits.{and_zero_r}
use Rattle.std.proofs.lemmas.Nat.{or_shifted, and_or_self, and_or_apart, and_assoc}
use Rattle.macho_records.specs.declared.constants.TheConstants.{N_PEXT}
use Rattle.macho_records.specs.Sections.{attributes_in}

-- the type and the attributes make the flags again
pub flags_whole : (word : ℕ) → bit_or (attributes_in word) (word % 256) ≡ word
flags_whole word =
    let multiple : attributes_in word ≡ word / 256 * 256 = omega arith in
    ap (λ (a : ℕ). bit_or a (word % 256)) multiple ∙ or_shifted (word / 256) 8 (word % 256) (omega arith) ∙ omega arith

-- `N_PEXT` is set where it was set, and not where it was cleared; the other bits stay
pub pext-set : (word : ℕ) → bit_and (bit_or word N_PEXT) N_PEXT ≡ N_PEXT
pext-set word = and_or_self N_PEXT word

pub pext-set_rest : (word : ℕ) → bit_and (bit_or word N_PEXT) (255 - N_PEXT) ≡ bit_and word (255 - N_PEXT)
pext-set_rest word = and_or_apart (255 - N_PEXT) word N_PEXT refl

pub pext-cleared : (word : ℕ) → bit_and (bit_and word (255 - N_PEXT)) N_PEXT ≡ 0
pext-cleared word = and_assoc N_PEXT word (255 - N_PEXT) ∙ and_zero_r word

pub pext-cleared_rest : (word : ℕ) → bit_and (bit_and word (255 - N_PEXT)) (255 - N_PEXT) ≡ bit_and word (255 - N_PEXT)
pext-cleared_rest word = and_assoc (255 - N_PEXT) word (255 - N_PEXT)

pub ruleset pext = (pext-set, pext-set_rest, pext-cleared, pext-cleared_rest)
