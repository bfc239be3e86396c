-- Rows of ULEB128: forms and readings, computed.
--
-- 127, 128 and 12857 are the examples of DWARF 5, section 7.6. A form may be longer than the shortest; it isn't read where it
-- has no last group within ten bytes and the list, or where the tenth group passes 64 bits.
use Rattle.std.proofs.Common.{◌≡◌, ℕ, ◌-◌, ◌^◌, List, [], ◌∷◌, ◌++◌, replicate, Option, Some, None, refl}
use Rattle.macho_bytes.specs.Uleb.{groups_of, uleb_of, uleb_at}

-- the form of a number, and what is read behind one other byte
abbrev IsForm : ℕ → List ℕ → Type 0
IsForm n text = uleb_of n ≡ text

abbrev Reads : List ℕ → Option (ℕ × ℕ) → Type 0
Reads text answer = uleb_at (0xff ∷ text) 1 ≡ answer

form-0 : IsForm 0 (0 ∷ [])
unfolding uleb_of groups_of
form-0 = refl

form-127 : IsForm 127 (0x7f ∷ [])
unfolding uleb_of groups_of
form-127 = refl

form-128 : IsForm 128 (0x80 ∷ 0x01 ∷ [])
unfolding uleb_of groups_of
form-128 = refl

form-12857 : IsForm 12857 (0xb9 ∷ 0x64 ∷ [])
unfolding uleb_of groups_of
form-12857 = refl

form-300 : IsForm 300 (0xac ∷ 0x02 ∷ [])
unfolding uleb_of groups_of
form-300 = refl

form-4_gib : IsForm (2 ^ 32) (0x80 ∷ 0x80 ∷ 0x80 ∷ 0x80 ∷ 0x10 ∷ [])
unfolding uleb_of groups_of
form-4_gib = refl

form-greatest : IsForm (2 ^ 64 - 1) (replicate 9 0xff ++ 0x01 ∷ [])
unfolding uleb_of groups_of
form-greatest = refl

read-300 : Reads (0xac ∷ 0x02 ∷ 0x55 ∷ []) (Some (300, 3))
unfolding uleb_at
read-300 = refl

read-greatest : Reads (replicate 9 0xff ++ 0x01 ∷ []) (Some (2 ^ 64 - 1, 11))
unfolding uleb_at
read-greatest = refl

read-overlong : Reads (0xac ∷ 0x82 ∷ 0x80 ∷ 0x00 ∷ []) (Some (300, 5))
unfolding uleb_at
read-overlong = refl

read-ten_bytes_of_zero : Reads (replicate 9 0x80 ++ 0x00 ∷ []) (Some (0, 11))
unfolding uleb_at
read-ten_bytes_of_zero = refl

read-unended : Reads (0xac ∷ 0x82 ∷ []) None
unfolding uleb_at
read-unended = refl

read-eleven_bytes : Reads (replicate 10 0x80 ++ 0x00 ∷ []) None
unfolding uleb_at
read-eleven_bytes = refl

read-past_64_bits : Reads (replicate 9 0x80 ++ 0x02 ∷ []) None
unfolding uleb_at
read-past_64_bits = refl

read-nothing : Reads [] None
unfolding uleb_at
read-nothing = refl
