-- ULEB128 (DWARF 5, section 7.6): a number in groups of seven bits, the lowest first; each byte but the last has its high bit set.
use Rattle.std.specs.Prelude.{◌≡◌, ◌≢◌, ℕ, zero, suc, ◌+◌, ◌*◌, ◌/◌, ◌%◌, ◌^◌, ◌-◌, ◌<◌, ◌≤◌, Bool, ◌&&◌, nat_lt, if◌then◌else◌, List, [], ◌∷◌, length, take, drop, slice_index, slice_range, Option, Some, None}
use Rattle.std.specs.List.{position_or_len}
use Rattle.macho_bytes.specs.Texts.{Stands}

-- the value of the groups: the low seven bits of each byte
abbrev pub uleb_value : List ℕ → ℕ
uleb_value [] = 0
uleb_value (b ∷ bs) = b % 128 + 128 * uleb_value bs

-- bytes of which exactly the last lacks the high bit
pub record IsUleb (text : List ℕ) : Type 0 where
  pub some : 1 ≤ length text
  pub goes_on : (k : ℕ) → k + 1 < length text → 128 ≤ slice_index text k
  pub ends : slice_index text (length text - 1) < 128

-- the shortest form of a number: no last group is zero but that of a single byte
pub record IsShortest (text : List ℕ) (n : ℕ) : Type 0 where
  pub form : IsUleb text
  pub value : uleb_value text ≡ n
  pub least : 2 ≤ length text → slice_index text (length text - 1) ≢ 0

-- the most groups that a number of 64 bits has
abbrev pub MOST_GROUPS : ℕ
MOST_GROUPS = 10

-- A number of at most 64 bits stands in at most ten groups from a place up to an end.
pub record IsUlebAt (bytes : List ℕ) (at n last : ℕ) : Type 0 where
  pub within : last ≤ length bytes
  pub groups : last ≤ at + MOST_GROUPS
  pub form : IsUleb (slice_range bytes at last)
  pub value : uleb_value (slice_range bytes at last) ≡ n
  pub fits : n < 2 ^ 64

-- the groups of a number, the last of them after at most so many others
unfoldable pub groups_of : ℕ → ℕ → List ℕ
groups_of zero n = n ∷ []
groups_of (suc others) n = if nat_lt n 128 then n ∷ [] else (128 + n % 128) ∷ groups_of others (n / 128)

-- the shortest form of a number of at most 64 bits
unfoldable pub uleb_of : ℕ → List ℕ
uleb_of n = groups_of (MOST_GROUPS - 1) n

-- the number whose groups stand at a place, up to the first byte below 128, and the place after them; None where no such byte stands within
-- ten bytes and within the list, or the number passes 64 bits
unfoldable pub uleb_at : List ℕ → ℕ → Option (ℕ × ℕ)
uleb_at bytes at =
    let others = position_or_len (λ b. nat_lt b 128) (drop at bytes) in
    let text = take (others + 1) (drop at bytes) in
    if nat_lt others MOST_GROUPS && nat_lt others (length (drop at bytes)) && nat_lt (uleb_value text) (2 ^ 64)
    then Some (uleb_value text, at + length text) else None

-- its parts, for the code that reads it and for proofs: how many groups that go on a list begins with, the groups up to the first last
-- one, and whether this one stands within ten bytes and within the list
abbrev pub groups_before_last : List ℕ → ℕ
groups_before_last bytes = position_or_len (λ b. nat_lt b 128) bytes

abbrev pub first_groups : List ℕ → List ℕ
first_groups bytes = take (groups_before_last bytes + 1) bytes

abbrev pub has_last_group : List ℕ → Bool
has_last_group bytes = nat_lt (groups_before_last bytes) MOST_GROUPS && nat_lt (groups_before_last bytes) (length bytes)

-- The form of a number is the shortest, of one to ten bytes, and it is read wherever it stands.
pub record UlebReadsBack (n : ℕ) : Type 0 where
  pub shortest : IsShortest (uleb_of n) n
  pub long : length (uleb_of n) ≤ MOST_GROUPS
  pub back : (bytes : List ℕ) (at : ℕ) → Stands bytes (record { at = at; text = uleb_of n })
      → uleb_at bytes at ≡ Some (n, at + length (uleb_of n))
