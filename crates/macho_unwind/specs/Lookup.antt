-- Look-up of an offset in the bytes of a section `__unwind_info` (mach-o/compact_unwind_encoding.h).
use Rattle.std.specs.Prelude.{◌≡◌, ◌≢◌, ℕ, ◌≤◌, ◌<◌, List, Option, Some, None, MatchOption, ◌/◌, ◌^◌, ◌*◌, ◌-◌}
use Rattle.macho_unwind.specs.Sections.{header_of, last_entry, entry_at, first_at, page_at, word_at, start_at, encoding_at, personality_in, personality_at, lsda_count, lsda_at, HasTables, IsWholePage}
use Rattle.macho_unwind.specs.declared.lookup.Found.{Found}

-- Number k of so many numbers is the greatest that is not above a limit; among equal ones it is the last.
pub record IsGreatestUpTo (limit count : ℕ) (number : ℕ → ℕ) (k : ℕ) : Type 0 where
  pub one : k < count
  pub up_to : number k ≤ limit
  pub greatest : (j : ℕ) → j < count → number j ≤ limit → number j ≤ number k
  pub last : (j : ℕ) → j < count → number j ≡ number k → j ≤ k

-- Page entry k, which is not the last one, is that of an offset below the end of all functions.
pub record IsPageOf (bytes : List ℕ) (offset k : ℕ) : Type 0 where
  pub chosen : IsGreatestUpTo offset (last_entry bytes) (first_at bytes) k
  pub before_end : offset < first_at bytes (last_entry bytes)

-- A personality of the table, by its number from 1 on.
pub record IsPersonality (bytes : List ℕ) (number slot : ℕ) : Type 0 where
  pub one : 1 ≤ number
  pub there : number ≤ (header_of bytes).personalities_len
  pub is : slot ≡ personality_at bytes number

-- LSDA entry j of a page is the first one of the function at a start.
pub record IsLsda (bytes : List ℕ) (k start lsda j : ℕ) : Type 0 where
  pub one : j < lsda_count bytes k
  pub function : (lsda_at bytes k j).function_offset ≡ start
  pub first : (i : ℕ) → i < j → (lsda_at bytes k i).function_offset ≢ start
  pub is : lsda ≡ (lsda_at bytes k j).lsda_offset

-- the LSDA of the function at a start, none where no LSDA entry of its page is that function's
abbrev pub HasLsda : List ℕ → ℕ → ℕ → Option ℕ → Type 0
HasLsda bytes k start None = (j : ℕ) → j < lsda_count bytes k → (lsda_at bytes k j).function_offset ≢ start
HasLsda bytes k start (Some lsda) = (j : ℕ) × IsLsda bytes k start lsda j

-- Look-up of an offset finds x: the page entry of the offset, the function of the offset in its page, the encoding that
-- the function's word names, the personality that bits 28 and 29 of it number, and the function's LSDA.
-- There is nothing to find where a table isn't whole inside the bytes, the page is of another kind, no page entry or
-- function starts at the offset or before it, the offset is not below the end, or the word or the bits name what isn't
-- there.
pub record UnwindFinds (bytes : List ℕ) (offset : ℕ) (x : Found) : Type 0 where
  pub page : ℕ
  pub function : ℕ
  pub encoding : ℕ
  pub tables : HasTables bytes
  pub page_of : IsPageOf bytes offset page
  pub whole : IsWholePage bytes (entry_at bytes page) (page_at bytes page) (lsda_count bytes page)
  pub function_of : IsGreatestUpTo offset (page_at bytes page).functions_len (start_at bytes page) function
  pub start : x.start ≡ start_at bytes page function
  -- the high 8 bits of its word are the number of its encoding
  pub encoded : encoding_at bytes page (word_at bytes page function / 2 ^ 24) ≡ Some encoding
  pub cleared : x.encoding ≡ encoding - 2 ^ 28 * personality_in encoding
  pub personality : MatchOption x.personality (personality_in encoding ≡ 0) (IsPersonality bytes (personality_in encoding))
  pub lsda : HasLsda bytes page x.start x.lsda
