-- What entries say: their personalities' numbers and their codes, and how often a code stands.
-- An encoding has 32 bits; bits 28 and 29 are the personality's number (mach-o/compact_unwind_encoding.h,
-- UNWIND_PERSONALITY_MASK), and entries have them clear.
use Rattle.std.specs.Prelude.{◌≡◌, ◌≢◌, ℕ, ◌+◌, ◌*◌, ◌/◌, ◌%◌, ◌^◌, ◌<◌, ◌≤◌, ◌==◌, nat_lt, Option, None, Some, IfSome, is_some, option_map, List, map, All, count_by}
use Rattle.std.specs.List.{AllPairs, filter_map}
use Rattle.macho_unwind_pages.specs.declared.entries.UnwindInput.{UnwindInput}
use Rattle.macho_unwind_pages.specs.declared.entries.ResolvedUnwindInfo.{ResolvedUnwindInfo}
use Rattle.macho_unwind_pages.specs.Orders.{in_order}

-- the most personality functions that a section has
abbrev pub MOST_PERSONALITIES : ℕ
MOST_PERSONALITIES = 3

-- an entry without its addresses
abbrev pub input_of : ResolvedUnwindInfo → UnwindInput
input_of e = record { encoding = e.encoding; personality = option_map (λ p. p.id) e.personality; lsda = is_some e.lsda }

abbrev pub inputs_of : List ResolvedUnwindInfo → List UnwindInput
inputs_of entries = map input_of entries

-- the ids of the personalities, rising, each once
abbrev pub ids_of : List UnwindInput → List ℕ
ids_of entries = in_order nat_lt (filter_map (λ e. e.personality) entries)

-- how many ids are lesser
abbrev pub place_in : List ℕ → ℕ → ℕ
place_in ids id = count_by (λ other. nat_lt other id) ids

-- A personality's number among ids: they are numbered from 1 by rising id; 0 is none.
abbrev pub number_in : List ℕ → Option ℕ → ℕ
number_in ids None = 0
number_in ids (Some id) = 1 + place_in ids id

-- an entry's code: its encoding with its personality's number in bits 28 and 29
abbrev pub code_in : List ℕ → UnwindInput → ℕ
code_in ids e = e.encoding + 2 ^ 28 * number_in ids e.personality

-- the code of each entry
abbrev pub codes_of : List UnwindInput → List ℕ
codes_of entries = map (code_in (ids_of entries)) entries

-- how often a code stands in a list
abbrev pub times : List ℕ → ℕ → ℕ
times codes code = count_by (λ other. code == other) codes

-- What is asked of entries: starts are distinct, no address is below the text's, no function ends at 2^64 or later,
-- one id has one slot, and the personality's bits of encodings are clear.
pub record AreEntries (text : ℕ) (entries : List ResolvedUnwindInfo) : Type 0 where
  pub distinct : AllPairs (λ e f. e.start ≢ f.start) entries
  pub starts : All (λ e. text ≤ e.start) entries
  pub slots : All (λ e. IfSome e.personality (λ p. text ≤ p.slot)) entries
  pub lsdas : All (λ e. IfSome e.lsda (λ address. text ≤ address)) entries
  pub ends : All (λ e. e.start + e.length < 2 ^ 64) entries
  pub alike : All (λ e. All (λ f.
      IfSome e.personality (λ p. IfSome f.personality (λ q. p.id ≡ q.id → p.slot ≡ q.slot))) entries) entries
  pub clear : All (λ e. e.encoding / 2 ^ 28 % 4 ≡ 0) entries

-- no entry starts later
abbrev pub IsLast : List ResolvedUnwindInfo → ResolvedUnwindInfo → Type 0
IsLast entries e = All (λ f. f.start ≤ e.start) entries

-- the greatest start is no more than a span above the least
abbrev pub SpansAtMost : ℕ → List ResolvedUnwindInfo → Type 0
SpansAtMost span entries = All (λ e. All (λ f. f.start ≤ e.start + span) entries) entries
