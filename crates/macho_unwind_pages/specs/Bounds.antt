-- The room that the unwind section of entries needs at most, from what is known before they have addresses.
-- The records are those of mach-o/compact_unwind_encoding.h.
use Rattle.std.specs.Prelude.{ℕ, ◌+◌, ◌-◌, ◌*◌, ◌/◌, ◌^◌, ◌==◌, if◌then◌else◌, not, Bool, List, length, take, count_by, ◌&&◌, ◌||◌, nat_lt}
use Rattle.std.specs.List.{list_any}
use Rattle.macho_unwind_pages.specs.declared.entries.UnwindInput.{UnwindInput}
use Rattle.macho_unwind_pages.specs.Orders.{in_order}
use Rattle.macho_unwind_pages.specs.Entries.{ids_of, codes_of, times}

-- the offsets that a word of a page can tell
abbrev pub PAGE_SPAN : ℕ
PAGE_SPAN = 2 ^ 24

-- the most encodings that every page may name: an encoding's number on a page is one of 256, of which 224 are for these, and 32 for those
-- of one page
abbrev pub MOST_GLOBALS : ℕ
MOST_GLOBALS = 224

-- the most encodings that one page names alone
abbrev pub MOST_LOCALS : ℕ
MOST_LOCALS = 32

-- the most words and encodings that stand on one page: it has 4,096 bytes with its head, and each of these has 4
abbrev pub MOST_WORDS : ℕ
MOST_WORDS = 1021

-- the codes that every page may name: those that stand most often; of two that stand as often the greater comes first
abbrev pub globals_of : List ℕ → List ℕ
globals_of codes =
    take MOST_GLOBALS
    (in_order (λ a b. nat_lt (times codes b) (times codes a) || (times codes a == times codes b && nat_lt b a)) codes)

-- a code is one of these
abbrev pub is_one_of : List ℕ → ℕ → Bool
is_one_of codes code = list_any (λ other. code == other) codes

-- how many entries have a code that not every page may name
abbrev pub local_count : List UnwindInput → ℕ
local_count entries = count_by (λ code. not (is_one_of (globals_of (codes_of entries)) code)) (codes_of entries)

-- the most pages of entries whose starts are no more than a span apart: one, and one more for each reason that closes a page (one with a
-- single word free may be closed, as a function may need two: its own and its encoding)
abbrev pub most_pages : List UnwindInput → ℕ → ℕ
most_pages entries span =
    if length entries == 0 then 0
    else 1 + span / PAGE_SPAN + local_count entries / MOST_LOCALS + (length entries + local_count entries) / (MOST_WORDS - 1)

-- the most bytes of their unwind section: header, encodings, personalities, entries for language-specific data, entries for pages and one
-- behind the last, heads of pages, words, encodings of one page
abbrev pub unwind_bound_of : List UnwindInput → ℕ → ℕ
unwind_bound_of entries span =
    28 + 4 * length (globals_of (codes_of entries)) + 4 * length (ids_of entries) + 8 * count_by (λ e. e.lsda) entries
    + 12 * (most_pages entries span + 1) + 12 * most_pages entries span + 4 * length entries + 4 * local_count entries
