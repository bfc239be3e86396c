-- What the bytes of a section `__unwind_info` say (mach-o/compact_unwind_encoding.h). Every offset in the header and in
-- the page entries counts from the section's start, those in a page from the page's start.
use Rattle.std.specs.Prelude.{◌≡◌, ℕ, ◌+◌, ◌*◌, ◌/◌, ◌%◌, ◌-◌, ◌^◌, ◌≤◌, nat_lt, if◌then◌else◌, List, length, Option, Some, None}
use Rattle.macho_bytes.specs.Numbers.{le_at, bits}
use Rattle.macho_bytes.specs.Layouts.{reading, size_of}
use Rattle.macho_unwind.specs.Layouts.{compact_unwind_info_header, page_entry, compressed_page, lsda_entry}
use Rattle.macho_unwind.specs.declared.records.CompactUnwindInfoHeader.{CompactUnwindInfoHeader}
use Rattle.macho_unwind.specs.declared.records.PageEntry.{PageEntry}
use Rattle.macho_unwind.specs.declared.records.CompressedPage.{CompressedPage}
use Rattle.macho_unwind.specs.declared.records.LsdaEntry.{LsdaEntry}

-- the bytes of an encoding, of a function word and of a personality
abbrev pub WORD : ℕ
WORD = 4

-- so many items of a size stand whole inside the bytes, from a place on; where there is none, the place itself is
-- inside
abbrev pub IsWhole : List ℕ → ℕ → ℕ → ℕ → Type 0
IsWhole bytes at size count = at + size * count ≤ length bytes

-- the header, which is the first record of the section
abbrev pub header_of : List ℕ → CompactUnwindInfoHeader
header_of bytes = reading compact_unwind_info_header bytes 0

-- The header and the tables that it tells of are whole.
pub record HasTables (bytes : List ℕ) : Type 0 where
  pub header : size_of compact_unwind_info_header ≤ length bytes
  pub encodings : IsWhole bytes (header_of bytes).global_opcodes_offset WORD (header_of bytes).global_opcodes_len
  pub personalities : IsWhole bytes (header_of bytes).personalities_offset WORD (header_of bytes).personalities_len
  pub pages : IsWhole bytes (header_of bytes).pages_offset (size_of page_entry) (header_of bytes).pages_len

-- page entry number k
unfoldable pub entry_at : List ℕ → ℕ → PageEntry
entry_at bytes k = reading page_entry bytes ((header_of bytes).pages_offset + size_of page_entry * k)

-- the number of the last page entry, which has no page and says where the last function ends
abbrev pub last_entry : List ℕ → ℕ
last_entry bytes = (header_of bytes).pages_len - 1

-- the start of the first function of a page
abbrev pub first_at : List ℕ → ℕ → ℕ
first_at bytes k = (entry_at bytes k).first_address

-- the head of the page of entry k
unfoldable pub page_at : List ℕ → ℕ → CompressedPage
page_at bytes k = reading compressed_page bytes (entry_at bytes k).page_offset

-- as many LSDA entries as fit between the place that entry k tells and the one that the next entry tells
abbrev pub lsda_count : List ℕ → ℕ → ℕ
lsda_count bytes k =
    ((entry_at bytes (k + 1)).lsda_index_offset - (entry_at bytes k).lsda_index_offset) / size_of lsda_entry

-- LSDA entry number j of those of entry k
unfoldable pub lsda_at : List ℕ → ℕ → ℕ → LsdaEntry
lsda_at bytes k j = reading lsda_entry bytes ((entry_at bytes k).lsda_index_offset + size_of lsda_entry * j)

-- `UNWIND_SECOND_LEVEL_COMPRESSED`: a page whose functions are words of an index and an offset
abbrev pub COMPRESSED : ℕ
COMPRESSED = 3

-- A compressed page is whole with its functions, its encodings and so many LSDA entries.
pub record IsWholePage (bytes : List ℕ) (entry : PageEntry) (page : CompressedPage) (lsdas : ℕ) : Type 0 where
  pub head : entry.page_offset + size_of compressed_page ≤ length bytes
  pub kind : page.kind ≡ COMPRESSED
  pub functions : IsWhole bytes (entry.page_offset + page.functions_offset) WORD page.functions_len
  pub encodings : IsWhole bytes (entry.page_offset + page.local_opcodes_offset) WORD page.local_opcodes_len
  pub entries : IsWhole bytes entry.lsda_index_offset (size_of lsda_entry) lsdas

-- function word number j of the page of entry k
unfoldable pub word_at : List ℕ → ℕ → ℕ → ℕ
word_at bytes k j = le_at WORD bytes ((entry_at bytes k).page_offset + (page_at bytes k).functions_offset + WORD * j)

abbrev pub start_at : List ℕ → ℕ → ℕ → ℕ
start_at bytes k j = first_at bytes k + word_at bytes k j % 2 ^ 24

-- the encoding of a number: first come those that all pages share, then those of the page; None past both
unfoldable pub encoding_at : List ℕ → ℕ → ℕ → Option ℕ
encoding_at bytes k i =
    let shared = (header_of bytes).global_opcodes_len in
    if nat_lt i shared then Some (le_at WORD bytes ((header_of bytes).global_opcodes_offset + WORD * i))
    else if nat_lt (i - shared) (page_at bytes k).local_opcodes_len
    then Some (le_at WORD bytes (
    (entry_at bytes k).page_offset + (page_at bytes k).local_opcodes_offset + WORD * (i - shared)))
    else None

-- `UNWIND_PERSONALITY_MASK`, bits 28 and 29 of an encoding: the number of its personality from 1 on, 0 for none
abbrev pub personality_in : ℕ → ℕ
personality_in encoding = bits 28 2 encoding

-- the personality of a number from 1 on: the offset of the slot that holds its address
unfoldable pub personality_at : List ℕ → ℕ → ℕ
personality_at bytes number = le_at WORD bytes ((header_of bytes).personalities_offset + WORD * (number - 1))
