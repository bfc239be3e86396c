-- The words on the chain: those that the loader writes anew. They are the least set with two rules: a page start puts
-- its word on the chain, and each word on the chain leads to the next one (`mach-o/fixup-chains.h`).
use Rattle.std.specs.Prelude.{◌≡◌, ◌≢◌, ℕ, ◌+◌, ◌*◌, ◌-◌, ◌<◌, ◌≤◌, nat_lt, if◌then◌else◌, List, [], length, map, slice_index, Contains}
use Rattle.std.specs.List.{enumerate_from}
use Rattle.macho_records.specs.Numbers.{le_at, bits}
use Rattle.macho_records.specs.declared.header.SegmentCommand.{SegmentCommand}
use Rattle.macho_model.specs.Images.{Table, segments_of, tables_of, starts_count, page_starts, NO_START}
use Rattle.macho_model.specs.Needs.{POINTER_SIZE}
use Rattle.macho_model.specs.Segments.{SEGMENT_PAGE}
use Rattle.macho_model.specs.Lists.{of_first}

-- A segment as chains see it: its address, its file range and its page starts.
pub record ChainSegment : Type 0 where
  pub address : ℕ
  pub file_offset : ℕ
  pub file_size : ℕ
  pub starts : List ℕ

-- the eight file bytes of a word, as a number: it stands whole in the file part of a segment
pub record IsFileWord (segments : List ChainSegment) (b : List ℕ) (a word : ℕ) : Type 0 where
  pub segment : ChainSegment
  pub one : Contains segments segment
  pub from : segment.address ≤ a
  pub to : a + POINTER_SIZE ≤ segment.address + segment.file_size
  pub is : word ≡ le_at POINTER_SIZE b (segment.file_offset + (a - segment.address))

-- the steps of four bytes to the next word of the page, 0 at the last: 12 bits above bit 50
abbrev pub next_of : ℕ → ℕ
next_of word = bits 51 12 word

-- the bytes of such a step
abbrev pub STRIDE : ℕ
STRIDE = 4

-- The set of addresses of chain words.
pub data OnChain (segments : List ChainSegment) (b : List ℕ) : ℕ → Type 0 where
  first : (s : ChainSegment) (page : ℕ) → Contains segments s → page < length s.starts → slice_index s.starts page ≢ NO_START
      → OnChain segments b (s.address + SEGMENT_PAGE * page + slice_index s.starts page)
  next : (a word : ℕ) → OnChain segments b a → IsFileWord segments b a word → 1 ≤ next_of word
      → OnChain segments b (a + STRIDE * next_of word)

-- The words of one page's chain: its start, and each word that a word of it leads to.
pub data OnPageChain (segments : List ChainSegment) (b : List ℕ) (s : ChainSegment) (page : ℕ) : ℕ → Type 0 where
  first : page < length s.starts → slice_index s.starts page ≢ NO_START
      → OnPageChain segments b s page (s.address + SEGMENT_PAGE * page + slice_index s.starts page)
  next : (a word : ℕ) → OnPageChain segments b s page a → IsFileWord segments b a word → 1 ≤ next_of word
      → OnPageChain segments b s page (a + STRIDE * next_of word)

-- the page starts that the first table has for the segment of a number
abbrev pub starts_in_tables : List ℕ → List Table → ℕ → List ℕ
starts_in_tables b tables k = of_first [] (λ t. if nat_lt k (starts_count b t) then page_starts b t k else []) tables

-- a segment by its number and its command
abbrev pub chain_segment : List ℕ → ℕ × SegmentCommand → ChainSegment
chain_segment b (k, s) =
    record { address = s.vmaddr; file_offset = s.fileoff; file_size = s.filesize; starts = starts_in_tables b (tables_of b) k }

-- the segments of a file, with its page starts
unfoldable pub chain_segments : List ℕ → List ChainSegment
chain_segments b = map (chain_segment b) (enumerate_from 0 (segments_of b))

abbrev pub OnChainOf : List ℕ → ℕ → Type 0
OnChainOf b a = OnChain (chain_segments b) b a
