-- What the plain walks over an image's commands say.
use Rattle.std.specs.Prelude.{◌≡◌, ℕ, ◌+◌, ◌-◌, ◌<◌, ◌≤◌, ◌*◌, nat_le, nat_lt, if◌then◌else◌, ◌&&◌, Bool, List, slice_index}
use Rattle.macho_bytes.specs.Numbers.{le_at}
use Rattle.macho_records.specs.declared.header.SegmentCommand.{SegmentCommand}
use Rattle.macho_model.specs.Commands.{command_at}
use Rattle.macho_model.specs.Loader.{segment_in}
use Rattle.macho_model.specs.Chain.{ChainSegment, chain_segment, chain_segments, IsFileWord, next_of, STRIDE, OnPageChain}
use Rattle.macho_model.specs.Needs.{POINTER_SIZE}
use Rattle.macho_image_walks.specs.Readings.{IsNth}
use Rattle.macho_image_walks.specs.declared.walk.Listed.TheVariants as list

-- a segment has a byte at an address: one of the file, or zero behind its file bytes
pub record SegmentHas (b : List ℕ) (s : SegmentCommand) (a v : ℕ) : Type 0 where
  pub from : s.vmaddr ≤ a
  pub to : a < s.vmaddr + s.vmsize
  pub is : v ≡ (if nat_lt (a - s.vmaddr) s.filesize then slice_index b (s.fileoff + (a - s.vmaddr)) else 0)

-- the mapped segment with a number, if there is one, has no byte at an address
abbrev pub NthLacksByte : List ℕ → ℕ → ℕ → Type 0
NthLacksByte b number a =
    (place : ℕ) → IsNth list.Mapped b number place → (v : ℕ) → SegmentHas b (segment_in b (command_at b place)) a v → ⊥

-- a chain leads from one address to another
pub data Leads (b : List ℕ) : ℕ → ℕ → Type 0 where
  here : (a : ℕ) → Leads b a a
  on : (a word c : ℕ) → IsFileWord (chain_segments b) b a word → 1 ≤ next_of word → Leads b (a + STRIDE * next_of word) c → Leads b a c

-- the segment of a command, as chains see it
abbrev pub chain_segment_at : List ℕ → ℕ → ℕ → ChainSegment
chain_segment_at b number place = chain_segment b (number, segment_in b (command_at b place))

-- the word at an address in a segment, and whether it stands whole in its file part
abbrev pub word_in : List ℕ → ChainSegment → ℕ → ℕ
word_in b s a = le_at POINTER_SIZE b (s.file_offset + (a - s.address))

abbrev pub stands_in : ChainSegment → ℕ → Bool
stands_in s a = nat_le s.address a && nat_le (a + POINTER_SIZE) (s.address + s.file_size)

-- an address is on the chain of a page of a segment, by number and place of its command; or on none of the segment's
abbrev pub IsOnPage : List ℕ → ℕ → ℕ → ℕ → ℕ → Type 0
IsOnPage b number place page a = OnPageChain (chain_segments b) b (chain_segment_at b number place) page a

abbrev pub IsOffSegment : List ℕ → ℕ → ℕ → Type 0
IsOffSegment b number a = (place : ℕ) → IsNth list.Segments b number place → (page : ℕ) → IsOnPage b number place page a → ⊥
