-- What both writers ask of fixups and segments, and the pages that have a chain. Pages have 16 KiB.
use Rattle.std.specs.Prelude.{◌≡◌, ℕ, ◌+◌, ◌-◌, ◌/◌, ◌%◌, ◌^◌, ◌≤◌, ◌⊎◌, ◌==◌, ◌&&◌, nat_le, nat_lt, if◌then◌else◌, Bool, List, [], ◌∷◌, map, All, Contains}
use Rattle.std.specs.List.{AllPairs}
use Rattle.macho_model.specs.Images.{NO_START}
use Rattle.macho_model.specs.Links.{greatest}
use Rattle.macho_model.specs.Segments.{SEGMENT_PAGE}
use Rattle.macho_model.specs.Chain.{STRIDE}
use Rattle.macho_model.specs.Needs.{POINTER_SIZE}
use Rattle.macho_fixups.specs.declared.run.Fixup.{Fixup}
use Rattle.macho_fixups.specs.declared.run.FixupSegment.{FixupSegment}
use Rattle.macho_fixups.specs.Words.{FitsOrdinal}

-- a word at an address stands whole in the file part of a segment
abbrev pub Holds : FixupSegment → ℕ → Type 0
Holds s a = (s.address ≤ a) × (a + POINTER_SIZE ≤ s.address + s.file_size)

-- Fixups that chains can hold: both writers ask this of them.
pub record AreFixups (segments : List FixupSegment) (fixups : List Fixup) : Type 0 where
  pub sorted : AllPairs (λ f g. f.address + POINTER_SIZE ≤ g.address) fixups
  pub steps : All (λ f. f.address % STRIDE ≡ 0) fixups
  pub in_page : All (λ f. f.address % SEGMENT_PAGE + POINTER_SIZE ≤ SEGMENT_PAGE) fixups
  pub in_segment : All (λ f. (s : FixupSegment) × Contains segments s × Holds s f.address) fixups
  pub ordinals : All (λ f. FitsOrdinal f.kind) fixups

-- What both writers ask of the segments.
pub record AreSegments (segments : List FixupSegment) : Type 0 where
  pub in_order : AllPairs (λ s t. s.address + s.size ≤ t.address) segments
  pub paged : All (λ s. s.address % SEGMENT_PAGE ≡ 0) segments
  pub apart : AllPairs (λ s t. (s.file_offset + s.file_size ≤ t.file_offset) ⊎ (t.file_offset + t.file_size ≤ s.file_offset)) segments
  pub sizes : All (λ s. s.file_size ≤ s.size) segments
  pub ends : All (λ s. (s.address + s.size ≤ 2 ^ 64) × (s.file_offset + s.file_size ≤ 2 ^ 64)) segments

-- an address is one of a segment's file part
abbrev pub is_in : FixupSegment → ℕ → Bool
is_in s a = nat_le s.address a && nat_lt a (s.address + s.file_size)

-- the pages of a segment up to the last one with a fixup
unfoldable pub pages_of : FixupSegment → List Fixup → ℕ
pages_of s fixups =
    greatest (map (λ f. if is_in s f.address then f.address / SEGMENT_PAGE - s.address / SEGMENT_PAGE + 1 else 0) fixups)

-- the start of a page by its number: the offset of its first fixup, or that there is none
unfoldable pub start_of : List Fixup → ℕ → ℕ
start_of [] number = NO_START
start_of (f ∷ fixups) number = if f.address / SEGMENT_PAGE == number then f.address % SEGMENT_PAGE else start_of fixups number
