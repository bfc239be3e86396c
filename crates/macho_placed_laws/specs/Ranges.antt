-- The ranges of the file in which the parts of an image stand, by a placement: each part has one of its own.
use Rattle.std.specs.Prelude.{◌≡◌, ◌+◌, ◌≤◌, ◌⊎◌, List, [], ◌∷◌, ◌++◌, map, All, AllPairs}
use Rattle.macho_model.specs.declared.placed.Counts.{Counts}
use Rattle.macho_model.specs.Links.{Link}
use Rattle.macho_model.specs.Placement.{Placed, IsPlaced, head_size, linkedit_ranges}
use Rattle.macho_model.specs.Zeros.{Span}
use Rattle.macho_model.specs.Spans.{AreApart, section_span, slot_span, stub_span, range_span, filled_sections, in_file}
use Rattle.macho_placed_laws.specs.Promise.{IsLaidOut}

-- header, load commands and padding
abbrev pub head_range : Counts → Placed → Span
head_range counts p = record { start = 0; size = head_size counts p }

-- sections that have bytes, slots, stubs, offsets of initializers, unwind information, tables, which are told as ranges of the
-- file, and the head
unfoldable pub file_ranges : Link → Counts → Placed → List Span
file_ranges l counts p =
    map (λ q. in_file p (section_span l q)) (filled_sections l p) ++ map (λ s. in_file p (slot_span s)) p.slots
    ++ map (λ s. in_file p (stub_span s)) p.stubs ++ in_file p (range_span p.init_offsets) ∷ in_file p (range_span p.unwind)
    ∷ map range_span (linkedit_ranges p) ++ head_range counts p ∷ []

-- no two of them share a byte
abbrev pub RangesAreApart : Type 0
RangesAreApart =
    (l : Link) (counts : Counts) (p : Placed) → IsPlaced l counts p → IsLaidOut l counts p → AllPairs AreApart (file_ranges l counts p)

-- and each one that isn't empty ends in the file, which ends with the signature
abbrev pub EndsInFile : Placed → Span → Type 0
EndsInFile p s = (s.size ≡ 0) ⊎ (s.start + s.size ≤ p.linkedit.signature.end)

abbrev pub RangesEnd : Type 0
RangesEnd = (l : Link) (counts : Counts) (p : Placed) → IsPlaced l counts p → IsLaidOut l counts p
    → All (EndsInFile p) (file_ranges l counts p)
