-- The greatest numbers that an image may have, and when a link or an image passes one. Most are those that a field has room for: 240
-- libraries (ordinals of 8 bits, of which the highest are special), 255 sections (`n_sect`), 3 personalities (two bits of an encoding),
-- imports (24 bits of a bound word), bytes of names (23 bits of an import), pages of a segment (`page_count`). Pages are counted in a
-- placement alone.
use Rattle.std.specs.Prelude.{◌≡◌, ℕ, ◌+◌, ◌-◌, ◌^◌, ◌<◌, ◌≤◌, ◌⊎◌, length, Option, Some, None, MatchOption, Contains, true}
use Rattle.std.specs.FinMap.{empty}
use Rattle.macho_records.specs.Segments.{text_of}
use Rattle.macho_model.specs.declared.targets.Target.{Target}
use Rattle.macho_model.specs.declared.targets.Limit.{Limit}
use Rattle.macho_model.specs.declared.targets.Limit.TheVariants as limit
use Rattle.macho_model.specs.declared.placed.Counts.{Counts}
use Rattle.macho_model.specs.declared.placed.PlacedSegment.{PlacedSegment}
use Rattle.macho_model.specs.declared.placed.Range64.{Range64}
use Rattle.macho_model.specs.ExportLists.{plain_entries}
use Rattle.macho_model.specs.Links.{Link, SectionId, header_at}
use Rattle.macho_model.specs.Resolution.{symbols_of}
use Rattle.macho_model.specs.Needs.{section_named, libraries_needed, initializer_sections}
use Rattle.macho_model.specs.Targets.{target_of_relocation}
use Rattle.macho_model.specs.Consumed.{personality_targets, EntryId, entries_of_link, relocations_in_entry, unwind_entry, START_PLACE, LSDA_PLACE}
use Rattle.macho_model.specs.Segments.{may_hold_pointers, segment_names_of, output_count}
use Rattle.macho_model.specs.WrittenSum.{written_sum_of}
use Rattle.macho_model.specs.Placement.{Placed, linkedit_ranges}
use Rattle.macho_model.specs.Order.{pages_of}
use Rattle.macho_model.specs.Stands.{IsAt, SlotAt, SectionAt}

-- a number that a limit speaks of, without a placement, and the greatest that it may be
abbrev pub limited : Link → Counts → Limit → ℕ × ℕ
limited l counts limit.Segments = (length (segment_names_of l), 6)
limited l counts limit.Libraries = (length (libraries_needed l), 240)
limited l counts limit.Sections = (output_count l counts, 255)
limited l counts limit.Personalities = (length (personality_targets l), 3)
limited l counts limit.Imports = (counts.imports, 2 ^ 24)
limited l counts limit.NameBytes = (counts.name_bytes, 2 ^ 23)
limited l counts limit.Symbols = (length (symbols_of l) + length (plain_entries l.export_lists), 2 ^ 32 - 2)
limited l counts limit.Pages = (0, 65535)

-- a number of the link passes its limit, or the pages of a segment do that the loader writes pointers in
abbrev pub PassesLimit : Link → Counts → Limit → ℕ → Option Placed → Type 0
PassesLimit l counts what number None = (number ≡ (limited l counts what).0) × ((limited l counts what).1 < number)
PassesLimit l counts limit.Pages number (Some p) =
    (s : PlacedSegment) × Contains p.segments s × (may_hold_pointers (text_of s.name) ≡ true) × (number ≡ pages_of s)
    × ((limited l counts limit.Pages).1 < number)
PassesLimit l counts what number (Some p) = ⊥

-- the numbers that are written in 32 bits
abbrev pub LIMIT_32 : ℕ
LIMIT_32 = 2 ^ 32

-- An address whose offset from the base has to fit 32 bits: an initializer, the start or the end of a function (only the last one's end is
-- written), its language data, the slot of its personality.
pub data IsWritten32 (l : Link) (p : Placed) : ℕ → Type 0 where
  initializer : (s : SectionId) (r x : ℕ) → Contains (initializer_sections l) s → r < (header_at l s).nreloc
      → IsAt l p 0 empty (target_of_relocation l s r) x → IsWritten32 l p x
  function : (d : EntryId) (r at extra : ℕ) → Contains (entries_of_link l) d
      → Contains (relocations_in_entry l d.of_section d.entry START_PLACE) r
      → SectionAt p d.of_section.file (section_named l d.of_section r).section at
      → (extra ≡ 0) ⊎ (extra ≡ (unwind_entry l d.of_section d.entry).length)
      → IsWritten32 l p (at + ((unwind_entry l d.of_section d.entry).start - (header_at l (section_named l d.of_section r)).addr) + extra)
  language : (d : EntryId) (r at : ℕ) → Contains (entries_of_link l) d
      → Contains (relocations_in_entry l d.of_section d.entry LSDA_PLACE) r
      → SectionAt p d.of_section.file (section_named l d.of_section r).section at
      → IsWritten32 l p (at + ((unwind_entry l d.of_section d.entry).lsda - (header_at l (section_named l d.of_section r)).addr))
  personality : (t : Target) (x : ℕ) → Contains (personality_targets l) t → SlotAt p 0 t x → IsWritten32 l p x

-- a file offset or size, the end of a table, or an offset from the base that initializers or unwind entries are written as,
-- passes 32 bits
abbrev pub ImagePasses : Link → Placed → Type 0
ImagePasses l p =
    ((s : PlacedSegment) × Contains p.segments s × ((LIMIT_32 ≤ s.file_offset) ⊎ (LIMIT_32 ≤ s.file_size)))
    ⊎ ((r : Range64) × Contains (linkedit_ranges p) r × (LIMIT_32 ≤ r.end))
    ⊎ ((x : ℕ) × IsWritten32 l p x × (p.base + LIMIT_32 ≤ x))

abbrev pub IsTooLarge : Link → Counts → Option Placed → Type 0
IsTooLarge l counts placement = MatchOption placement (2 ^ 64 ≤ written_sum_of l counts + LIMIT_32) (ImagePasses l)
