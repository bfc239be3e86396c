-- The chained fixup table (`mach-o/fixup-chains.h`): its header, where the chain of each page starts, the entries of
-- imports, and the names.
use Rattle.std.specs.Prelude.{ℕ, ◌+◌, ◌*◌, ◌-◌, ◌/◌, ◌^◌, ◌==◌, if◌then◌else◌, List, [], ◌∷◌, ◌++◌, length, sum_by}
use Rattle.std.specs.Int.{w32, cast_unsigned}
use Rattle.std.specs.List.{flat_map, range_with_len}
use Rattle.macho_bytes.specs.Numbers.{le_bytes, rounded_up}
use Rattle.macho_wire.specs.declared.fixups.ChainedFixupsHeader.{ChainedFixupsHeader}
use Rattle.macho_wire.specs.declared.fixups.ChainedStartsInSegment.{ChainedStartsInSegment}
use Rattle.macho_model.specs.Images.{import_entry_size, POINTER_FORMAT, IMPORT_ADDEND_FORMAT}
use Rattle.macho_model.specs.WrittenSum.{FIXUP_RECORDS}
use Rattle.macho_model.specs.Segments.{SEGMENT_PAGE}
use Rattle.macho_fixups.specs.declared.run.Fixup.{Fixup}
use Rattle.macho_fixups.specs.declared.run.FixupSegment.{FixupSegment}
use Rattle.macho_fixups.specs.declared.imports.ImportEntry.{ImportEntry}
use Rattle.macho_fixups.specs.Runs.{pages_of, start_of}
use Rattle.macho_bytes.specs.Spellings.{spelling}
use Rattle.macho_wire.specs.Spellings.{chained_fixups_header_rows, chained_starts_in_segment_rows}

-- the starts of so many pages from a number on, two bytes each
unfoldable pub page_starts_text : List Fixup → ℕ → ℕ → List ℕ
page_starts_text fixups first pages = flat_map (λ page. le_bytes 2 (start_of fixups (first + page))) (range_with_len 0 pages)

-- the bytes that tell of a segment with so many pages
abbrev pub starts_size : ℕ → ℕ
starts_size pages = if pages == 0 then 0 else 22 + 2 * pages

-- the record of a segment with so many pages
abbrev pub starts_record : ℕ → FixupSegment → ℕ → ChainedStartsInSegment
starts_record base s pages = record {
  size = 22 + 2 * pages;
  page_size = SEGMENT_PAGE;
  pointer_format = POINTER_FORMAT;
  segment_offset = s.address - base;
  max_valid_pointer = 0;
  page_count = pages;
}

-- what is told of a segment with so many pages, nothing where it has none
unfoldable pub starts_text : ℕ → List Fixup → FixupSegment → ℕ → List ℕ
starts_text base fixups s pages =
    if pages == 0 then []
    else spelling chained_starts_in_segment_rows (starts_record base s pages) ++ page_starts_text fixups (s.address / SEGMENT_PAGE) pages

unfoldable pub segment_text : ℕ → List Fixup → FixupSegment → List ℕ
segment_text base fixups s = starts_text base fixups s (pages_of s fixups)

unfoldable pub segment_size : List Fixup → FixupSegment → ℕ
segment_size fixups s = starts_size (pages_of s fixups)

-- where that stands for each segment, from a place on; 0 where there is nothing
unfoldable pub offsets_text : ℕ → List Fixup → List FixupSegment → List ℕ
offsets_text place fixups [] = []
offsets_text place fixups (s ∷ segments) =
    le_bytes 4 (if pages_of s fixups == 0 then 0 else place) ++ offsets_text (place + segment_size fixups s) fixups segments

-- the starts of an image: how many segments, an offset for each, and what is told of each
unfoldable pub image_starts_text : ℕ → List Fixup → List FixupSegment → List ℕ
image_starts_text base fixups segments =
    le_bytes 4 (length segments) ++ (offsets_text (4 + 4 * length segments) fixups segments ++ flat_map (segment_text base fixups) segments)

unfoldable pub image_starts_size : List Fixup → List FixupSegment → ℕ
image_starts_size fixups segments = 4 + 4 * length segments + sum_by (segment_size fixups) segments

-- the word of an entry, from its lowest bit: library 8, weak 1, name offset 23
abbrev pub entry_word : ImportEntry → ℕ
entry_word e = e.library + e.name_offset * 2 ^ 9

-- an entry: the word alone, or the word and a signed addend
unfoldable pub entry_text : ℕ → ImportEntry → List ℕ
entry_text format e =
    if format == IMPORT_ADDEND_FORMAT then le_bytes 4 (entry_word e) ++ le_bytes 4 (cast_unsigned w32 e.addend)
    else le_bytes 4 (entry_word e)

-- the place of the entries, and of the names behind them
abbrev pub imports_place : List Fixup → List FixupSegment → ℕ
imports_place fixups segments = 28 + image_starts_size fixups segments

abbrev pub names_place : List Fixup → List FixupSegment → ℕ → List ImportEntry → ℕ
names_place fixups segments format imports = imports_place fixups segments + import_entry_size format * length imports

abbrev pub table_header : List Fixup → List FixupSegment → ℕ → List ImportEntry → ChainedFixupsHeader
table_header fixups segments format imports = record {
  fixups_version = 0;
  starts_offset = 28;
  imports_offset = imports_place fixups segments;
  symbols_offset = names_place fixups segments format imports;
  imports_count = length imports;
  imports_format = format;
  symbols_format = 0;
}

-- the table.
unfoldable pub table_text : ℕ → List Fixup → List FixupSegment → ℕ → List ImportEntry → List ℕ → List ℕ
table_text base fixups segments format imports names =
    spelling chained_fixups_header_rows (table_header fixups segments format imports)
    ++ (image_starts_text base fixups segments ++ (flat_map (entry_text format) imports ++ names))

-- the bytes that are kept for a table of so many entries, bytes of names and pages
abbrev pub table_room : ℕ → ℕ → ℕ → ℕ → ℕ
table_room entries entry_size name_bytes pages = rounded_up 8 (FIXUP_RECORDS + entry_size * entries + name_bytes) + rounded_up 8 (2 * pages)
