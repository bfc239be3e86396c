-- What the bytes of an image say to the loader: its segments, its libraries, its fixup table. Each is a total function
-- of the whole list of bytes; `Loader` tells when an image is accepted.
use Rattle.std.specs.Prelude.{ℕ, ◌+◌, ◌*◌, ◌-◌, ◌==◌, if◌then◌else◌, not, Bool, List, [], map, filter, drop, slice_range, get_or}
use Rattle.std.specs.List.{range_with_len}
use Rattle.std.specs.Str.{bytes_eq}
use Rattle.macho_records.specs.Numbers.{le_at, bits, signed}
use Rattle.macho_records.specs.ByteTexts.{name_of}
use Rattle.macho_records.specs.ByteLayouts.{reading, size_of}
use Rattle.macho_records.specs.Layouts.{segment_command, symtab_command, symtab_entry}
use Rattle.macho_records.specs.CommandLayouts.{entry_point_command, dylib_command, linkedit_data_command, chained_fixups_header, chained_starts_in_segment}
use Rattle.macho_records.specs.declared.header.SegmentCommand.{SegmentCommand}
use Rattle.macho_records.specs.ChainedFixupsHeader.{ChainedFixupsHeader}
use Rattle.macho_records.specs.ChainedStartsInSegment.{ChainedStartsInSegment}
use Rattle.macho_records.specs.declared.constants.TheConstants.{LC_CODE_SIGNATURE, LC_DYLD_CHAINED_FIXUPS, LC_DYLD_EXPORTS_TRIE, LC_LOAD_DYLIB, LC_MAIN, LC_SEGMENT_64, LC_SYMTAB}
use Rattle.macho_model.specs.Commands.{Command, numbered, path_of}
use Rattle.macho_model.specs.Segments.{PAGEZERO, TEXT}
use Rattle.macho_model.specs.Lists.{of_first}

-- the segments, in the order of their commands
unfoldable pub segments_of : List ℕ → List SegmentCommand
segments_of b = map (λ c. reading segment_command b c.at) (numbered LC_SEGMENT_64 b)

abbrev pub is_named : List ℕ → SegmentCommand → Bool
is_named name s = bytes_eq (name_of s.segname) name

abbrev pub segments_named : List ℕ → List ℕ → List SegmentCommand
segments_named name b = filter (is_named name) (segments_of b)

-- the segments that are mapped: all but the one that keeps addresses free
unfoldable pub mapped_segments : List ℕ → List SegmentCommand
mapped_segments b = filter (λ s. not (is_named PAGEZERO s)) (segments_of b)

-- the address of the image's first byte: that of `__TEXT`
unfoldable pub base_of : List ℕ → ℕ
base_of b = of_first 0 (λ s. s.vmaddr) (segments_named TEXT b)

-- the libraries that the image needs, in order; imports count them from 1
unfoldable pub libraries_of : List ℕ → List (List ℕ)
libraries_of b = map (λ c. path_of b c (reading dylib_command b c.at).name_offset) (numbered LC_LOAD_DYLIB b)

-- A table of `__LINKEDIT`: the range of the file that its command gives.
pub record Table : Type 0 where
  pub at : ℕ
  pub size : ℕ

abbrev pub table_of_command : List ℕ → Command → Table
table_of_command b c =
    record { at = (reading linkedit_data_command b c.at).dataoff; size = (reading linkedit_data_command b c.at).datasize }

-- the ranges that the commands of a number give
abbrev pub ranges_of : ℕ → List ℕ → List Table
ranges_of n b = map (table_of_command b) (numbered n b)

-- the fixup tables of a file; the loader takes one at most
unfoldable pub tables_of : List ℕ → List Table
tables_of b = ranges_of LC_DYLD_CHAINED_FIXUPS b

-- the exports tries and the signatures of a file, and where its symbols and its strings stand
unfoldable pub tries_of : List ℕ → List Table
tries_of b = ranges_of LC_DYLD_EXPORTS_TRIE b

unfoldable pub signatures_of : List ℕ → List Table
signatures_of b = ranges_of LC_CODE_SIGNATURE b

unfoldable pub symbol_tables_of : List ℕ → List Table
symbol_tables_of b =
    map (λ c. record { at = (reading symtab_command b c.at).symoff; size = size_of symtab_entry * (reading symtab_command b c.at).nsyms })
    (numbered LC_SYMTAB b)

unfoldable pub string_tables_of : List ℕ → List Table
string_tables_of b =
    map (λ c. record { at = (reading symtab_command b c.at).stroff; size = (reading symtab_command b c.at).strsize }) (numbered LC_SYMTAB b)

-- where an executable begins, as an offset from the address of `__TEXT`; it has one
unfoldable pub entries_of_file : List ℕ → List ℕ
entries_of_file b = map (λ c. (reading entry_point_command b c.at).entryoff) (numbered LC_MAIN b)

abbrev pub fixups_header : List ℕ → Table → ChainedFixupsHeader
fixups_header b t = reading chained_fixups_header b t.at

-- the place of the starts: a number of segments, and for each an offset from here, 0 where it has no fixups
abbrev pub starts_place : List ℕ → Table → ℕ
starts_place b t = t.at + (fixups_header b t).starts_offset

abbrev pub starts_count : List ℕ → Table → ℕ
starts_count b t = le_at 4 b (starts_place b t)

abbrev pub starts_offset : List ℕ → Table → ℕ → ℕ
starts_offset b t k = le_at 4 b (starts_place b t + 4 + 4 * k)

-- the place of a segment's starts, and its record
abbrev pub segment_starts_place : List ℕ → Table → ℕ → ℕ
segment_starts_place b t k = starts_place b t + starts_offset b t k

abbrev pub segment_starts : List ℕ → Table → ℕ → ChainedStartsInSegment
segment_starts b t k = reading chained_starts_in_segment b (segment_starts_place b t k)

-- the start of a page's chain: its first word's offset in the page
abbrev pub page_start : List ℕ → Table → ℕ → ℕ → ℕ
page_start b t k page = le_at 2 b (segment_starts_place b t k + size_of chained_starts_in_segment + 2 * page)

-- a page without a chain (`DYLD_CHAINED_PTR_START_NONE`)
abbrev pub NO_START : ℕ
NO_START = 0xffff

-- the page starts of segment k, none where it has no fixups
abbrev pub page_starts : List ℕ → Table → ℕ → List ℕ
page_starts b t k = if starts_offset b t k == 0 then [] else map (page_start b t k) (range_with_len 0 (segment_starts b t k).page_count)

-- the format of chained pointers: offsets from the base (`DYLD_CHAINED_PTR_64_OFFSET`)
abbrev pub POINTER_FORMAT : ℕ
POINTER_FORMAT = 6

-- the formats of import entries: the word alone, or the word and an addend (`DYLD_CHAINED_IMPORT`, `.._ADDEND`)
abbrev pub IMPORT_FORMAT : ℕ
IMPORT_FORMAT = 1

abbrev pub IMPORT_ADDEND_FORMAT : ℕ
IMPORT_ADDEND_FORMAT = 2

abbrev pub import_entry_size : ℕ → ℕ
import_entry_size format = if format == IMPORT_ADDEND_FORMAT then 8 else 4

-- An entry of the import table: the number of its library from 1, the place of its name among the names, its addend.
pub record ImportEntry : Type 0 where
  pub library : ℕ
  pub name_offset : ℕ
  pub addend : ℕ

abbrev pub import_place : List ℕ → Table → ℕ → ℕ
import_place b t k = t.at + (fixups_header b t).imports_offset + import_entry_size (fixups_header b t).imports_format * k

-- the addend of an entry, modulo 2 ^ 64: signed behind the word, where the format has one
abbrev pub entry_addend : List ℕ → Table → ℕ → ℕ
entry_addend b t k =
    if (fixups_header b t).imports_format == IMPORT_ADDEND_FORMAT then signed 32 (le_at 4 b (import_place b t k + 4)) else 0

-- the word of an entry, from its lowest bit: library 8, weak 1, name offset 23
abbrev pub import_entry : List ℕ → Table → ℕ → ImportEntry
import_entry b t k = record {
  library = bits 0 8 (le_at 4 b (import_place b t k));
  name_offset = bits 9 23 (le_at 4 b (import_place b t k));
  addend = entry_addend b t k;
}

-- the names of a table, up to its end
abbrev pub table_names : List ℕ → Table → List ℕ
table_names b t = slice_range b (t.at + (fixups_header b t).symbols_offset) (t.at + t.size)

-- the name of an import, up to its NUL
abbrev pub import_name : List ℕ → Table → ImportEntry → List ℕ
import_name b t e = name_of (drop e.name_offset (table_names b t))

-- the install name of an import's library
abbrev pub import_library_name : List ℕ → ImportEntry → List ℕ
import_library_name b e = get_or (libraries_of b) (e.library - 1) []
