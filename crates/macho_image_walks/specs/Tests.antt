-- The loader's tests: which commands are asked which of them, and whether a page of a segment holds a word.
use Rattle.std.specs.Prelude.{ℕ, ◌+◌, ◌*◌, ◌%◌, ◌^◌, ◌==◌, nat_le, ◌&&◌, ◌||◌, Bool, List, length}
use Rattle.std.specs.List.{list_all, range_with_len}
use Rattle.macho_records.specs.ByteLayouts.{size_of}
use Rattle.macho_records.specs.CommandLayouts.{chained_fixups_header}
use Rattle.macho_records.specs.declared.header.SegmentCommand.{SegmentCommand}
use Rattle.macho_model.specs.Commands.{Command, command_fits}
use Rattle.macho_model.specs.Images.{table_of_command, Table, segments_of, base_of, fixups_header, starts_count, segment_starts, import_entry_size, POINTER_FORMAT, IMPORT_FORMAT, IMPORT_ADDEND_FORMAT}
use Rattle.macho_model.specs.Segments.{SEGMENT_PAGE}
use Rattle.macho_model.specs.LoadRules.{needed_in_image, segment_address, starts_fit, table_fits, protections_fit}
use Rattle.macho_model.specs.Needs.{POINTER_SIZE}
use Rattle.macho_model.specs.Loader.{segment_in}
use Rattle.macho_image_walks.specs.declared.loader_rules.Asked.{Asked}
use Rattle.macho_image_walks.specs.declared.loader_rules.Asked.TheVariants as asked
use Rattle.macho_image_walks.specs.declared.walk.Listed.{Listed}
use Rattle.macho_image_walks.specs.declared.walk.Listed.TheVariants as list
use Rattle.macho_model.specs.SegmentRules.{segment_ends, file_part_inside, segment_is_paged, text_holds_commands, is_writable}

-- a segment's page holds a word: the segment may be written to, and the word stands in the page and in the file part
abbrev pub page_holds : SegmentCommand → ℕ → ℕ → Bool
page_holds s page a =
    is_writable s && nat_le (s.vmaddr + SEGMENT_PAGE * page) a && nat_le (a + POINTER_SIZE) (s.vmaddr + SEGMENT_PAGE * (page + 1))
    && nat_le (a + POINTER_SIZE) (s.vmaddr + s.filesize)

-- a segment's starts are known ones: they have the page size and the format, and the segment's place
abbrev pub starts_known : List ℕ → Table → ℕ → Bool
starts_known b t k =
    let s = segment_starts b t k in
    (s.page_size == SEGMENT_PAGE) && (s.pointer_format == POINTER_FORMAT)
    && ((s.segment_offset + base_of b) % 2 ^ 64 == segment_address b k)

-- those of each segment are right
abbrev pub starts_all_fit : List ℕ → Table → Bool
starts_all_fit b t = list_all (starts_fit b t) (range_with_len 0 (starts_count b t))

-- a table's header is whole, and has known versions and formats
abbrev pub header_known : List ℕ → Table → Bool
header_known b t =
    let h = fixups_header b t in
    nat_le (size_of chained_fixups_header) t.size && (h.fixups_version == 0)
    && ((h.imports_format == IMPORT_FORMAT) || (h.imports_format == IMPORT_ADDEND_FORMAT)) && (h.symbols_format == 0)

-- a table's parts stand inside it: starts of segments that are there, import entries and names
abbrev pub parts_inside : List ℕ → Table → Bool
parts_inside b t =
    let h = fixups_header b t in
    nat_le (h.starts_offset + 4 + 4 * starts_count b t) t.size && nat_le (starts_count b t) (length (segments_of b))
    && nat_le (h.imports_offset + import_entry_size h.imports_format * h.imports_count) t.size && nat_le h.symbols_offset t.size

-- the commands that are asked
abbrev pub list_of : Asked → Listed
list_of asked.Whole = list.All
list_of asked.Protections = list.Segments
list_of asked.FileBytes = list.Segments
list_of asked.Pages = list.Segments
list_of asked.End = list.Segments
list_of asked.Commands = list.Texts
list_of asked.Table = list.Tables

-- the test that each is to pass
abbrev pub test_of : Asked → List ℕ → Command → Bool
test_of asked.Whole b c = command_fits (needed_in_image b) b c
test_of asked.Protections b c = protections_fit (segment_in b c)
test_of asked.FileBytes b c = file_part_inside b (segment_in b c)
test_of asked.Pages b c = segment_is_paged (segment_in b c)
test_of asked.End b c = segment_ends (segment_in b c)
test_of asked.Commands b c = text_holds_commands b (segment_in b c)
test_of asked.Table b c = table_fits b (table_of_command b c)
