-- What the loader asks of an image: tests of one record: the header, a command, a segment's protections, a fixup table, an import. `Loader`
-- has the other rules.
use Rattle.std.specs.Prelude.{ℕ, ◌+◌, ◌*◌, ◌%◌, ◌^◌, ◌==◌, nat_eq, nat_le, ◌&&◌, ◌||◌, if◌then◌else◌, Bool, List, [], ◌∷◌, length, map, drop, get_or}
use Rattle.std.specs.List.{list_all, list_any, range_with_len}
use Rattle.macho_records.specs.ByteLayouts.{size_of}
use Rattle.macho_records.specs.Layouts.{mach_header}
use Rattle.macho_records.specs.CommandLayouts.{chained_fixups_header, chained_starts_in_segment}
use Rattle.macho_records.specs.declared.constants.TheConstants.{CPU_TYPE_ARM64, LC_BUILD_VERSION, LC_CODE_SIGNATURE, LC_DYLD_CHAINED_FIXUPS, LC_DYLD_EXPORTS_TRIE, LC_ID_DYLIB, LC_LOAD_DYLIB, LC_LOAD_DYLINKER, LC_MAIN, LC_RPATH, LC_SEGMENT_64, LC_SYMTAB, LC_UUID, MH_DYLIB, MH_EXECUTE, MH_MAGIC_64}
use Rattle.macho_model.specs.Commands.{Command, header_of, segment_size}
use Rattle.macho_model.specs.ObjectRules.{has_nul}
use Rattle.macho_model.specs.Segments.{SEGMENT_PAGE, loaded_protection_of}
use Rattle.macho_records.specs.declared.header.SegmentCommand.{SegmentCommand}
use Rattle.macho_records.specs.ByteTexts.{name_of}
use Rattle.macho_model.specs.Images.{segments_of, base_of, libraries_of, Table, fixups_header, starts_count, starts_offset, segment_starts, import_entry_size, import_entry, table_names, POINTER_FORMAT, IMPORT_FORMAT, IMPORT_ADDEND_FORMAT}

-- L1: a whole 64-bit arm64 header of an executable or a dynamic library
abbrev pub image_head_fits : List ℕ → Bool
image_head_fits b =
    nat_le (size_of mach_header) (length b) && ((header_of b).magic == MH_MAGIC_64) && ((header_of b).cputype == CPU_TYPE_ARM64)
    && (((header_of b).filetype == MH_EXECUTE) || ((header_of b).filetype == MH_DYLIB))

-- L2: the bytes of each known command's record (`mach-o/loader.h`)
abbrev pub needed_in_image : List ℕ → Command → ℕ
needed_in_image b c =
    if c.number == LC_SEGMENT_64 then segment_size b c.at
    else if list_any (nat_eq c.number) (LC_LOAD_DYLINKER ∷ LC_RPATH ∷ []) then 12
    else if list_any (nat_eq c.number) (LC_CODE_SIGNATURE ∷ LC_DYLD_EXPORTS_TRIE ∷ LC_DYLD_CHAINED_FIXUPS ∷ []) then 16
    else if list_any (nat_eq c.number) (LC_SYMTAB ∷ LC_LOAD_DYLIB ∷ LC_ID_DYLIB ∷ LC_UUID ∷ LC_BUILD_VERSION ∷ LC_MAIN ∷ []) then 24 else 0

-- L3: a segment's protections are those of its name
abbrev pub protections_fit : SegmentCommand → Bool
protections_fit s = (s.maxprot == loaded_protection_of (name_of s.segname)) && (s.initprot == loaded_protection_of (name_of s.segname))

-- the address of a segment by its number, 0 where there is none
abbrev pub segment_address : List ℕ → ℕ → ℕ
segment_address b k = get_or (map (λ s. s.vmaddr) (segments_of b)) k 0

-- L8, of a segment's starts: there are none, or they stand inside the table, with the known page size and format and the segment's place
abbrev pub starts_fit : List ℕ → Table → ℕ → Bool
starts_fit b t k =
    let s = segment_starts b t k in
    (starts_offset b t k == 0)
    || (nat_le ((fixups_header b t).starts_offset + starts_offset b t k + size_of chained_starts_in_segment + 2 * s.page_count) t.size
    && (s.page_size == SEGMENT_PAGE) && (s.pointer_format == POINTER_FORMAT)
    && ((s.segment_offset + base_of b) % 2 ^ 64 == segment_address b k))

-- L8, of a table: it stands inside the file, and its header is whole and has known versions and formats; starts of segments that are there,
-- import entries and names stand inside it
abbrev pub table_fits : List ℕ → Table → Bool
table_fits b t =
    let h = fixups_header b t in
    nat_le (t.at + t.size) (length b) && nat_le (size_of chained_fixups_header) t.size && (h.fixups_version == 0)
    && ((h.imports_format == IMPORT_FORMAT) || (h.imports_format == IMPORT_ADDEND_FORMAT)) && (h.symbols_format == 0)
    && nat_le (h.starts_offset + 4 + 4 * starts_count b t) t.size && nat_le (starts_count b t) (length (segments_of b))
    && nat_le (h.imports_offset + import_entry_size h.imports_format * h.imports_count) t.size && nat_le h.symbols_offset t.size
    && list_all (starts_fit b t) (range_with_len 0 (starts_count b t))

-- L9: an import's library is one of the image's, and its name ends in the table
abbrev pub import_fits : List ℕ → Table → ℕ → Bool
import_fits b t k =
    nat_le 1 (import_entry b t k).library && nat_le (import_entry b t k).library (length (libraries_of b))
    && has_nul (drop (import_entry b t k).name_offset (table_names b t))
