-- The layouts of the records of `__unwind_info`, mach-o/compact_unwind_encoding.h. `n w o` is the number of w bytes at offset o.
use Rattle.macho_bytes.specs.Layouts.{Layout, little_record}
use Rattle.macho_unwind.specs.declared.records.CompactUnwindInfoHeader.{CompactUnwindInfoHeader}
use Rattle.macho_unwind.specs.declared.records.PageEntry.{PageEntry}
use Rattle.macho_unwind.specs.declared.records.CompressedPage.{CompressedPage}
use Rattle.macho_unwind.specs.declared.records.LsdaEntry.{LsdaEntry}

-- `struct unwind_info_section_header`
abbrev pub compact_unwind_info_header : Layout CompactUnwindInfoHeader
compact_unwind_info_header = little_record 28 (λ n t. record {
  version = n 4 0;
  global_opcodes_offset = n 4 4;
  global_opcodes_len = n 4 8;
  personalities_offset = n 4 12;
  personalities_len = n 4 16;
  pages_offset = n 4 20;
  pages_len = n 4 24;
})

-- `struct unwind_info_section_header_index_entry`
abbrev pub page_entry : Layout PageEntry
page_entry = little_record 12 (λ n t. record { first_address = n 4 0; page_offset = n 4 4; lsda_index_offset = n 4 8 })

-- `struct unwind_info_compressed_second_level_page_header`
abbrev pub compressed_page : Layout CompressedPage
compressed_page = little_record 12 (λ n t. record {
  kind = n 4 0;
  functions_offset = n 2 4;
  functions_len = n 2 6;
  local_opcodes_offset = n 2 8;
  local_opcodes_len = n 2 10;
})

-- `struct unwind_info_section_header_lsda_index_entry`
abbrev pub lsda_entry : Layout LsdaEntry
lsda_entry = little_record 8 (λ n t. record { function_offset = n 4 0; lsda_offset = n 4 4 })
