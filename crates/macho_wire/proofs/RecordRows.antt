-- The layouts say what the public headers say: one row for each record.
--
-- Every field has another value, and the bytes were laid out apart from this project, by the C structures of
-- mach-o/loader.h, reloc.h, fixup-chains.h, compact_unwind_encoding.h and cs_blobs.h. The checker computes both
-- directions: the record is spelled by these bytes, and behind three others they are read as this record.
use Rattle.std.proofs.Common.{◌≡◌, ℕ, true, false, List, [], ◌∷◌, refl}
use Rattle.macho_bytes.specs.Numbers.{le_at, be_at, le_bytes, be_bytes, row_bytes}
use Rattle.macho_bytes.specs.Layouts.{reading}
use Rattle.macho_wire.specs.Spellings.{entry_point_command_rows, dylinker_command_rows, dylib_command_rows, rpath_command_rows, linkedit_data_command_rows, uuid_command_rows, build_version_command_rows, build_tool_version_rows, chained_fixups_header_rows, chained_starts_in_segment_rows, unwind_info_entry_rows, code_directory_rows, relocation_info_rows}
use Rattle.macho_bytes.specs.Spellings.{Spelled, spelling}

-- the record is spelled by the bytes, and they are read as the record
abbrev IsRow : {R : Type 0} → Spelled R → R → List ℕ → Type 0
IsRow s r bytes = (spelling s r ≡ bytes) × (reading s.layout (7 ∷ 8 ∷ 9 ∷ bytes) 3 ≡ r)

-- `struct entry_point_command`
entry_point_command-row :
    IsRow entry_point_command_rows
    (record { cmd = 0x80000028; cmdsize = 24; entryoff = 0x1e0; stacksize = 0x100000 })
    (0x28 ∷ 0x00 ∷ 0x00 ∷ 0x80 ∷ 0x18 ∷ 0x00 ∷ 0x00 ∷ 0x00 ∷ 0xe0 ∷ 0x01 ∷ 0x00 ∷ 0x00 ∷ 0x00 ∷ 0x00 ∷ 0x00 ∷ 0x00 ∷ 0x00 ∷ 0x00 ∷
    0x10 ∷ 0x00 ∷ 0x00 ∷ 0x00 ∷ 0x00 ∷ 0x00 ∷ [])
unfolding reading spelling le_at be_at le_bytes be_bytes row_bytes
entry_point_command-row = (refl, refl)

-- `struct dylinker_command`
dylinker_command-row :
    IsRow dylinker_command_rows
    (record { cmd = 14; cmdsize = 32; name_offset = 12 })
    (0x0e ∷ 0x00 ∷ 0x00 ∷ 0x00 ∷ 0x20 ∷ 0x00 ∷ 0x00 ∷ 0x00 ∷ 0x0c ∷ 0x00 ∷ 0x00 ∷ 0x00 ∷ [])
unfolding reading spelling le_at be_at le_bytes be_bytes row_bytes
dylinker_command-row = (refl, refl)

-- `struct dylib_command`
dylib_command-row :
    IsRow dylib_command_rows
    (record { cmd = 12; cmdsize = 56; name_offset = 24; timestamp = 2; current_version = 0x54c0000; compatibility_version = 0x10000 })
    (0x0c ∷ 0x00 ∷ 0x00 ∷ 0x00 ∷ 0x38 ∷ 0x00 ∷ 0x00 ∷ 0x00 ∷ 0x18 ∷ 0x00 ∷ 0x00 ∷ 0x00 ∷ 0x02 ∷ 0x00 ∷ 0x00 ∷ 0x00 ∷ 0x00 ∷ 0x00 ∷
    0x4c ∷ 0x05 ∷ 0x00 ∷ 0x00 ∷ 0x01 ∷ 0x00 ∷ [])
unfolding reading spelling le_at be_at le_bytes be_bytes row_bytes
dylib_command-row = (refl, refl)

-- `struct rpath_command`
rpath_command-row :
    IsRow rpath_command_rows
    (record { cmd = 0x8000001c; cmdsize = 24; name_offset = 12 })
    (0x1c ∷ 0x00 ∷ 0x00 ∷ 0x80 ∷ 0x18 ∷ 0x00 ∷ 0x00 ∷ 0x00 ∷ 0x0c ∷ 0x00 ∷ 0x00 ∷ 0x00 ∷ [])
unfolding reading spelling le_at be_at le_bytes be_bytes row_bytes
rpath_command-row = (refl, refl)

-- `struct linkedit_data_command`
linkedit_data_command-row :
    IsRow linkedit_data_command_rows
    (record { cmd = 0x80000034; cmdsize = 16; dataoff = 0x4000; datasize = 192 })
    (0x34 ∷ 0x00 ∷ 0x00 ∷ 0x80 ∷ 0x10 ∷ 0x00 ∷ 0x00 ∷ 0x00 ∷ 0x00 ∷ 0x40 ∷ 0x00 ∷ 0x00 ∷ 0xc0 ∷ 0x00 ∷ 0x00 ∷ 0x00 ∷ [])
unfolding reading spelling le_at be_at le_bytes be_bytes row_bytes
linkedit_data_command-row = (refl, refl)

-- `struct uuid_command`
uuid_command-row :
    IsRow uuid_command_rows
    (record {
      cmd = 27;
      cmdsize = 24;
      uuid = 0xa0 ∷ 0xa1 ∷ 0xa2 ∷ 0xa3 ∷ 0xa4 ∷ 0xa5 ∷ 0xa6 ∷ 0xa7 ∷ 0xa8 ∷ 0xa9 ∷ 0xaa ∷ 0xab ∷ 0xac ∷ 0xad ∷ 0xae ∷ 0xaf ∷ [];
    })
    (0x1b ∷ 0x00 ∷ 0x00 ∷ 0x00 ∷ 0x18 ∷ 0x00 ∷ 0x00 ∷ 0x00 ∷ 0xa0 ∷ 0xa1 ∷ 0xa2 ∷ 0xa3 ∷ 0xa4 ∷ 0xa5 ∷ 0xa6 ∷ 0xa7 ∷ 0xa8 ∷ 0xa9 ∷
    0xaa ∷ 0xab ∷ 0xac ∷ 0xad ∷ 0xae ∷ 0xaf ∷ [])
unfolding reading spelling le_at be_at le_bytes be_bytes row_bytes
uuid_command-row = (refl, refl)

-- `struct build_version_command`
build_version_command-row :
    IsRow build_version_command_rows
    (record { cmd = 50; cmdsize = 32; platform = 1; minos = 0xe0000; sdk = 0xf1011; ntools = 2 })
    (0x32 ∷ 0x00 ∷ 0x00 ∷ 0x00 ∷ 0x20 ∷ 0x00 ∷ 0x00 ∷ 0x00 ∷ 0x01 ∷ 0x00 ∷ 0x00 ∷ 0x00 ∷ 0x00 ∷ 0x00 ∷ 0x0e ∷ 0x00 ∷ 0x11 ∷ 0x10 ∷
    0x0f ∷ 0x00 ∷ 0x02 ∷ 0x00 ∷ 0x00 ∷ 0x00 ∷ [])
unfolding reading spelling le_at be_at le_bytes be_bytes row_bytes
build_version_command-row = (refl, refl)

-- `struct build_tool_version`
build_tool_version-row :
    IsRow build_tool_version_rows
    (record { tool = 3; version = 0xb00 })
    (0x03 ∷ 0x00 ∷ 0x00 ∷ 0x00 ∷ 0x00 ∷ 0x0b ∷ 0x00 ∷ 0x00 ∷ [])
unfolding reading spelling le_at be_at le_bytes be_bytes row_bytes
build_tool_version-row = (refl, refl)

-- `struct dyld_chained_fixups_header`
chained_fixups_header-row :
    IsRow chained_fixups_header_rows
    (record {
      fixups_version = 9;
      starts_offset = 28;
      imports_offset = 72;
      symbols_offset = 80;
      imports_count = 2;
      imports_format = 1;
      symbols_format = 5;
    })
    (0x09 ∷ 0x00 ∷ 0x00 ∷ 0x00 ∷ 0x1c ∷ 0x00 ∷ 0x00 ∷ 0x00 ∷ 0x48 ∷ 0x00 ∷ 0x00 ∷ 0x00 ∷ 0x50 ∷ 0x00 ∷ 0x00 ∷ 0x00 ∷ 0x02 ∷ 0x00 ∷
    0x00 ∷ 0x00 ∷ 0x01 ∷ 0x00 ∷ 0x00 ∷ 0x00 ∷ 0x05 ∷ 0x00 ∷ 0x00 ∷ 0x00 ∷ [])
unfolding reading spelling le_at be_at le_bytes be_bytes row_bytes
chained_fixups_header-row = (refl, refl)

-- `struct dyld_chained_starts_in_segment`
chained_starts_in_segment-row :
    IsRow chained_starts_in_segment_rows
    (record { size = 24; page_size = 0x4000; pointer_format = 6; segment_offset = 0x8000; max_valid_pointer = 0x1020304; page_count = 1 })
    (0x18 ∷ 0x00 ∷ 0x00 ∷ 0x00 ∷ 0x00 ∷ 0x40 ∷ 0x06 ∷ 0x00 ∷ 0x00 ∷ 0x80 ∷ 0x00 ∷ 0x00 ∷ 0x00 ∷ 0x00 ∷ 0x00 ∷ 0x00 ∷ 0x04 ∷ 0x03 ∷
    0x02 ∷ 0x01 ∷ 0x01 ∷ 0x00 ∷ [])
unfolding reading spelling le_at be_at le_bytes be_bytes row_bytes
chained_starts_in_segment-row = (refl, refl)

-- an entry of `__LD,__compact_unwind`
unwind_info_entry-row :
    IsRow unwind_info_entry_rows
    (record { start = 0x100001000; length = 32; encoding = 0x2000000; personality = 0x100004000; lsda = 0x100005000 })
    (0x00 ∷ 0x10 ∷ 0x00 ∷ 0x00 ∷ 0x01 ∷ 0x00 ∷ 0x00 ∷ 0x00 ∷ 0x20 ∷ 0x00 ∷ 0x00 ∷ 0x00 ∷ 0x00 ∷ 0x00 ∷ 0x00 ∷ 0x02 ∷ 0x00 ∷ 0x40 ∷
    0x00 ∷ 0x00 ∷ 0x01 ∷ 0x00 ∷ 0x00 ∷ 0x00 ∷ 0x00 ∷ 0x50 ∷ 0x00 ∷ 0x00 ∷ 0x01 ∷ 0x00 ∷ 0x00 ∷ 0x00 ∷ [])
unfolding reading spelling le_at be_at le_bytes be_bytes row_bytes
unwind_info_entry-row = (refl, refl)

-- `struct __CodeDirectory`, big-endian
code_directory-row :
    IsRow code_directory_rows
    (record {
      magic = 0xfade0c02;
      length = 0x108;
      version = 0x20400;
      flags = 0x20002;
      hash_offset = 96;
      ident_offset = 88;
      special_slots = 1;
      code_slots = 5;
      code_limit = 0x40f0;
      hash_size = 32;
      hash_type = 2;
      platform = 3;
      page_exponent = 12;
      spare = 4;
      scatter_offset = 6;
      team_offset = 7;
      spare2 = 8;
      code_limit64 = 0x102030405060708;
      exec_base = 9;
      exec_limit = 0x4000;
      exec_flags = 10;
    })
    (0xfa ∷ 0xde ∷ 0x0c ∷ 0x02 ∷ 0x00 ∷ 0x00 ∷ 0x01 ∷ 0x08 ∷ 0x00 ∷ 0x02 ∷ 0x04 ∷ 0x00 ∷ 0x00 ∷ 0x02 ∷ 0x00 ∷ 0x02 ∷ 0x00 ∷ 0x00 ∷
    0x00 ∷ 0x60 ∷ 0x00 ∷ 0x00 ∷ 0x00 ∷ 0x58 ∷ 0x00 ∷ 0x00 ∷ 0x00 ∷ 0x01 ∷ 0x00 ∷ 0x00 ∷ 0x00 ∷ 0x05 ∷ 0x00 ∷ 0x00 ∷ 0x40 ∷ 0xf0 ∷
    0x20 ∷ 0x02 ∷ 0x03 ∷ 0x0c ∷ 0x00 ∷ 0x00 ∷ 0x00 ∷ 0x04 ∷ 0x00 ∷ 0x00 ∷ 0x00 ∷ 0x06 ∷ 0x00 ∷ 0x00 ∷ 0x00 ∷ 0x07 ∷ 0x00 ∷ 0x00 ∷
    0x00 ∷ 0x08 ∷ 0x01 ∷ 0x02 ∷ 0x03 ∷ 0x04 ∷ 0x05 ∷ 0x06 ∷ 0x07 ∷ 0x08 ∷ 0x00 ∷ 0x00 ∷ 0x00 ∷ 0x00 ∷ 0x00 ∷ 0x00 ∷ 0x00 ∷ 0x09 ∷
    0x00 ∷ 0x00 ∷ 0x00 ∷ 0x00 ∷ 0x00 ∷ 0x00 ∷ 0x40 ∷ 0x00 ∷ 0x00 ∷ 0x00 ∷ 0x00 ∷ 0x00 ∷ 0x00 ∷ 0x00 ∷ 0x00 ∷ 0x0a ∷ [])
unfolding reading spelling le_at be_at le_bytes be_bytes row_bytes
code_directory-row = (refl, refl)

-- `struct relocation_info`: bits from the lowest on
relocation_info-row :
    IsRow relocation_info_rows
    (record { r_address = 20; r_symbolnum = 0x30201; r_pcrel = true; r_length = 2; r_extern = false; r_type = 10 })
    (0x14 ∷ 0x00 ∷ 0x00 ∷ 0x00 ∷ 0x01 ∷ 0x02 ∷ 0x03 ∷ 0xa5 ∷ [])
unfolding reading spelling le_at be_at le_bytes be_bytes row_bytes
relocation_info-row = (refl, refl)
