-- The layouts of the records that only say numbers and texts: load commands, chained fixups, unwind entries, the code directory. `n w o` is
-- the number of w bytes at offset o, `t o` the text of 16 bytes there.
use Rattle.macho_bytes.specs.Numbers.{big}
use Rattle.macho_bytes.specs.Layouts.{Layout, little_record}
use Rattle.macho_wire.specs.declared.commands.EntryPointCommand.{EntryPointCommand}
use Rattle.macho_wire.specs.declared.commands.DylinkerCommand.{DylinkerCommand}
use Rattle.macho_wire.specs.declared.commands.DylibCommand.{DylibCommand}
use Rattle.macho_wire.specs.declared.commands.RpathCommand.{RpathCommand}
use Rattle.macho_wire.specs.declared.commands.LinkeditDataCommand.{LinkeditDataCommand}
use Rattle.macho_wire.specs.declared.commands.UuidCommand.{UuidCommand}
use Rattle.macho_wire.specs.declared.commands.BuildVersionCommand.{BuildVersionCommand}
use Rattle.macho_wire.specs.declared.commands.BuildToolVersion.{BuildToolVersion}
use Rattle.macho_wire.specs.declared.fixups.ChainedFixupsHeader.{ChainedFixupsHeader}
use Rattle.macho_wire.specs.declared.fixups.ChainedStartsInSegment.{ChainedStartsInSegment}
use Rattle.macho_wire.specs.declared.unwind.UnwindInfoEntry.{UnwindInfoEntry}
use Rattle.macho_wire.specs.declared.signature.CodeDirectory.{CodeDirectory}

-- `struct entry_point_command`, mach-o/loader.h, `LC_MAIN`
abbrev pub entry_point_command : Layout EntryPointCommand
entry_point_command = little_record 24 (λ n t. record { cmd = n 4 0; cmdsize = n 4 4; entryoff = n 8 8; stacksize = n 8 16 })

-- `struct dylinker_command`, mach-o/loader.h
abbrev pub dylinker_command : Layout DylinkerCommand
dylinker_command = little_record 12 (λ n t. record { cmd = n 4 0; cmdsize = n 4 4; name_offset = n 4 8 })

-- `struct dylib_command`, mach-o/loader.h
abbrev pub dylib_command : Layout DylibCommand
dylib_command = little_record 24 (λ n t. record {
  cmd = n 4 0;
  cmdsize = n 4 4;
  name_offset = n 4 8;
  timestamp = n 4 12;
  current_version = n 4 16;
  compatibility_version = n 4 20;
})

-- `struct rpath_command`, mach-o/loader.h
abbrev pub rpath_command : Layout RpathCommand
rpath_command = little_record 12 (λ n t. record { cmd = n 4 0; cmdsize = n 4 4; name_offset = n 4 8 })

-- `struct linkedit_data_command`, mach-o/loader.h
abbrev pub linkedit_data_command : Layout LinkeditDataCommand
linkedit_data_command = little_record 16 (λ n t. record { cmd = n 4 0; cmdsize = n 4 4; dataoff = n 4 8; datasize = n 4 12 })

-- `struct uuid_command`, mach-o/loader.h
abbrev pub uuid_command : Layout UuidCommand
uuid_command = little_record 24 (λ n t. record { cmd = n 4 0; cmdsize = n 4 4; uuid = t 8 })

-- `struct build_version_command`, mach-o/loader.h
abbrev pub build_version_command : Layout BuildVersionCommand
build_version_command =
    little_record 24 (λ n t. record { cmd = n 4 0; cmdsize = n 4 4; platform = n 4 8; minos = n 4 12; sdk = n 4 16; ntools = n 4 20 })

-- `struct build_tool_version`, mach-o/loader.h
abbrev pub build_tool_version : Layout BuildToolVersion
build_tool_version = little_record 8 (λ n t. record { tool = n 4 0; version = n 4 4 })

-- `struct dyld_chained_fixups_header`, mach-o/fixup-chains.h
abbrev pub chained_fixups_header : Layout ChainedFixupsHeader
chained_fixups_header = little_record 28 (λ n t. record {
  fixups_version = n 4 0;
  starts_offset = n 4 4;
  imports_offset = n 4 8;
  symbols_offset = n 4 12;
  imports_count = n 4 16;
  imports_format = n 4 20;
  symbols_format = n 4 24;
})

-- `struct dyld_chained_starts_in_segment`, mach-o/fixup-chains.h
abbrev pub chained_starts_in_segment : Layout ChainedStartsInSegment
chained_starts_in_segment = little_record 22 (λ n t. record {
  size = n 4 0;
  page_size = n 2 4;
  pointer_format = n 2 6;
  segment_offset = n 8 8;
  max_valid_pointer = n 4 16;
  page_count = n 2 20;
})

-- an entry of `__LD,__compact_unwind`, mach-o/compact_unwind_encoding.h
abbrev pub unwind_info_entry : Layout UnwindInfoEntry
unwind_info_entry =
    little_record 32 (λ n t. record { start = n 8 0; length = n 4 8; encoding = n 4 12; personality = n 8 16; lsda = n 8 24 })

-- `struct __CodeDirectory`, cs_blobs.h (xnu)
abbrev pub code_directory : Layout CodeDirectory
code_directory = record {
  order = big;
  size = 88;
  make = λ n t. record {
    magic = n 4 0;
    length = n 4 4;
    version = n 4 8;
    flags = n 4 12;
    hash_offset = n 4 16;
    ident_offset = n 4 20;
    special_slots = n 4 24;
    code_slots = n 4 28;
    code_limit = n 4 32;
    hash_size = n 1 36;
    hash_type = n 1 37;
    platform = n 1 38;
    page_exponent = n 1 39;
    spare = n 4 40;
    scatter_offset = n 4 44;
    team_offset = n 4 48;
    spare2 = n 4 52;
    code_limit64 = n 8 56;
    exec_base = n 8 64;
    exec_limit = n 8 72;
    exec_flags = n 8 80;
  };
}
