-- The rows by which these records are spelled.
use Rattle.std.specs.Prelude.{ℕ, ◌+◌, ◌*◌, ◌^◌, ◌==◌, Bool, true, false, List, [], ◌∷◌, replicate}
use Rattle.std.proofs.Common.{refl}
use Rattle.macho_bytes.specs.Numbers.{bits}
use Rattle.macho_bytes.specs.Spellings.{Spelled, numbers, text}
use Rattle.macho_wire.specs.declared.commands.EntryPointCommand.{EntryPointCommand}
use Rattle.macho_wire.specs.declared.commands.DylinkerCommand.{DylinkerCommand}
use Rattle.macho_wire.specs.declared.commands.DylibCommand.{DylibCommand}
use Rattle.macho_wire.specs.declared.commands.RpathCommand.{RpathCommand}
use Rattle.macho_wire.specs.declared.commands.LinkeditDataCommand.{LinkeditDataCommand}
use Rattle.macho_wire.specs.declared.commands.UuidCommand.{UuidCommand}
use Rattle.macho_wire.specs.declared.commands.BuildVersionCommand.{BuildVersionCommand}
use Rattle.macho_wire.specs.declared.commands.BuildToolVersion.{BuildToolVersion}
use Rattle.macho_wire.specs.declared.fixups.ChainedFixupsHeader.{ChainedFixupsHeader}
use Rattle.macho_wire.specs.declared.fixups.ChainedStartsInSegment.{ChainedStartsInSegment}
use Rattle.macho_wire.specs.declared.unwind.UnwindInfoEntry.{UnwindInfoEntry}
use Rattle.macho_wire.specs.declared.signature.CodeDirectory.{CodeDirectory}
use Rattle.macho_wire.specs.declared.relocations.RelocationInfo.{RelocationInfo}
use Rattle.macho_wire.specs.Relocations.{relocation_info}
use Rattle.macho_wire.specs.Layouts.{entry_point_command, dylinker_command, dylib_command, rpath_command, linkedit_data_command, uuid_command, build_version_command, build_tool_version, chained_fixups_header, chained_starts_in_segment, unwind_info_entry, code_directory}

-- sixteen zeros, for a name or a UUID
abbrev pub no_text : List ℕ
no_text = replicate 16 0

abbrev pub entry_point_command_rows : Spelled EntryPointCommand
entry_point_command_rows = record {
  layout = entry_point_command;
  blank = record { cmd = 0; cmdsize = 0; entryoff = 0; stacksize = 0 };
  rows =
      numbers 4 (λ r. r.cmd ∷ r.cmdsize ∷ []) (λ n r. record r { cmd = n 0; cmdsize = n 1 })
      ∷ numbers 8 (λ r. r.entryoff ∷ r.stacksize ∷ []) (λ n r. record r { entryoff = n 0; stacksize = n 1 }) ∷ [];
  sized = refl;
  same = λ bytes at. refl;
}

abbrev pub dylinker_command_rows : Spelled DylinkerCommand
dylinker_command_rows = record {
  layout = dylinker_command;
  blank = record { cmd = 0; cmdsize = 0; name_offset = 0 };
  rows =
      numbers 4 (λ r. r.cmd ∷ r.cmdsize ∷ r.name_offset ∷ []) (λ n r. record r { cmd = n 0; cmdsize = n 1; name_offset = n 2 }) ∷ [];
  sized = refl;
  same = λ bytes at. refl;
}

abbrev pub dylib_command_rows : Spelled DylibCommand
dylib_command_rows = record {
  layout = dylib_command;
  blank = record { cmd = 0; cmdsize = 0; name_offset = 0; timestamp = 0; current_version = 0; compatibility_version = 0 };
  rows =
      numbers 4 (λ r. r.cmd ∷ r.cmdsize ∷ r.name_offset ∷ r.timestamp ∷ r.current_version ∷ r.compatibility_version ∷ [])
      (λ n r. record r { cmd = n 0; cmdsize = n 1; name_offset = n 2; timestamp = n 3; current_version = n 4; compatibility_version = n 5 })
      ∷ [];
  sized = refl;
  same = λ bytes at. refl;
}

abbrev pub rpath_command_rows : Spelled RpathCommand
rpath_command_rows = record {
  layout = rpath_command;
  blank = record { cmd = 0; cmdsize = 0; name_offset = 0 };
  rows =
      numbers 4 (λ r. r.cmd ∷ r.cmdsize ∷ r.name_offset ∷ []) (λ n r. record r { cmd = n 0; cmdsize = n 1; name_offset = n 2 }) ∷ [];
  sized = refl;
  same = λ bytes at. refl;
}

abbrev pub linkedit_data_command_rows : Spelled LinkeditDataCommand
linkedit_data_command_rows = record {
  layout = linkedit_data_command;
  blank = record { cmd = 0; cmdsize = 0; dataoff = 0; datasize = 0 };
  rows =
      numbers 4 (λ r. r.cmd ∷ r.cmdsize ∷ r.dataoff ∷ r.datasize ∷ [])
      (λ n r. record r { cmd = n 0; cmdsize = n 1; dataoff = n 2; datasize = n 3 }) ∷ [];
  sized = refl;
  same = λ bytes at. refl;
}

abbrev pub uuid_command_rows : Spelled UuidCommand
uuid_command_rows = record {
  layout = uuid_command;
  blank = record { cmd = 0; cmdsize = 0; uuid = no_text };
  rows =
      numbers 4 (λ r. r.cmd ∷ r.cmdsize ∷ []) (λ n r. record r { cmd = n 0; cmdsize = n 1 })
      ∷ text (λ r. r.uuid) (λ t r. record r { uuid = t }) ∷ [];
  sized = refl;
  same = λ bytes at. refl;
}

abbrev pub build_version_command_rows : Spelled BuildVersionCommand
build_version_command_rows = record {
  layout = build_version_command;
  blank = record { cmd = 0; cmdsize = 0; platform = 0; minos = 0; sdk = 0; ntools = 0 };
  rows =
      numbers 4 (λ r. r.cmd ∷ r.cmdsize ∷ r.platform ∷ r.minos ∷ r.sdk ∷ r.ntools ∷ [])
      (λ n r. record r { cmd = n 0; cmdsize = n 1; platform = n 2; minos = n 3; sdk = n 4; ntools = n 5 }) ∷ [];
  sized = refl;
  same = λ bytes at. refl;
}

abbrev pub build_tool_version_rows : Spelled BuildToolVersion
build_tool_version_rows = record {
  layout = build_tool_version;
  blank = record { tool = 0; version = 0 };
  rows =
      numbers 4 (λ r. r.tool ∷ r.version ∷ []) (λ n r. record r { tool = n 0; version = n 1 }) ∷ [];
  sized = refl;
  same = λ bytes at. refl;
}

abbrev pub chained_fixups_header_rows : Spelled ChainedFixupsHeader
chained_fixups_header_rows = record {
  layout = chained_fixups_header;
  blank = record {
    fixups_version = 0;
    starts_offset = 0;
    imports_offset = 0;
    symbols_offset = 0;
    imports_count = 0;
    imports_format = 0;
    symbols_format = 0;
  };
  rows =
      numbers 4
      (λ r. r.fixups_version ∷ r.starts_offset ∷ r.imports_offset ∷ r.symbols_offset ∷ r.imports_count ∷ r.imports_format
      ∷ r.symbols_format ∷ [])
      (λ n r. record r {
        fixups_version = n 0;
        starts_offset = n 1;
        imports_offset = n 2;
        symbols_offset = n 3;
        imports_count = n 4;
        imports_format = n 5;
        symbols_format = n 6;
      })
      ∷ [];
  sized = refl;
  same = λ bytes at. refl;
}

abbrev pub chained_starts_in_segment_rows : Spelled ChainedStartsInSegment
chained_starts_in_segment_rows = record {
  layout = chained_starts_in_segment;
  blank = record { size = 0; page_size = 0; pointer_format = 0; segment_offset = 0; max_valid_pointer = 0; page_count = 0 };
  rows =
      numbers 4 (λ r. r.size ∷ []) (λ n r. record r { size = n 0 })
      ∷ numbers 2 (λ r. r.page_size ∷ r.pointer_format ∷ []) (λ n r. record r { page_size = n 0; pointer_format = n 1 })
      ∷ numbers 8 (λ r. r.segment_offset ∷ []) (λ n r. record r { segment_offset = n 0 })
      ∷ numbers 4 (λ r. r.max_valid_pointer ∷ []) (λ n r. record r { max_valid_pointer = n 0 })
      ∷ numbers 2 (λ r. r.page_count ∷ []) (λ n r. record r { page_count = n 0 }) ∷ [];
  sized = refl;
  same = λ bytes at. refl;
}

abbrev pub unwind_info_entry_rows : Spelled UnwindInfoEntry
unwind_info_entry_rows = record {
  layout = unwind_info_entry;
  blank = record { start = 0; length = 0; encoding = 0; personality = 0; lsda = 0 };
  rows =
      numbers 8 (λ r. r.start ∷ []) (λ n r. record r { start = n 0 })
      ∷ numbers 4 (λ r. r.length ∷ r.encoding ∷ []) (λ n r. record r { length = n 0; encoding = n 1 })
      ∷ numbers 8 (λ r. r.personality ∷ r.lsda ∷ []) (λ n r. record r { personality = n 0; lsda = n 1 }) ∷ [];
  sized = refl;
  same = λ bytes at. refl;
}

abbrev pub code_directory_rows : Spelled CodeDirectory
code_directory_rows = record {
  layout = code_directory;
  blank = record {
    magic = 0;
    length = 0;
    version = 0;
    flags = 0;
    hash_offset = 0;
    ident_offset = 0;
    special_slots = 0;
    code_slots = 0;
    code_limit = 0;
    hash_size = 0;
    hash_type = 0;
    platform = 0;
    page_exponent = 0;
    spare = 0;
    scatter_offset = 0;
    team_offset = 0;
    spare2 = 0;
    code_limit64 = 0;
    exec_base = 0;
    exec_limit = 0;
    exec_flags = 0;
  };
  rows =
      numbers 4
      (λ r. r.magic ∷ r.length ∷ r.version ∷ r.flags ∷ r.hash_offset ∷ r.ident_offset ∷ r.special_slots ∷ r.code_slots ∷ r.code_limit
      ∷ [])
      (λ n r. record r {
        magic = n 0;
        length = n 1;
        version = n 2;
        flags = n 3;
        hash_offset = n 4;
        ident_offset = n 5;
        special_slots = n 6;
        code_slots = n 7;
        code_limit = n 8;
      })
      ∷ numbers 1 (λ r. r.hash_size ∷ r.hash_type ∷ r.platform ∷ r.page_exponent ∷ [])
      (λ n r. record r { hash_size = n 0; hash_type = n 1; platform = n 2; page_exponent = n 3 })
      ∷ numbers 4 (λ r. r.spare ∷ r.scatter_offset ∷ r.team_offset ∷ r.spare2 ∷ [])
      (λ n r. record r { spare = n 0; scatter_offset = n 1; team_offset = n 2; spare2 = n 3 })
      ∷ numbers 8 (λ r. r.code_limit64 ∷ r.exec_base ∷ r.exec_limit ∷ r.exec_flags ∷ [])
      (λ n r. record r { code_limit64 = n 0; exec_base = n 1; exec_limit = n 2; exec_flags = n 3 })
      ∷ [];
  sized = refl;
  same = λ bytes at. refl;
}

-- a flag as a bit
abbrev pub bit_of : Bool → ℕ
bit_of true = 1
bit_of false = 0

-- the second word: symbol number in 24 bits, then pcrel in 1, length in 2, extern in 1, type in 4
abbrev pub packed_word : RelocationInfo → ℕ
packed_word r = r.r_symbolnum + bit_of r.r_pcrel * 2 ^ 24 + r.r_length * 2 ^ 25 + bit_of r.r_extern * 2 ^ 27 + r.r_type * 2 ^ 28

-- a relocation with the fields of its second word as the word says
abbrev pub with_word : ℕ → RelocationInfo → RelocationInfo
with_word w r = record r {
  r_symbolnum = bits 0 24 w;
  r_pcrel = bits 24 1 w == 1;
  r_length = bits 25 2 w;
  r_extern = bits 27 1 w == 1;
  r_type = bits 28 4 w;
}

abbrev pub relocation_info_rows : Spelled RelocationInfo
relocation_info_rows = record {
  layout = relocation_info;
  blank = record { r_address = 0; r_symbolnum = 0; r_pcrel = false; r_length = 0; r_extern = false; r_type = 0 };
  rows = numbers 4 (λ r. r.r_address ∷ packed_word r ∷ []) (λ n r. with_word (n 1) (record r { r_address = n 0 })) ∷ [];
  sized = refl;
  same = λ bytes at. refl;
}
