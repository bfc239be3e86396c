-- The layouts of header, segments, sections and symbols. `n w o` is the number of w bytes at offset o, `t o` the text of 16 bytes there.
use Rattle.macho_bytes.specs.Layouts.{Layout, little_record}
use Rattle.macho_records.specs.declared.header.MachHeader.{MachHeader}
use Rattle.macho_records.specs.declared.header.LoadCommand.{LoadCommand}
use Rattle.macho_records.specs.declared.header.SegmentCommand.{SegmentCommand}
use Rattle.macho_records.specs.declared.header.SectionHeader.{SectionHeader}
use Rattle.macho_records.specs.declared.symbols.SymtabCommand.{SymtabCommand}
use Rattle.macho_records.specs.declared.symbols.SymtabEntry.{SymtabEntry}

-- `struct mach_header_64`, mach-o/loader.h
abbrev pub mach_header : Layout MachHeader
mach_header = little_record 32 (λ n t. record {
  magic = n 4 0;
  cputype = n 4 4;
  cpusubtype = n 4 8;
  filetype = n 4 12;
  ncmds = n 4 16;
  sizeofcmds = n 4 20;
  flags = n 4 24;
  reserved = n 4 28;
})

-- `struct load_command`, mach-o/loader.h
abbrev pub load_command : Layout LoadCommand
load_command = little_record 8 (λ n t. record { cmd = n 4 0; cmdsize = n 4 4 })

-- `struct segment_command_64`, mach-o/loader.h
abbrev pub segment_command : Layout SegmentCommand
segment_command = little_record 72 (λ n t. record {
  cmd = n 4 0;
  cmdsize = n 4 4;
  segname = t 8;
  vmaddr = n 8 24;
  vmsize = n 8 32;
  fileoff = n 8 40;
  filesize = n 8 48;
  maxprot = n 4 56;
  initprot = n 4 60;
  nsects = n 4 64;
  flags = n 4 68;
})

-- `struct section_64`, mach-o/loader.h
abbrev pub section_header : Layout SectionHeader
section_header = little_record 80 (λ n t. record {
  sectname = t 0;
  segname = t 16;
  addr = n 8 32;
  size = n 8 40;
  offset = n 4 48;
  align = n 4 52;
  reloff = n 4 56;
  nreloc = n 4 60;
  flags = n 4 64;
  reserved1 = n 4 68;
  reserved2 = n 4 72;
  reserved3 = n 4 76;
})

-- `struct symtab_command`, mach-o/loader.h
abbrev pub symtab_command : Layout SymtabCommand
symtab_command =
    little_record 24 (λ n t. record { cmd = n 4 0; cmdsize = n 4 4; symoff = n 4 8; nsyms = n 4 12; stroff = n 4 16; strsize = n 4 20 })

-- `struct nlist_64`, mach-o/nlist.h
abbrev pub symtab_entry : Layout SymtabEntry
symtab_entry = little_record 16 (λ n t. record { n_strx = n 4 0; n_type = n 1 4; n_sect = n 1 5; n_desc = n 2 6; n_value = n 8 8 })
