-- The rows by which header, segments, sections and symbols are spelled.
use Rattle.std.specs.Prelude.{[], ◌∷◌}
use Rattle.std.proofs.Common.{refl}
use Rattle.macho_bytes.specs.Spellings.{Spelled, numbers, text}
use Rattle.macho_records.specs.declared.header.MachHeader.{MachHeader}
use Rattle.macho_records.specs.declared.header.LoadCommand.{LoadCommand}
use Rattle.macho_records.specs.declared.header.SegmentCommand.{SegmentCommand}
use Rattle.macho_records.specs.declared.header.SectionHeader.{SectionHeader}
use Rattle.macho_records.specs.declared.symbols.SymtabCommand.{SymtabCommand}
use Rattle.macho_records.specs.declared.symbols.SymtabEntry.{SymtabEntry}
use Rattle.macho_wire.specs.Spellings.{no_text}
use Rattle.macho_records.specs.Layouts.{mach_header, load_command, segment_command, section_header, symtab_command, symtab_entry}

abbrev pub mach_header_rows : Spelled MachHeader
mach_header_rows = record {
  layout = mach_header;
  blank = record { magic = 0; cputype = 0; cpusubtype = 0; filetype = 0; ncmds = 0; sizeofcmds = 0; flags = 0; reserved = 0 };
  rows =
      numbers 4 (λ r. r.magic ∷ r.cputype ∷ r.cpusubtype ∷ r.filetype ∷ r.ncmds ∷ r.sizeofcmds ∷ r.flags ∷ r.reserved ∷ [])
      (λ n r. record r {
        magic = n 0;
        cputype = n 1;
        cpusubtype = n 2;
        filetype = n 3;
        ncmds = n 4;
        sizeofcmds = n 5;
        flags = n 6;
        reserved = n 7;
      })
      ∷ [];
  sized = refl;
  same = λ bytes at. refl;
}

abbrev pub load_command_rows : Spelled LoadCommand
load_command_rows = record {
  layout = load_command;
  blank = record { cmd = 0; cmdsize = 0 };
  rows =
      numbers 4 (λ r. r.cmd ∷ r.cmdsize ∷ []) (λ n r. record r { cmd = n 0; cmdsize = n 1 }) ∷ [];
  sized = refl;
  same = λ bytes at. refl;
}

abbrev pub segment_command_rows : Spelled SegmentCommand
segment_command_rows = record {
  layout = segment_command;
  blank = record {
    cmd = 0;
    cmdsize = 0;
    segname = no_text;
    vmaddr = 0;
    vmsize = 0;
    fileoff = 0;
    filesize = 0;
    maxprot = 0;
    initprot = 0;
    nsects = 0;
    flags = 0;
  };
  rows =
      numbers 4 (λ r. r.cmd ∷ r.cmdsize ∷ []) (λ n r. record r { cmd = n 0; cmdsize = n 1 })
      ∷ text (λ r. r.segname) (λ t r. record r { segname = t })
      ∷ numbers 8 (λ r. r.vmaddr ∷ r.vmsize ∷ r.fileoff ∷ r.filesize ∷ [])
      (λ n r. record r { vmaddr = n 0; vmsize = n 1; fileoff = n 2; filesize = n 3 })
      ∷ numbers 4 (λ r. r.maxprot ∷ r.initprot ∷ r.nsects ∷ r.flags ∷ [])
      (λ n r. record r { maxprot = n 0; initprot = n 1; nsects = n 2; flags = n 3 }) ∷ [];
  sized = refl;
  same = λ bytes at. refl;
}

abbrev pub section_header_rows : Spelled SectionHeader
section_header_rows = record {
  layout = section_header;
  blank = record {
    sectname = no_text;
    segname = no_text;
    addr = 0;
    size = 0;
    offset = 0;
    align = 0;
    reloff = 0;
    nreloc = 0;
    flags = 0;
    reserved1 = 0;
    reserved2 = 0;
    reserved3 = 0;
  };
  rows =
      text (λ r. r.sectname) (λ t r. record r { sectname = t })
      ∷ text (λ r. r.segname) (λ t r. record r { segname = t })
      ∷ numbers 8 (λ r. r.addr ∷ r.size ∷ []) (λ n r. record r { addr = n 0; size = n 1 })
      ∷ numbers 4 (λ r. r.offset ∷ r.align ∷ r.reloff ∷ r.nreloc ∷ r.flags ∷ r.reserved1 ∷ r.reserved2 ∷ r.reserved3 ∷ [])
      (λ n r. record r {
        offset = n 0;
        align = n 1;
        reloff = n 2;
        nreloc = n 3;
        flags = n 4;
        reserved1 = n 5;
        reserved2 = n 6;
        reserved3 = n 7;
      })
      ∷ [];
  sized = refl;
  same = λ bytes at. refl;
}

abbrev pub symtab_command_rows : Spelled SymtabCommand
symtab_command_rows = record {
  layout = symtab_command;
  blank = record { cmd = 0; cmdsize = 0; symoff = 0; nsyms = 0; stroff = 0; strsize = 0 };
  rows =
      numbers 4 (λ r. r.cmd ∷ r.cmdsize ∷ r.symoff ∷ r.nsyms ∷ r.stroff ∷ r.strsize ∷ [])
      (λ n r. record r { cmd = n 0; cmdsize = n 1; symoff = n 2; nsyms = n 3; stroff = n 4; strsize = n 5 }) ∷ [];
  sized = refl;
  same = λ bytes at. refl;
}

abbrev pub symtab_entry_rows : Spelled SymtabEntry
symtab_entry_rows = record {
  layout = symtab_entry;
  blank = record { n_strx = 0; n_type = 0; n_sect = 0; n_desc = 0; n_value = 0 };
  rows =
      numbers 4 (λ r. r.n_strx ∷ []) (λ n r. record r { n_strx = n 0 })
      ∷ numbers 1 (λ r. r.n_type ∷ r.n_sect ∷ []) (λ n r. record r { n_type = n 0; n_sect = n 1 })
      ∷ numbers 2 (λ r. r.n_desc ∷ []) (λ n r. record r { n_desc = n 0 })
      ∷ numbers 8 (λ r. r.n_value ∷ []) (λ n r. record r { n_value = n 0 }) ∷ [];
  sized = refl;
  same = λ bytes at. refl;
}
