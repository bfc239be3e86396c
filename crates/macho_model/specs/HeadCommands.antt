-- Header and load commands as records (`mach-o/loader.h`): those whose bytes `Head` says, and those that a reader finds in a file.
use Rattle.std.specs.Prelude.{◌≡◌, ℕ, ◌+◌, ◌*◌, ◌-◌, ◌==◌, ◌||◌, if◌then◌else◌, List, [], ◌∷◌, ◌++◌, length, map, replicate, slice_range, sum_by, codes, Option, Some, None, Bool}
use Rattle.std.specs.List.{range_with_len, list_any}
use Rattle.macho_records.specs.Numbers.{rounded_up}
use Rattle.macho_records.specs.ByteLayouts.{reading, size_of}
use Rattle.macho_records.specs.Layouts.{segment_command, section_header, symtab_command}
use Rattle.macho_records.specs.CommandLayouts.{entry_point_command, dylinker_command, dylib_command, rpath_command, linkedit_data_command, uuid_command, build_version_command, build_tool_version}
use Rattle.macho_records.specs.declared.header.MachHeader.{MachHeader}
use Rattle.macho_records.specs.declared.header.SegmentCommand.{SegmentCommand}
use Rattle.macho_records.specs.declared.header.SectionHeader.{SectionHeader}
use Rattle.macho_records.specs.declared.symbols.SymtabCommand.{SymtabCommand}
use Rattle.macho_records.specs.EntryPointCommand.{EntryPointCommand}
use Rattle.macho_records.specs.DylinkerCommand.{DylinkerCommand}
use Rattle.macho_records.specs.DylibCommand.{DylibCommand}
use Rattle.macho_records.specs.RpathCommand.{RpathCommand}
use Rattle.macho_records.specs.LinkeditDataCommand.{LinkeditDataCommand}
use Rattle.macho_records.specs.UuidCommand.{UuidCommand}
use Rattle.macho_records.specs.BuildVersionCommand.{BuildVersionCommand}
use Rattle.macho_records.specs.BuildToolVersion.{BuildToolVersion}
use Rattle.macho_records.specs.declared.constants.TheConstants.{LC_BUILD_VERSION, LC_CODE_SIGNATURE, LC_DYLD_CHAINED_FIXUPS, LC_DYLD_EXPORTS_TRIE, LC_ID_DYLIB, LC_LOAD_DYLIB, LC_LOAD_DYLINKER, LC_MAIN, LC_RPATH, LC_SEGMENT_64, LC_SYMTAB, LC_UUID, CPU_SUBTYPE_ARM64_ALL, CPU_TYPE_ARM64, MH_DYLIB, MH_EXECUTE, MH_MAGIC_64, MH_NOUNDEFS, MH_DYLDLINK, MH_TWOLEVEL, MH_PIE, MH_HAS_TLV_DESCRIPTORS, S_THREAD_LOCAL_VARIABLES}
use Rattle.macho_records.specs.Segments.{text_of, segment_flags_of}
use Rattle.macho_model.specs.declared.placed.Counts.{Counts}
use Rattle.macho_model.specs.declared.placed.PlacedSegment.{PlacedSegment}
use Rattle.macho_model.specs.Commands.{Command, header_of, commands_of}
use Rattle.macho_model.specs.Links.{Link}
use Rattle.macho_model.specs.Needs.{libraries_needed}
use Rattle.macho_model.specs.Targets.{target_of_name}
use Rattle.macho_model.specs.Segments.{list_if, loaded_protection_of}
use Rattle.macho_model.specs.Placement.{Placed}
use Rattle.macho_model.specs.Addresses.{address_of}
use Rattle.macho_model.specs.Agreement.{section_headers_at}
use Rattle.macho_model.specs.Signature.{uuid_written}
use Rattle.macho_model.specs.Head.{headers_in, range_size, command}
use Rattle.macho_records.specs.Sections.{type_of}

-- a section describes thread-local variables
abbrev pub describes_thread_locals : Placed → Bool
describes_thread_locals p = list_any (λ h. type_of h == S_THREAD_LOCAL_VARIABLES) p.output_sections

-- A load command with all that it says: its record, and what stands behind the record. A path stands there with the zeros
-- that fill the command.
pub data HeadCommand : Type 0 where
  Segment : (command : SegmentCommand) (headers : List SectionHeader) → HeadCommand
  EntryPoint : (command : EntryPointCommand) → HeadCommand
  Uuid : (command : UuidCommand) → HeadCommand
  BuildVersion : (command : BuildVersionCommand) (tools : List BuildToolVersion) → HeadCommand
  Dylinker : (command : DylinkerCommand) (path : List ℕ) → HeadCommand
  Dylib : (command : DylibCommand) (path : List ℕ) → HeadCommand
  Rpath : (command : RpathCommand) (path : List ℕ) → HeadCommand
  LinkeditData : (command : LinkeditDataCommand) → HeadCommand
  Symtab : (command : SymtabCommand) → HeadCommand
  -- a command that no image of this linker has
  Other : (number size : ℕ) → HeadCommand

-- what a file says of a command, by its number
abbrev pub behind : List ℕ → Command → ℕ → List ℕ
behind b c record_size = slice_range b (c.at + record_size) (c.at + c.size)

abbrev pub tools_at : List ℕ → ℕ → List BuildToolVersion
tools_at b at =
    map (λ k. reading build_tool_version b (at + size_of build_version_command + size_of build_tool_version * k))
    (range_with_len 0 (reading build_version_command b at).ntools)

unfoldable pub command_in : List ℕ → Command → HeadCommand
command_in b c =
    if c.number == LC_SEGMENT_64 then Segment (reading segment_command b c.at) (section_headers_at b c.at)
    else if c.number == LC_MAIN then EntryPoint (reading entry_point_command b c.at)
    else if c.number == LC_UUID then Uuid (reading uuid_command b c.at)
    else if c.number == LC_BUILD_VERSION then BuildVersion (reading build_version_command b c.at) (tools_at b c.at)
    else if c.number == LC_LOAD_DYLINKER then Dylinker (reading dylinker_command b c.at) (behind b c (size_of dylinker_command))
    else if (c.number == LC_ID_DYLIB) || (c.number == LC_LOAD_DYLIB)
    then Dylib (reading dylib_command b c.at) (behind b c (size_of dylib_command))
    else if c.number == LC_RPATH then Rpath (reading rpath_command b c.at) (behind b c (size_of rpath_command))
    else if c.number == LC_SYMTAB then Symtab (reading symtab_command b c.at)
    else if (c.number == LC_DYLD_CHAINED_FIXUPS) || (c.number == LC_DYLD_EXPORTS_TRIE) || (c.number == LC_CODE_SIGNATURE)
    then LinkeditData (reading linkedit_data_command b c.at)
    else Other c.number c.size

-- the load commands that a file says, in order
unfoldable pub commands_in : List ℕ → List HeadCommand
commands_in b = map (command_in b) (commands_of b)

-- `PLATFORM_MACOS`; this linker as a tool, by the bytes `wild` read as a number, the lowest first, and its version, 0.11.0
abbrev pub PLATFORM_MACOS : ℕ
PLATFORM_MACOS = 1

abbrev pub THIS_TOOL : ℕ
THIS_TOOL = 1684826487

abbrev pub THIS_VERSION : ℕ
THIS_VERSION = 0x00000b00

-- a command with a path behind a record: at least one NUL ends the path, and zeros fill the command to a multiple of 8 bytes
abbrev pub path_command_size : ℕ → List ℕ → ℕ
path_command_size record_size path = rounded_up 8 (record_size + length path + 1)

abbrev pub path_filled : ℕ → List ℕ → List ℕ
path_filled record_size path = path ++ replicate (path_command_size record_size path - record_size - length path) 0

-- the dynamic linker of the system
abbrev pub DYLINKER : List ℕ
DYLINKER = codes "/usr/lib/dyld"

-- the commands of a link and its placement, one by one
abbrev pub segment_for : Placed → PlacedSegment → HeadCommand
segment_for p s = Segment (record {
  cmd = LC_SEGMENT_64;
  cmdsize = size_of segment_command + size_of section_header * length (headers_in p s);
  segname = s.name.0;
  vmaddr = s.address;
  vmsize = s.size;
  fileoff = s.file_offset;
  filesize = s.file_size;
  maxprot = loaded_protection_of (text_of s.name);
  initprot = loaded_protection_of (text_of s.name);
  nsects = length (headers_in p s);
  flags = segment_flags_of (text_of s.name);
}) (headers_in p s)

abbrev pub entry_point_for : Link → Placed → HeadCommand
entry_point_for l p = EntryPoint (record {
  cmd = LC_MAIN;
  cmdsize = size_of entry_point_command;
  entryoff = address_of p (target_of_name l l.entry) - p.base;
  stacksize = 0;
})

abbrev pub uuid_for : List ℕ → HeadCommand
uuid_for uuid = Uuid (record { cmd = LC_UUID; cmdsize = size_of uuid_command; uuid = uuid_written uuid })

abbrev pub versions_for : Option (ℕ × ℕ) → List HeadCommand
versions_for None = []
versions_for (Some (minimum, sdk)) =
    BuildVersion (record {
      cmd = LC_BUILD_VERSION;
      cmdsize = size_of build_version_command + size_of build_tool_version;
      platform = PLATFORM_MACOS;
      minos = minimum;
      sdk = sdk;
      ntools = 1;
    }) (record { tool = THIS_TOOL; version = THIS_VERSION } ∷ []) ∷ []

abbrev pub dylinker_for : HeadCommand
dylinker_for = Dylinker
    (record {
      cmd = LC_LOAD_DYLINKER;
      cmdsize = path_command_size (size_of dylinker_command) DYLINKER;
      name_offset = size_of dylinker_command;
    })
    (path_filled (size_of dylinker_command) DYLINKER)

abbrev pub dylib_for : ℕ → ℕ → ℕ → ℕ → List ℕ → HeadCommand
dylib_for number timestamp current compatible path = Dylib (record {
  cmd = number;
  cmdsize = path_command_size (size_of dylib_command) path;
  name_offset = size_of dylib_command;
  timestamp = timestamp;
  current_version = current;
  compatibility_version = compatible;
}) (path_filled (size_of dylib_command) path)

abbrev pub needed_dylib_for : List ℕ → HeadCommand
needed_dylib_for = dylib_for LC_LOAD_DYLIB 2 0x054c0000 0x00010000

abbrev pub rpath_for : List ℕ → HeadCommand
rpath_for path =
    Rpath (record { cmd = LC_RPATH; cmdsize = path_command_size (size_of rpath_command) path; name_offset = size_of rpath_command })
    (path_filled (size_of rpath_command) path)

abbrev pub linkedit_for : ℕ → ℕ → ℕ → HeadCommand
linkedit_for number at size = LinkeditData (record { cmd = number; cmdsize = size_of linkedit_data_command; dataoff = at; datasize = size })

abbrev pub symtab_for : Counts → Placed → HeadCommand
symtab_for counts p = Symtab (record {
  cmd = LC_SYMTAB;
  cmdsize = size_of symtab_command;
  symoff = p.linkedit.symtab.start;
  nsyms = counts.symbols;
  stroff = p.linkedit.strtab.start;
  strsize = counts.strings;
})

-- all of them, in order, with a UUID and an exports trie of so many bytes
unfoldable pub commands_for : Link → Counts → Placed → List ℕ → ℕ → List HeadCommand
commands_for l counts p uuid trie =
    map (segment_for p) p.segments
    ++ list_if l.executable (entry_point_for l p ∷ [])
    ++ uuid_for uuid ∷ []
    ++ versions_for l.versions
    ++ (if l.executable then dylinker_for else dylib_for LC_ID_DYLIB 1 0 0 l.install_name) ∷ []
    ++ map needed_dylib_for (libraries_needed l)
    ++ map rpath_for l.rpaths
    ++ linkedit_for LC_DYLD_CHAINED_FIXUPS p.linkedit.fixups.start (range_size p.linkedit.fixups)
    ∷ linkedit_for LC_DYLD_EXPORTS_TRIE p.linkedit.trie.start trie
    ∷ symtab_for counts p
    ∷ linkedit_for LC_CODE_SIGNATURE p.linkedit.signature.start (range_size p.linkedit.signature) ∷ []

-- the bytes of the commands of a link itself: an executable's entry and dynamic linker, or a library's own name; and the versions
abbrev pub own_commands_size : Link → ℕ
own_commands_size l =
    if l.executable then size_of entry_point_command + path_command_size (size_of dylinker_command) DYLINKER
    else path_command_size (size_of dylib_command) l.install_name

abbrev pub versions_size : Option (ℕ × ℕ) → ℕ
versions_size None = 0
versions_size (Some versions) = size_of build_version_command + size_of build_tool_version

abbrev pub size_said : HeadCommand → ℕ
size_said (Segment command headers) = command.cmdsize
size_said (EntryPoint command) = command.cmdsize
size_said (Uuid command) = command.cmdsize
size_said (BuildVersion command tools) = command.cmdsize
size_said (Dylinker command path) = command.cmdsize
size_said (Dylib command path) = command.cmdsize
size_said (Rpath command path) = command.cmdsize
size_said (LinkeditData command) = command.cmdsize
size_said (Symtab command) = command.cmdsize
size_said (Other number size) = size

-- the flags of an image: no name is left undefined, it is for the dynamic linker, by two levels of names; an executable may be
-- slid; and where thread-local variables are described, that they are
abbrev pub flags_for : Link → Placed → ℕ
flags_for l p =
    MH_NOUNDEFS + MH_DYLDLINK + MH_TWOLEVEL + (if l.executable then MH_PIE else 0) +
    (if describes_thread_locals p then MH_HAS_TLV_DESCRIPTORS else 0)

-- the header in front of so many load commands, which have so many bytes
abbrev pub header_with : Link → Placed → ℕ → ℕ → MachHeader
header_with l p commands bytes = record {
  magic = MH_MAGIC_64;
  cputype = CPU_TYPE_ARM64;
  cpusubtype = CPU_SUBTYPE_ARM64_ALL;
  filetype = if l.executable then MH_EXECUTE else MH_DYLIB;
  ncmds = commands;
  sizeofcmds = bytes;
  flags = flags_for l p;
  reserved = 0;
}

-- the header in front of them
unfoldable pub header_for : Link → Placed → List HeadCommand → MachHeader
header_for l p commands = header_with l p (length commands) (sum_by size_said commands)

-- A reader of the file finds this header and these load commands, with an exports trie of some size.
pub record CommandsSay (l : Link) (counts : Counts) (uuid : List ℕ) (b : List ℕ) (p : Placed) : Type 0 where
  pub trie : ℕ
  pub header : header_of b ≡ header_for l p (commands_for l counts p uuid trie)
  pub commands : commands_in b ≡ commands_for l counts p uuid trie
