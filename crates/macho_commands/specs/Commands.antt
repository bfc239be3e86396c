-- What each load command of the linker says, and of a list of them: count, size and bytes are folds over one list.
use Rattle.std.specs.Prelude.{ℕ, ◌+◌, ◌*◌, ◌<◌, ◌^◌, List, [], ◌∷◌, length, sum_by}
use Rattle.std.specs.List.{flat_map}
use Rattle.macho_records.specs.declared.constants.TheConstants.{LC_BUILD_VERSION, LC_CODE_SIGNATURE, LC_DYLD_CHAINED_FIXUPS, LC_DYLD_EXPORTS_TRIE, LC_ID_DYLIB, LC_MAIN, LC_SEGMENT_64, LC_SYMTAB, LC_UUID}
use Rattle.macho_records.specs.declared.header.SectionHeader.{SectionHeader}
use Rattle.macho_records.specs.declared.header.SegmentCommand.{SegmentCommand}
use Rattle.macho_model.specs.declared.placed.PlacedSegment.{PlacedSegment}
use Rattle.macho_model.specs.HeadCommands as records
use Rattle.macho_model.specs.HeadCommands.{PLATFORM_MACOS, THIS_TOOL, THIS_VERSION, HeadCommand, dylinker_for, dylib_for, needed_dylib_for, rpath_for, linkedit_for, size_said}
use Rattle.macho_commands.specs.declared.command.SymbolTable.{SymbolTable}
use Rattle.macho_commands.specs.declared.command.Command.{Command}
use Rattle.macho_commands.specs.declared.command.Command.TheVariants.{Segment, EntryPoint, Uuid, BuildVersion, Dylinker, IdDylib, LoadDylib, Rpath, ChainedFixups, ExportsTrie, Symtab, CodeSignature}
use Rattle.macho_commands.specs.Texts.{text_said}

-- the record of a segment with so many section headers
abbrev pub segment_record : PlacedSegment → ℕ → ℕ → ℕ → SegmentCommand
segment_record s protection segment_flags count = record {
  cmd = LC_SEGMENT_64;
  cmdsize = 72 + 80 * count;
  segname = s.name.0;
  vmaddr = s.address;
  vmsize = s.size;
  fileoff = s.file_offset;
  filesize = s.file_size;
  maxprot = protection;
  initprot = protection;
  nsects = count;
  flags = segment_flags;
}

abbrev pub segment_said : PlacedSegment → ℕ → ℕ → List SectionHeader → HeadCommand
segment_said s protection segment_flags headers = records.Segment (segment_record s protection segment_flags (length headers)) headers

-- an entry with the default stack, a UUID, versions with this linker as the one tool
abbrev pub entry_point_said : ℕ → HeadCommand
entry_point_said offset = records.EntryPoint (record { cmd = LC_MAIN; cmdsize = 24; entryoff = offset; stacksize = 0 })

abbrev pub uuid_said : List ℕ → HeadCommand
uuid_said uuid = records.Uuid (record { cmd = LC_UUID; cmdsize = 24; uuid = uuid })

abbrev pub versions_said : ℕ → ℕ → HeadCommand
versions_said minimum sdk =
    records.BuildVersion
    (record { cmd = LC_BUILD_VERSION; cmdsize = 32; platform = PLATFORM_MACOS; minos = minimum; sdk = sdk; ntools = 1 })
    (record { tool = THIS_TOOL; version = THIS_VERSION } ∷ [])

abbrev pub symtab_said : SymbolTable → HeadCommand
symtab_said t = records.Symtab (record {
  cmd = LC_SYMTAB;
  cmdsize = 24;
  symoff = t.symbols_offset;
  nsyms = t.symbols;
  stroff = t.strings_offset;
  strsize = t.strings_size;
})

-- THE command that each of ours says.
abbrev pub said_by : Command → HeadCommand
said_by (Segment segment protection flags headers) = segment_said segment protection flags headers.now
said_by (EntryPoint offset) = entry_point_said offset
said_by (Uuid uuid) = uuid_said uuid
said_by (BuildVersion minimum sdk) = versions_said minimum sdk
said_by Dylinker = dylinker_for
said_by (IdDylib name) = dylib_for LC_ID_DYLIB 1 0 0 name.now
said_by (LoadDylib name) = needed_dylib_for name.now
said_by (Rpath path) = rpath_for path.now
said_by (ChainedFixups table) = linkedit_for LC_DYLD_CHAINED_FIXUPS table.offset table.size
said_by (ExportsTrie table) = linkedit_for LC_DYLD_EXPORTS_TRIE table.offset table.size
said_by (Symtab tables) = symtab_said tables
said_by (CodeSignature table) = linkedit_for LC_CODE_SIGNATURE table.offset table.size

-- its bytes, and how many they are
abbrev pub text_of : Command → List ℕ
text_of c = text_said (said_by c)

abbrev pub size_of_command : Command → ℕ
size_of_command c = size_said (said_by c)

-- the size fits the field that tells it
abbrev pub Fits : Command → Type 0
Fits c = size_of_command c < 2 ^ 32

-- the bytes of a list of commands
unfoldable pub commands_text : List Command → List ℕ
commands_text commands = flat_map text_of commands

abbrev pub commands_size : List Command → ℕ
commands_size commands = sum_by size_of_command commands
