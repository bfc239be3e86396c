-- The bytes of a load command: its record, and what stands behind it (`mach-o/loader.h`).
use Rattle.std.specs.Prelude.{ℕ, List, [], ◌++◌}
use Rattle.std.specs.List.{flat_map}
use Rattle.macho_model.specs.HeadCommands.{HeadCommand, Segment, EntryPoint, Uuid, BuildVersion, Dylinker, Dylib, Rpath, LinkeditData, Symtab, Other}
use Rattle.macho_bytes.specs.Spellings.{spelling}
use Rattle.macho_wire.specs.Spellings.{entry_point_command_rows, dylinker_command_rows, dylib_command_rows, rpath_command_rows, linkedit_data_command_rows, uuid_command_rows, build_version_command_rows, build_tool_version_rows}
use Rattle.macho_records.specs.Spellings.{segment_command_rows, section_header_rows, symtab_command_rows}

unfoldable pub text_said : HeadCommand → List ℕ
text_said (Segment command headers) = spelling segment_command_rows command ++ flat_map (spelling section_header_rows) headers
text_said (EntryPoint command) = spelling entry_point_command_rows command
text_said (Uuid command) = spelling uuid_command_rows command
text_said (BuildVersion command tools) = spelling build_version_command_rows command ++ flat_map (spelling build_tool_version_rows) tools
text_said (Dylinker command path) = spelling dylinker_command_rows command ++ path
text_said (Dylib command path) = spelling dylib_command_rows command ++ path
text_said (Rpath command path) = spelling rpath_command_rows command ++ path
text_said (LinkeditData command) = spelling linkedit_data_command_rows command
text_said (Symtab command) = spelling symtab_command_rows command
text_said (Other number size) = []

-- the number of a command, as it says itself
abbrev pub number_said : HeadCommand → ℕ
number_said (Segment command headers) = command.cmd
number_said (EntryPoint command) = command.cmd
number_said (Uuid command) = command.cmd
number_said (BuildVersion command tools) = command.cmd
number_said (Dylinker command path) = command.cmd
number_said (Dylib command path) = command.cmd
number_said (Rpath command path) = command.cmd
number_said (LinkeditData command) = command.cmd
number_said (Symtab command) = command.cmd
number_said (Other number size) = number
