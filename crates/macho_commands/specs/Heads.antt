-- The head of an image: its header, and the load commands behind it (`mach-o/loader.h`).
use Rattle.std.specs.Prelude.{◌≡◌, ℕ, ◌+◌, if◌then◌else◌, List, ◌++◌, length, map}
use Rattle.macho_bytes.specs.Texts.{Stands}
use Rattle.macho_records.specs.declared.constants.TheConstants.{CPU_SUBTYPE_ARM64_ALL, CPU_TYPE_ARM64, MH_DYLDLINK, MH_DYLIB, MH_EXECUTE, MH_HAS_TLV_DESCRIPTORS, MH_MAGIC_64, MH_NOUNDEFS, MH_PIE, MH_TWOLEVEL}
use Rattle.macho_records.specs.declared.header.MachHeader.{MachHeader}
use Rattle.macho_model.specs.Commands.{header_of}
use Rattle.macho_model.specs.HeadCommands.{commands_in}
use Rattle.macho_commands.specs.declared.head.ImageKind.{ImageKind}
use Rattle.macho_commands.specs.declared.command.Command.{Command}
use Rattle.macho_commands.specs.Commands.{said_by, commands_text, commands_size}
use Rattle.macho_bytes.specs.Spellings.{spelling}
use Rattle.macho_records.specs.Spellings.{mach_header_rows}

-- no name is left undefined, for the dynamic linker, by two levels of names; an executable may be slid
abbrev pub flags_of : ImageKind → ℕ
flags_of kind =
    MH_NOUNDEFS + MH_DYLDLINK + MH_TWOLEVEL + (if kind.executable then MH_PIE else 0) +
    (if kind.thread_locals then MH_HAS_TLV_DESCRIPTORS else 0)

-- the header in front of load commands
abbrev pub header_of_kind : ImageKind → List Command → MachHeader
header_of_kind kind commands = record {
  magic = MH_MAGIC_64;
  cputype = CPU_TYPE_ARM64;
  cpusubtype = CPU_SUBTYPE_ARM64_ALL;
  filetype = if kind.executable then MH_EXECUTE else MH_DYLIB;
  ncmds = length commands;
  sizeofcmds = commands_size commands;
  flags = flags_of kind;
  reserved = 0;
}

unfoldable pub head_text : ImageKind → List Command → List ℕ
head_text kind commands = spelling mach_header_rows (header_of_kind kind commands) ++ commands_text commands

-- a file says the header, and what each of the commands does
pub record HeadIsFound (kind : ImageKind) (commands : List Command) (b : List ℕ) : Type 0 where
  pub header : header_of b ≡ header_of_kind kind commands
  pub said : commands_in b ≡ map said_by commands

-- every file that begins with the text does
pub record HeadIsReadable (kind : ImageKind) (commands : List Command) : Type 0 where
  pub found : (b : List ℕ) → Stands b (record { at = 0; text = head_text kind commands }) → HeadIsFound kind commands b
