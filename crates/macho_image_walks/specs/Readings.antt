-- What one record of a file says, as the walks read it: a load command at its place, a segment, a fixup table, a word.
use Rattle.std.specs.Prelude.{◌≡◌, ℕ, ◌+◌, ◌-◌, ◌*◌, ◌^◌, ◌<◌, ◌≤◌, ◌==◌, nat_lt, if◌then◌else◌, ◌&&◌, not, Bool, true, List, [], length, get_or, filter}
use Rattle.macho_bytes.specs.Numbers.{le_at}
use Rattle.macho_records.specs.declared.header.SegmentCommand.{SegmentCommand}
use Rattle.macho_records.specs.declared.constants.TheConstants.{LC_DYLD_CHAINED_FIXUPS, LC_LOAD_DYLIB, LC_SEGMENT_64}
use Rattle.macho_model.specs.Commands.{Command, command_at, commands_of}
use Rattle.macho_model.specs.Segments.{PAGEZERO, TEXT}
use Rattle.macho_model.specs.Images.{is_named, Table, table_of_command, fixups_header, starts_count, page_starts, tables_of}
use Rattle.macho_model.specs.Loader.{segment_in}
use Rattle.macho_model.specs.Needs.{POINTER_SIZE}
use Rattle.macho_image_walks.specs.declared.segments.SegmentNumbers.{SegmentNumbers}
use Rattle.macho_image_walks.specs.declared.tables.FixupTable.{FixupTable}
use Rattle.macho_image_walks.specs.declared.walk.Listed.{Listed}
use Rattle.macho_image_walks.specs.declared.walk.Listed.TheVariants as list
use Rattle.macho_model.specs.Chain.{starts_in_tables, next_of, STRIDE}

-- a command is one of a list
abbrev pub is_listed : Listed → List ℕ → Command → Bool
is_listed list.All b c = true
is_listed list.Segments b c = c.number == LC_SEGMENT_64
is_listed list.Mapped b c = (c.number == LC_SEGMENT_64) && not (is_named PAGEZERO (segment_in b c))
is_listed list.Texts b c = (c.number == LC_SEGMENT_64) && is_named TEXT (segment_in b c)
is_listed list.Tables b c = c.number == LC_DYLD_CHAINED_FIXUPS
is_listed list.Libraries b c = c.number == LC_LOAD_DYLIB

-- the load commands of a list
unfoldable pub listed : Listed → List ℕ → List Command
listed which b = filter (is_listed which b) (commands_of b)

-- a command of a list, by its number in it, stands at a place
pub record IsNth (which : Listed) (b : List ℕ) (number place : ℕ) : Type 0 where
  pub within : number < length (listed which b)
  pub is : get_or (listed which b) number (command_at b place) ≡ command_at b place

-- the numbers that were read of a segment's command
pub record SaysSegment (r : SegmentNumbers) (s : SegmentCommand) : Type 0 where
  pub address : r.address ≡ s.vmaddr
  pub size : r.size ≡ s.vmsize
  pub file_offset : r.file_offset ≡ s.fileoff
  pub file_size : r.file_size ≡ s.filesize
  pub most : r.most ≡ s.maxprot
  pub first : r.first ≡ s.initprot

-- the segment and the fixup table of the command at a place
abbrev pub segment_there : List ℕ → ℕ → SegmentCommand
segment_there b place = segment_in b (command_at b place)

abbrev pub table_there : List ℕ → ℕ → Table
table_there b place = table_of_command b (command_at b place)

-- the numbers that were read of a table
pub record SaysTable (b : List ℕ) (t : Table) (r : FixupTable) : Type 0 where
  pub at : r.at ≡ t.at
  pub size : r.size ≡ t.size
  pub version : r.version ≡ (fixups_header b t).fixups_version
  pub starts : r.starts ≡ (fixups_header b t).starts_offset
  pub imports : r.imports ≡ (fixups_header b t).imports_offset
  pub symbols : r.symbols ≡ (fixups_header b t).symbols_offset
  pub imports_count : r.imports_count ≡ (fixups_header b t).imports_count
  pub imports_format : r.imports_format ≡ (fixups_header b t).imports_format
  pub symbols_format : r.symbols_format ≡ (fixups_header b t).symbols_format
  pub small : r.at < 2 ^ 32 × r.size < 2 ^ 32

-- a segment has a word at an address, whole in its file part
pub record HasWord (b : List ℕ) (s : SegmentCommand) (a word : ℕ) : Type 0 where
  pub from : s.vmaddr ≤ a
  pub to : a + POINTER_SIZE ≤ s.vmaddr + s.filesize
  pub is : word ≡ le_at POINTER_SIZE b (s.fileoff + (a - s.vmaddr))

-- the page starts of a segment in a table
abbrev pub starts_in : List ℕ → Table → ℕ → List ℕ
starts_in b t k = if nat_lt k (starts_count b t) then page_starts b t k else []

-- the segment of a command has a word at an address that leads on by so many bytes
pub record StepOf (b : List ℕ) (place a n : ℕ) : Type 0 where
  pub word : ℕ
  pub has : HasWord b (segment_in b (command_at b place)) a word
  pub goes : 1 ≤ next_of word
  pub is : n ≡ STRIDE * next_of word

-- and a segment by its number
pub record StepIn (b : List ℕ) (number a n : ℕ) : Type 0 where
  pub place : ℕ
  pub nth : IsNth list.Segments b number place
  pub step : StepOf b place a n

-- the page starts of a segment by its number, in the first table of a file
abbrev pub starts_of : List ℕ → ℕ → List ℕ
starts_of b k = starts_in_tables b (tables_of b) k
