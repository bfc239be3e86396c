-- What the bytes of an object or of a dynamic library say: its sections, symbols, names, relocations and install name.
-- Each is a total function of the whole list of bytes; `Grammar` tells when the bytes are whole.
use Rattle.std.specs.Prelude.{ℕ, ◌+◌, ◌*◌, ◌==◌, if◌then◌else◌, List, [], drop, slice_range}
use Rattle.macho_records.specs.ByteTexts.{name_of}
use Rattle.macho_records.specs.ByteLayouts.{reading, size_of}
use Rattle.macho_records.specs.Layouts.{segment_command, section_header, symtab_command, symtab_entry}
use Rattle.macho_records.specs.CommandLayouts.{dylib_command}
use Rattle.macho_records.specs.Relocations.{relocation_info}
use Rattle.macho_records.specs.declared.header.SectionHeader.{SectionHeader}
use Rattle.macho_records.specs.declared.symbols.SymtabCommand.{SymtabCommand}
use Rattle.macho_records.specs.declared.symbols.SymtabEntry.{SymtabEntry}
use Rattle.macho_records.specs.RelocationInfo.{RelocationInfo}
use Rattle.macho_records.specs.declared.constants.TheConstants.{LC_ID_DYLIB, LC_SEGMENT_64, LC_SYMTAB}
use Rattle.macho_records.specs.Sections.{is_zerofill}
use Rattle.macho_model.specs.Commands.{numbered, place_of, path_of}
use Rattle.macho_model.specs.Lists.{of_first}

-- how many sections an object has, all of which its one segment holds
unfoldable pub num_sections : List ℕ → ℕ
num_sections b = (reading segment_command b (place_of LC_SEGMENT_64 b)).nsects

-- the place of a section's header; sections count from 0
unfoldable pub section_place : List ℕ → ℕ → ℕ
section_place b k = place_of LC_SEGMENT_64 b + size_of segment_command + size_of section_header * k

unfoldable pub section_at : List ℕ → ℕ → SectionHeader
section_at b k = reading section_header b (section_place b k)

-- the bytes of a section; a zerofill section has none in the file
unfoldable pub section_bytes : List ℕ → ℕ → List ℕ
section_bytes b k =
    if is_zerofill (section_at b k) then [] else slice_range b (section_at b k).offset ((section_at b k).offset + (section_at b k).size)

-- where symbols and their names stand
unfoldable pub symtab_of : List ℕ → SymtabCommand
symtab_of b = reading symtab_command b (place_of LC_SYMTAB b)

unfoldable pub num_symbols : List ℕ → ℕ
num_symbols b = (symtab_of b).nsyms

unfoldable pub symbol_place : List ℕ → ℕ → ℕ
symbol_place b k = (symtab_of b).symoff + size_of symtab_entry * k

unfoldable pub symbol_at : List ℕ → ℕ → SymtabEntry
symbol_at b k = reading symtab_entry b (symbol_place b k)

unfoldable pub strings_of : List ℕ → List ℕ
strings_of b = slice_range b (symtab_of b).stroff ((symtab_of b).stroff + (symtab_of b).strsize)

-- the name of a symbol: from its place in the string table up to the NUL; place 0 stands for no name
unfoldable pub symbol_name : List ℕ → ℕ → List ℕ
symbol_name b k = if (symbol_at b k).n_strx == 0 then [] else name_of (drop (symbol_at b k).n_strx (strings_of b))

-- the place of relocation r of section k
unfoldable pub relocation_place : List ℕ → ℕ → ℕ → ℕ
relocation_place b k r = (section_at b k).reloff + size_of relocation_info * r

unfoldable pub relocation_at : List ℕ → ℕ → ℕ → RelocationInfo
relocation_at b k r = reading relocation_info b (relocation_place b k r)

-- the install name of a dynamic library: the path of its first such command
unfoldable pub install_name_of : List ℕ → List ℕ
install_name_of b = of_first [] (λ c. path_of b c (reading dylib_command b c.at).name_offset) (numbered LC_ID_DYLIB b)
