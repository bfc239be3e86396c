-- The rules of relocatable objects and dynamic libraries (O1 to O14), as tests of the file, or of one record: a section, a symbol, a
-- relocation or a command. `Grammar` says which records fail one.
use Rattle.std.specs.Prelude.{ℕ, ◌+◌, ◌*◌, ◌-◌, ◌^◌, ◌==◌, nat_le, nat_lt, ◌&&◌, ◌||◌, not, if◌then◌else◌, Bool, true, List, length, drop, slice_range, codes}
use Rattle.std.specs.Str.{bytes_eq}
use Rattle.macho_records.specs.ByteTexts.{name_of}
use Rattle.macho_records.specs.ByteLayouts.{reading, size_of}
use Rattle.macho_records.specs.Layouts.{mach_header, symtab_command, symtab_entry}
use Rattle.macho_records.specs.CommandLayouts.{dylib_command}
use Rattle.macho_records.specs.Relocations.{relocation_info}
use Rattle.macho_records.specs.declared.constants.TheConstants.{ARM64_RELOC_ADDEND, CPU_TYPE_ARM64, LC_ID_DYLIB, LC_SEGMENT_64, LC_SYMTAB, MH_MAGIC_64, S_THREAD_LOCAL_VARIABLES, N_SECT, N_EXT}
use Rattle.macho_records.specs.Symbols.{common_exponent_of, common_size_of, is_common_of, is_stab_of, has_type}
use Rattle.macho_records.specs.Sections.{is_zerofill, segment_name_of, type_of, is_template_type}
use Rattle.macho_records.specs.Flags.{has_any}
use Rattle.macho_records.specs.RelocationInfo.{RelocationInfo}
use Rattle.macho_records.specs.declared.header.SectionHeader.{SectionHeader}
use Rattle.macho_records.specs.declared.symbols.SymtabEntry.{SymtabEntry}
use Rattle.macho_model.specs.declared.rules.ObjectRule.{ObjectRule}
use Rattle.macho_model.specs.declared.rules.ObjectRule.TheVariants.{O5, O6, O7, O8, O9, O10, O11, O12, O13, O14}
use Rattle.macho_model.specs.Commands.{Command, header_of, commands_end, numbered, segment_size}
use Rattle.macho_model.specs.Objects.{num_sections, section_at, symtab_of, num_symbols, strings_of}

-- O1: a whole 64-bit arm64 header of the type, in a file of fewer than 2 ^ 32 bytes
abbrev pub head_fits : ℕ → List ℕ → Bool
head_fits filetype b =
    nat_le (size_of mach_header) (length b) && nat_lt (length b) (2 ^ 32) && ((header_of b).magic == MH_MAGIC_64)
    && ((header_of b).cputype == CPU_TYPE_ARM64) && ((header_of b).filetype == filetype)

-- O2: the commands end inside the file, and each is as long as what is read of it
abbrev pub commands_inside : List ℕ → Bool
commands_inside b = nat_le (commands_end b) (length b)

-- how many bytes are read of a command of an object, and of a library; 0 of one that is passed over
abbrev pub needed_in_object : List ℕ → Command → ℕ
needed_in_object b c =
    if c.number == LC_SEGMENT_64 then segment_size b c.at else if c.number == LC_SYMTAB then size_of symtab_command else 0

abbrev pub needed_in_dylib : Command → ℕ
needed_in_dylib c =
    if c.number == LC_ID_DYLIB then size_of dylib_command else if c.number == LC_SYMTAB then size_of symtab_command else 0

-- O3: exactly one command of a number
abbrev pub has_one : ℕ → List ℕ → Bool
has_one n b = length (numbered n b) == 1

-- O4: both tables stand inside the file
abbrev pub tables_inside : List ℕ → Bool
tables_inside b =
    nat_le ((symtab_of b).symoff + size_of symtab_entry * num_symbols b) (length b)
    && nat_le ((symtab_of b).stroff + (symtab_of b).strsize) (length b)

-- a section has this number, from 1
abbrev pub has_section : List ℕ → ℕ → Bool
has_section b n = nat_le 1 n && nat_le n (num_sections b)

-- thread-local variables, and their first values
abbrev pub is_thread_local : ℕ → Bool
is_thread_local type = is_template_type type || (type == S_THREAD_LOCAL_VARIABLES)

-- a NUL stands in a text
abbrev pub has_nul : List ℕ → Bool
has_nul text = nat_lt (length (name_of text)) (length text)

-- What each rule asks of a section, by its header.
abbrev pub section_keeps : List ℕ → ObjectRule → SectionHeader → Bool
-- its data stands inside the file, and its addresses end at 2 ^ 64 at most
section_keeps b O6 h = (is_zerofill h || nat_le (h.offset + h.size) (length b)) && nat_le (h.addr + h.size) (2 ^ 64)
-- it is aligned to 2 ^ 14 at most, a page of 16 KiB
section_keeps b O7 h = nat_le h.align 14
-- its relocations stand inside the file
section_keeps b O10 h = nat_le (h.reloff + size_of relocation_info * h.nreloc) (length b)
-- if it is thread-local, it is in `__DATA`
section_keeps b O11 h = not (is_thread_local (type_of h)) || bytes_eq (segment_name_of h) (codes "__DATA")
-- if it is zerofill, it has no relocations
section_keeps b O12 h = not (is_zerofill h) || (h.nreloc == 0)
section_keeps b rule h = true

-- What each rule asks of a symbol.
abbrev pub symbol_keeps : List ℕ → ObjectRule → SymtabEntry → Bool
-- if it is in a section, that section exists
symbol_keeps b O5 s = not (has_type N_SECT s) || has_section b s.n_sect
-- if it is in a section that exists, it stands in it, or at its end
symbol_keeps b O8 s =
    not (has_type N_SECT s && has_section b s.n_sect)
    || (nat_le (section_at b (s.n_sect - 1)).addr s.n_value
    && nat_le s.n_value ((section_at b (s.n_sect - 1)).addr + (section_at b (s.n_sect - 1)).size))
-- its name begins in the string table, and a NUL ends it there; place 0 stands for no name
symbol_keeps b O9 s = is_stab_of s || (s.n_strx == 0) || has_nul (drop s.n_strx (strings_of b))
-- if it is global, it has a name
symbol_keeps b O13 s = is_stab_of s || not (has_any N_EXT s.n_type) || not (s.n_strx == 0)
-- if it is common, it is aligned to 2 ^ 14 at most, and its rounded size is below 2 ^ 64
symbol_keeps b O14 s = not (is_common_of s) || (nat_le (common_exponent_of s) 14 && nat_lt (common_size_of s) (2 ^ 64))
symbol_keeps b rule s = true

-- What each rule asks of a relocation of a section.
abbrev pub relocation_keeps : List ℕ → ObjectRule → SectionHeader → RelocationInfo → Bool
-- its symbol or its section exists; an addend that is not extern names neither
relocation_keeps b O5 h r =
    if r.r_extern then nat_lt r.r_symbolnum (num_symbols b) else (r.r_type == ARM64_RELOC_ADDEND) || has_section b r.r_symbolnum
-- its bytes stand inside its section
relocation_keeps b O10 h r = nat_le (r.r_address + 2 ^ r.r_length) h.size
relocation_keeps b rule h r = true

-- O9, of an install name: a NUL ends it in its command
abbrev pub path_ends : List ℕ → Command → Bool
path_ends b c = has_nul (slice_range b (c.at + (reading dylib_command b c.at).name_offset) (c.at + c.size))
