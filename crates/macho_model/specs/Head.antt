-- THE head of an image, byte for byte (`mach-o/loader.h`): the header and the load commands that a link and its placement ask for.
use Rattle.std.specs.Prelude.{ℕ, ◌+◌, ◌*◌, ◌-◌, ◌^◌, ◌<◌, ◌==◌, if◌then◌else◌, List, [], ◌∷◌, ◌++◌, length, map, filter, replicate, sum_by, codes, Option, Some, None, IfSome}
use Rattle.std.specs.List.{list_any, flat_map, concat}
use Rattle.std.specs.Str.{bytes_eq}
use Rattle.macho_records.specs.Numbers.{little, row_bytes, rounded_up}
use Rattle.macho_records.specs.ByteLayouts.{size_of}
use Rattle.macho_records.specs.ByteTexts.{name_of, Stands}
use Rattle.macho_records.specs.Layouts.{segment_command, section_header}
use Rattle.macho_records.specs.declared.header.SectionHeader.{SectionHeader}
use Rattle.macho_records.specs.declared.constants.TheConstants.{CPU_SUBTYPE_ARM64_ALL, CPU_TYPE_ARM64, LC_BUILD_VERSION, LC_CODE_SIGNATURE, LC_DYLD_CHAINED_FIXUPS, LC_DYLD_EXPORTS_TRIE, LC_ID_DYLIB, LC_LOAD_DYLIB, LC_LOAD_DYLINKER, LC_MAIN, LC_RPATH, LC_SEGMENT_64, LC_SYMTAB, LC_UUID, MH_DYLDLINK, MH_DYLIB, MH_EXECUTE, MH_HAS_TLV_DESCRIPTORS, MH_MAGIC_64, MH_NOUNDEFS, MH_PIE, MH_TWOLEVEL, S_THREAD_LOCAL_VARIABLES}
use Rattle.macho_records.specs.Sections.{type_of}
use Rattle.macho_records.specs.Segments.{text_of, segment_flags_of}
use Rattle.macho_model.specs.declared.placed.Counts.{Counts}
use Rattle.macho_model.specs.declared.placed.PlacedSegment.{PlacedSegment}
use Rattle.macho_model.specs.declared.placed.Range64.{Range64}
use Rattle.macho_model.specs.Links.{Link}
use Rattle.macho_model.specs.Needs.{libraries_needed}
use Rattle.macho_model.specs.Targets.{target_of_name}
use Rattle.macho_model.specs.Segments.{list_if, loaded_protection_of}
use Rattle.macho_model.specs.Placement.{Placed}
use Rattle.macho_model.specs.Addresses.{address_of}
use Rattle.macho_model.specs.Signature.{uuid_written}

abbrev pub headers_in : Placed → PlacedSegment → List SectionHeader
headers_in p s = filter (λ h. bytes_eq (name_of h.segname) (text_of s.name)) p.output_sections

-- the header of a section: its name and its segment's, its address and size, and its other numbers
abbrev pub header_text : SectionHeader → List ℕ
header_text h = h.sectname ++ h.segname ++ row_bytes little 8 (h.addr ∷ h.size ∷ [])
    ++ row_bytes little 4 (h.offset ∷ h.align ∷ h.reloff ∷ h.nreloc ∷ h.flags ∷ h.reserved1 ∷ h.reserved2 ∷ h.reserved3 ∷ [])

-- a segment's command, with the headers of its sections behind it: its name, its ranges in memory and in the file, the protections of its
-- name, both as the most that it may get and as those that it begins with, how many sections it has, and the flags of its name
abbrev pub segment_for : Placed → PlacedSegment → List ℕ
segment_for p s =
    row_bytes little 4 (LC_SEGMENT_64 ∷ (size_of segment_command + size_of section_header * length (headers_in p s)) ∷ []) ++ s.name.0
    ++ row_bytes little 8 (s.address ∷ s.size ∷ s.file_offset ∷ s.file_size ∷ [])
    ++ row_bytes little 4 (loaded_protection_of (text_of s.name) ∷ loaded_protection_of (text_of s.name) ∷ length (headers_in p s)
    ∷ segment_flags_of (text_of s.name) ∷ [])
    ++ flat_map header_text (headers_in p s)

-- a load command: its number, its size in bytes, and what it says
abbrev pub command : ℕ → List ℕ → List ℕ
command number text = row_bytes little 4 (number ∷ (8 + length text) ∷ []) ++ text

-- a command with a path: where the path begins in the command, numbers of 4 bytes, and the path. At least one NUL ends it, and zeros fill
-- the command to a multiple of 8 bytes.
abbrev pub path_command : ℕ → List ℕ → List ℕ → List ℕ
path_command number numbers path =
    let front : ℕ = 12 + 4 * length numbers in
    command number (row_bytes little 4 (front ∷ numbers)
    ++ (path ++ replicate (rounded_up 8 (front + length path + 1) - front - length path) 0))

-- the command of a table of `__LINKEDIT`: its place in the file, and how many bytes it has
abbrev pub table_command : ℕ → ℕ → ℕ → List ℕ
table_command number at size = command number (row_bytes little 4 (at ∷ size ∷ []))

-- the least version of the system (`PLATFORM_MACOS` is 1) and that of the SDK, where they were given; and one tool, this linker, by the
-- bytes `wild` read as a number, the lowest first, with its version, 0.11.0
abbrev pub versions_for : Option (ℕ × ℕ) → List (List ℕ)
versions_for None = []
versions_for (Some (minimum, sdk)) =
    command LC_BUILD_VERSION (row_bytes little 4 (1 ∷ minimum ∷ sdk ∷ 1 ∷ 1684826487 ∷ 0x00000b00 ∷ [])) ∷ []

-- The load commands of a link, with a UUID and an entry, which counts from the base; the stack has the default size. A library names itself
-- with a time stamp of 1 and versions 0.0.0; one that is needed has a time stamp of 2, the current version 1356.0.0, and the compatible one
-- 1.0.0, whichever library it is.
abbrev pub link_commands : Link → List ℕ → ℕ → List (List ℕ)
link_commands l uuid entry =
    list_if l.executable (command LC_MAIN (row_bytes little 8 (entry ∷ 0 ∷ [])) ∷ [])
    ++ command LC_UUID (uuid_written uuid) ∷ []
    ++ versions_for l.versions
    ++ (if l.executable then path_command LC_LOAD_DYLINKER [] (codes "/usr/lib/dyld")
    else path_command LC_ID_DYLIB (1 ∷ 0 ∷ 0 ∷ []) l.install_name) ∷ []
    ++ map (path_command LC_LOAD_DYLIB (2 ∷ 0x054c0000 ∷ 0x00010000 ∷ [])) (libraries_needed l)
    ++ map (path_command LC_RPATH []) l.rpaths

abbrev pub range_size : Range64 → ℕ
range_size r = r.end - r.start

-- THE load commands of an image, in order: those of segments, of the link, and of tables, with an exports trie of so many bytes. That of
-- symbols has the place and the number of their entries, and the place and the bytes of their names.
unfoldable pub commands_for : Link → Counts → Placed → List ℕ → ℕ → List (List ℕ)
commands_for l counts p uuid trie =
    map (segment_for p) p.segments
    ++ link_commands l uuid (address_of p (target_of_name l l.entry) - p.base)
    ++ table_command LC_DYLD_CHAINED_FIXUPS p.linkedit.fixups.start (range_size p.linkedit.fixups)
    ∷ table_command LC_DYLD_EXPORTS_TRIE p.linkedit.trie.start trie
    ∷ command LC_SYMTAB (row_bytes little 4 (p.linkedit.symtab.start ∷ counts.symbols ∷ p.linkedit.strtab.start ∷ counts.strings ∷ []))
    ∷ table_command LC_CODE_SIGNATURE p.linkedit.signature.start (range_size p.linkedit.signature) ∷ []

-- THE head: the header, which tells how many load commands there are and how many bytes they have; and the commands behind it. Its flags:
-- no name is left undefined, it is for the dynamic linker, by two levels of names; an executable may be slid; and where thread-local
-- variables are described, that they are.
unfoldable pub head_for : Link → Placed → List (List ℕ) → List ℕ
head_for l p commands =
    row_bytes little 4 (MH_MAGIC_64 ∷ CPU_TYPE_ARM64 ∷ CPU_SUBTYPE_ARM64_ALL ∷ (if l.executable then MH_EXECUTE else MH_DYLIB)
    ∷ length commands ∷ sum_by length commands
    ∷ (MH_NOUNDEFS + MH_DYLDLINK + MH_TWOLEVEL + (if l.executable then MH_PIE else 0)
    + (if list_any (λ h. type_of h == S_THREAD_LOCAL_VARIABLES) p.output_sections then MH_HAS_TLV_DESCRIPTORS else 0)) ∷ 0 ∷ [])
    ++ concat commands

-- The file begins with this head.
pub record HeadSays (l : Link) (counts : Counts) (uuid : List ℕ) (b : List ℕ) (p : Placed) : Type 0 where
  -- the versions that were given fit their fields
  pub versions : IfSome l.versions (λ v. (v.0 < 2 ^ 32) × (v.1 < 2 ^ 32))
  -- how many bytes the command of the exports trie tells
  pub trie : ℕ
  -- header and load commands, byte for byte
  pub text : Stands b (record { at = 0; text = head_for l p (commands_for l counts p uuid trie) })
