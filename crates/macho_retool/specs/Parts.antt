-- The parts of an image that stand in its file beside header and load commands, and the room that they leave to these.
use Rattle.std.specs.Prelude.{ℕ, ◌+◌, ◌*◌, ◌==◌, nat_lt, nat_le, ◌||◌, ◌&&◌, if◌then◌else◌, Bool, true, false, List, [], ◌∷◌, ◌++◌, map, filter, min}
use Rattle.std.specs.List.{flat_map, range_with_len}
use Rattle.macho_bytes.specs.Numbers.{bits}
use Rattle.macho_bytes.specs.Layouts.{reading, size_of}
use Rattle.macho_records.specs.Layouts.{segment_command, section_header}
use Rattle.macho_records.specs.Sections.{is_zerofill}
use Rattle.macho_records.specs.declared.header.SegmentCommand.{SegmentCommand}
use Rattle.macho_records.specs.declared.header.SectionHeader.{SectionHeader}
use Rattle.macho_records.specs.declared.constants.TheConstants.{LC_SEGMENT_64}
use Rattle.macho_model.specs.Commands.{Command, numbered, commands_end}
use Rattle.macho_model.specs.Lists.{of_first}
use Rattle.macho_model.specs.Loader.{segment_in}
use Rattle.macho_model.specs.Segments.{TEXT}
use Rattle.macho_model.specs.Images.{Table, is_named, segments_named, tables_of, tries_of, symbol_tables_of, string_tables_of, signatures_of}
use Rattle.macho_retool.specs.declared.parts.FilePart.{FilePart}

-- A part is a range of the file. It is `fixed` where the loader writes in it, or reads in it where to write: a segment that may be
-- written to, and the fixup table.

-- the part that a segment's file bytes are
abbrev pub part_of_segment : SegmentCommand → FilePart
part_of_segment s = record { at = s.fileoff; size = s.filesize; fixed = bits 1 1 s.initprot == 1 }

-- the part that a section's file bytes are: it has none where it is zeros
abbrev pub part_of_section : SectionHeader → FilePart
part_of_section h = record { at = h.offset; size = if is_zerofill h then 0 else h.size; fixed = false }

-- the part that a table is
abbrev pub part_of_table : Bool → Table → FilePart
part_of_table fixed t = record { at = t.at; size = t.size; fixed = fixed }

-- the section headers behind a segment's command
abbrev pub sections_in : List ℕ → Command → List SectionHeader
sections_in b c =
    map (λ k. reading section_header b (c.at + size_of segment_command + size_of section_header * k))
    (range_with_len 0 (segment_in b c).nsects)

-- the part that the segment of a command is itself; `__TEXT`, which holds the header, is none
abbrev pub own_parts : List ℕ → Command → List FilePart
own_parts b c = if is_named TEXT (segment_in b c) then [] else part_of_segment (segment_in b c) ∷ []

-- the parts of a segment's command: itself and its sections
abbrev pub parts_of_segment : List ℕ → Command → List FilePart
parts_of_segment b c = own_parts b c ++ map part_of_section (sections_in b c)

-- the five tables: fixups, exports trie, symbols, strings, signature
abbrev pub parts_of_tables : List ℕ → List FilePart
parts_of_tables b =
    map (part_of_table true) (tables_of b) ++ map (part_of_table false) (tries_of b) ++ map (part_of_table false) (symbol_tables_of b)
    ++ map (part_of_table false) (string_tables_of b) ++ map (part_of_table false) (signatures_of b)

-- THE parts of an image: of its segments and sections, and its five tables. Those that are empty in the file count for nothing.
unfoldable pub parts_of : List ℕ → List FilePart
parts_of b = flat_map (parts_of_segment b) (numbered LC_SEGMENT_64 b) ++ parts_of_tables b

-- where the signature begins
abbrev pub signature_begin : List ℕ → ℕ
signature_begin b = of_first 0 (λ t. t.at) (signatures_of b)

-- a part is in the way of load commands that end at a place, and of a signature that begins at another one: it isn't empty, and it begins
-- among the load commands, or it is fixed and ends behind the begin of the signature
abbrev pub is_in_way : ℕ → ℕ → FilePart → Bool
is_in_way end limit p = nat_lt 0 p.size && (nat_lt p.at end || (p.fixed && nat_lt limit (p.at + p.size)))

-- where the file bytes of `__TEXT` end
abbrev pub text_end : List ℕ → ℕ
text_end b = of_first 0 (λ s. s.fileoff + s.filesize) (segments_named TEXT b)

-- the least of a number and some others
abbrev pub least : ℕ → List ℕ → ℕ
least n [] = n
least n (x ∷ xs) = least (min n x) xs

-- where the parts begin that aren't empty and don't begin below a place
abbrev pub begins_from : ℕ → List FilePart → List ℕ
begins_from end parts = map (λ p. p.at) (filter (λ p. nat_lt 0 p.size && nat_le end p.at) parts)

-- THE room: load commands may end where `__TEXT` does, and where the first part begins that doesn't begin among them
unfoldable pub room_of : List ℕ → ℕ
room_of b = least (text_end b) (begins_from (commands_end b) (parts_of b))
