-- The part that each record tells of, as the lists of parts are made.
use Rattle.std.specs.Prelude.{ℕ, ◌+◌, ◌*◌, Bool, false, List}
use Rattle.macho_bytes.specs.Layouts.{reading, size_of}
use Rattle.macho_records.specs.Layouts.{segment_command, section_header, symtab_command, symtab_entry}
use Rattle.macho_loader.specs.declared.commands.LinkeditRange.{LinkeditRange}
use Rattle.macho_retool.specs.declared.parts.FilePart.{FilePart}
use Rattle.macho_retool.specs.Parts.{part_of_section, part_of_table}
use Rattle.macho_retool.specs.steps.Formed.{table_in}

-- a section of the segment whose command stands at a place, by its number
abbrev pub section_part : List ℕ → ℕ → ℕ → FilePart
section_part b place k = part_of_section (reading section_header b (place + size_of segment_command + size_of section_header * k))

-- a range that a command gives
abbrev pub range_part : Bool → LinkeditRange → FilePart
range_part fixed r = part_of_table fixed (table_in r)

-- the symbols and the strings of a command
abbrev pub symbols_part : List ℕ → LinkeditRange → FilePart
symbols_part b r =
    part_of_table false (record {
      at = (reading symtab_command b r.command).symoff;
      size = size_of symtab_entry * (reading symtab_command b r.command).nsyms;
    })

abbrev pub strings_part : List ℕ → LinkeditRange → FilePart
strings_part b r =
    part_of_table false (record { at = (reading symtab_command b r.command).stroff; size = (reading symtab_command b r.command).strsize })
