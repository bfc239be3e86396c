-- The sizes, the segments and the output sections of small links, by computing: those of an executable of one object, of one
-- that calls a library, of a dynamic library, with the numbers that their files have.
use Rattle.std.proofs.Common.{◌≡◌, ℕ, ◌+◌, ◌*◌, true, false, List, [], ◌∷◌, ◌++◌, refl, Some, map}
use Rattle.std.specs.Prelude.{codes}
use Rattle.macho_bytes.specs.Numbers.{le_at, le_bytes, row_bytes}
use Rattle.macho_bytes.specs.Layouts.{reading, size_of}
use Rattle.macho_wire.specs.Layouts.{chained_fixups_header, chained_starts_in_segment}
use Rattle.macho_model.specs.Commands.{header_of, commands_from, commands_of, commands_end}
use Rattle.macho_model.specs.Objects.{num_sections, section_place, section_at, section_bytes, symtab_of, num_symbols, symbol_place, symbol_at, strings_of, symbol_name, relocation_place, relocation_at}
use Rattle.macho_model.specs.ExportLists.{plain_entries, all_entries, entries_of}
use Rattle.macho_model.specs.Links.{Link, Object, sections_of, carried_of, template_exponent, placed_exponent}
use Rattle.macho_model.specs.Resolution.{symbols_of, strong_of, commons_of, greatest_of, libraries_with, definition_of, chosen_commons}
use Rattle.macho_model.specs.Needs.{initializer_sections, unwind_sections, imports_of, libraries_needed, carried_relocations, initializer_relocations, personality_relocations}
use Rattle.macho_model.specs.Targets.{target_of, target_of_relocation, slots_of, stubs_of}
use Rattle.macho_model.specs.Fields.{fields_of}
use Rattle.macho_model.specs.Rows.{is_supported}
use Rattle.macho_model.specs.Signature.{uuid_written}
use Rattle.macho_model.specs.Segments.{TEXT, DATA_CONST, LINKEDIT, PAGEZERO, other_segments, segment_rank, segment_names_of, segments_for, output_keys_of, output_count}
use Rattle.macho_model.specs.WrittenSum.{FIXUP_RECORDS}
use Rattle.macho_model.specs.OutputSections.{output_sections_of}
use Rattle.macho_model.specs.Consumed.{entries_of_link}
use Rattle.macho_model.specs.Fixups.{import_entries_of, own_entries, entries_have_addends}
use Rattle.macho_model.specs.Made.{initializers_of}
use Rattle.macho_model.specs.SymbolTable.{table_symbols}
use Rattle.macho_promise.specs.Sizes.{counts_with, commands_size}
use Rattle.macho_model_checks.proofs.Examples.{words8, words, halves, name16, object_a, object_b}
use Rattle.macho_model_checks.proofs.ExampleLinks.{entry, text_object, executable_of, symbol, linked_b, system}
use Rattle.macho_model_checks.proofs.ExamplePlacement.{link_a}

-- The object with `_main` alone, as an executable: the trie has room for 22 bytes. With its three segments and one section
-- header, 296 bytes, its commands have 448.
pub sizes_of_a : counts_with link_a 22 ≡ record {
  commands = 152;
  padding = 0;
  initializers = 0;
  unwind = 0;
  imports = 0;
  import_size = 4;
  name_bytes = 0;
  trie = 22;
  symbols = 1;
  strings = 7;
  identifier = 16;
}
unfolding header_of commands_from commands_of commands_end num_sections section_place section_at section_bytes symtab_of
    num_symbols symbol_place symbol_at strings_of symbol_name relocation_place relocation_at sections_of carried_of template_exponent
    placed_exponent symbols_of strong_of commons_of greatest_of libraries_with definition_of chosen_commons
    initializer_sections unwind_sections carried_relocations initializer_relocations personality_relocations imports_of libraries_needed
    target_of target_of_relocation slots_of stubs_of
    fields_of is_supported plain_entries all_entries entries_of other_segments segment_rank segment_names_of output_keys_of
    output_count le_at le_bytes row_bytes reading words8 words halves name16 entry text_object object_a object_b
    counts_with commands_size uuid_written initializers_of import_entries_of own_entries entries_have_addends table_symbols
    entries_of_link output_sections_of segments_for
sizes_of_a = refl

-- `__PAGEZERO` may not be accessed; code is read and run, tables are read
pub segments_of_a : segments_for link_a ≡
    record { name = PAGEZERO; protection = 0; flags = 0 } ∷ record { name = TEXT; protection = 5; flags = 0 }
    ∷ record { name = LINKEDIT; protection = 1; flags = 0 } ∷ []
unfolding header_of commands_from commands_of commands_end num_sections section_place section_at section_bytes symtab_of
    num_symbols symbol_place symbol_at strings_of symbol_name relocation_place relocation_at sections_of carried_of template_exponent
    placed_exponent symbols_of strong_of commons_of greatest_of libraries_with definition_of chosen_commons
    initializer_sections unwind_sections carried_relocations initializer_relocations personality_relocations imports_of libraries_needed
    target_of target_of_relocation slots_of stubs_of
    fields_of is_supported plain_entries all_entries entries_of other_segments segment_rank segment_names_of output_keys_of
    output_count le_at le_bytes row_bytes reading words8 words halves name16 entry text_object object_a object_b
    counts_with commands_size uuid_written initializers_of import_entries_of own_entries entries_have_addends table_symbols
    entries_of_link output_sections_of segments_for
segments_of_a = refl

-- a call of `_exit`: one library of 56 bytes more, one import of 6 bytes, and segments and sections for slot and stub
abbrev pub calls_exit : Link
calls_exit = executable_of (Object (text_object (words (0x94000000 ∷ 0xd65f03c0 ∷ [])) (words (0 ∷ 0x2d000001 ∷ []))
    (entry 1 0x0f 1 0 0 ++ entry 7 0x01 0 0 0) (0 ∷ codes "_main" ++ 0 ∷ codes "_exit" ++ 0 ∷ [])) ∷ system ∷ [])

pub sizes_of_a_call : counts_with calls_exit 22 ≡ record {
  commands = 208;
  padding = 0;
  initializers = 0;
  unwind = 0;
  imports = 1;
  import_size = 4;
  name_bytes = 6;
  trie = 22;
  symbols = 1;
  strings = 7;
  identifier = 16;
}
unfolding header_of commands_from commands_of commands_end num_sections section_place section_at section_bytes symtab_of
    num_symbols symbol_place symbol_at strings_of symbol_name relocation_place relocation_at sections_of carried_of template_exponent
    placed_exponent symbols_of strong_of commons_of greatest_of libraries_with definition_of chosen_commons
    initializer_sections unwind_sections carried_relocations initializer_relocations personality_relocations imports_of libraries_needed
    target_of target_of_relocation slots_of stubs_of
    fields_of is_supported plain_entries all_entries entries_of other_segments segment_rank segment_names_of output_keys_of
    output_count le_at le_bytes row_bytes reading words8 words halves name16 entry text_object object_a object_b
    counts_with commands_size uuid_written initializers_of import_entries_of own_entries entries_have_addends table_symbols
    entries_of_link output_sections_of segments_for
sizes_of_a_call = refl

pub segments_of_a_call : segments_for calls_exit ≡
    record { name = PAGEZERO; protection = 0; flags = 0 } ∷ record { name = TEXT; protection = 5; flags = 0 }
    ∷ record { name = DATA_CONST; protection = 3; flags = 0x10 } ∷ record { name = LINKEDIT; protection = 1; flags = 0 } ∷ []
unfolding header_of commands_from commands_of commands_end num_sections section_place section_at section_bytes symtab_of
    num_symbols symbol_place symbol_at strings_of symbol_name relocation_place relocation_at sections_of carried_of template_exponent
    placed_exponent symbols_of strong_of commons_of greatest_of libraries_with definition_of chosen_commons
    initializer_sections unwind_sections carried_relocations initializer_relocations personality_relocations imports_of libraries_needed
    target_of target_of_relocation slots_of stubs_of
    fields_of is_supported plain_entries all_entries entries_of other_segments segment_rank segment_names_of output_keys_of
    output_count le_at le_bytes row_bytes reading words8 words halves name16 entry text_object object_a object_b
    counts_with commands_size uuid_written initializers_of import_entries_of own_entries entries_have_addends table_symbols
    entries_of_link output_sections_of segments_for
segments_of_a_call = refl

pub sections_of_a_call : map (λ o. o.key.name) (output_sections_of calls_exit (counts_with calls_exit 22))
    ≡ codes "__text" ∷ codes "__stubs" ∷ codes "__got" ∷ []
unfolding header_of commands_from commands_of commands_end num_sections section_place section_at section_bytes symtab_of
    num_symbols symbol_place symbol_at strings_of symbol_name relocation_place relocation_at sections_of carried_of template_exponent
    placed_exponent symbols_of strong_of commons_of greatest_of libraries_with definition_of chosen_commons
    initializer_sections unwind_sections carried_relocations initializer_relocations personality_relocations imports_of libraries_needed
    target_of target_of_relocation slots_of stubs_of
    fields_of is_supported plain_entries all_entries entries_of other_segments segment_rank segment_names_of output_keys_of
    output_count le_at le_bytes row_bytes reading words8 words halves name16 entry text_object object_a object_b
    counts_with commands_size uuid_written initializers_of import_entries_of own_entries entries_have_addends table_symbols
    entries_of_link output_sections_of segments_for
sections_of_a_call = refl

-- A dynamic library of no symbol: its own name instead of an entry and a dynamic linker. With versions, a run path and room for
-- longer names it has 32 and 24 bytes of commands more, and 1,024 bytes for each path.
abbrev pub library_of : List (List ℕ) → Link
library_of rpaths = record (executable_of (Object (text_object (words (0xd65f03c0 ∷ [])) [] [] (0 ∷ [])) ∷ [])) {
  executable = false;
  install_name = codes "out";
  rpaths = rpaths;
}

pub sizes_of_a_library : (commands_size (library_of []) ≡ 128) × ((counts_with (library_of []) 0).symbols ≡ 0)
    × ((counts_with (library_of []) 0).strings ≡ 1)
    × (commands_size (record (library_of (codes "@loader_path" ∷ [])) { versions = Some (0xe0000, 0xf0000) }) ≡ 128 + 32 + 32)
    × ((counts_with (record (library_of (codes "@loader_path" ∷ [])) { headerpad = true }) 0).padding ≡ 2048)
unfolding header_of commands_from commands_of commands_end num_sections section_place section_at section_bytes symtab_of
    num_symbols symbol_place symbol_at strings_of symbol_name relocation_place relocation_at sections_of carried_of template_exponent
    placed_exponent symbols_of strong_of commons_of greatest_of libraries_with definition_of chosen_commons
    initializer_sections unwind_sections carried_relocations initializer_relocations personality_relocations imports_of libraries_needed
    target_of target_of_relocation slots_of stubs_of
    fields_of is_supported plain_entries all_entries entries_of other_segments segment_rank segment_names_of output_keys_of
    output_count le_at le_bytes row_bytes reading words8 words halves name16 entry text_object object_a object_b
    counts_with commands_size uuid_written initializers_of import_entries_of own_entries entries_have_addends table_symbols
    entries_of_link output_sections_of segments_for
sizes_of_a_library = (refl, refl, refl, refl, refl)

-- Output sections by segment and kind: code, stubs, the slots, data, the template, and then zeros with the commons first.
pub sections_of_b : map (λ o. o.key.name) (output_sections_of linked_b (counts_with linked_b 22))
    ≡ codes "__text" ∷ codes "__stubs" ∷ codes "__got" ∷ codes "__data" ∷ codes "__thread_data" ∷ codes "__common" ∷ codes "__bss" ∷ []
unfolding header_of commands_from commands_of commands_end num_sections section_place section_at section_bytes symtab_of
    num_symbols symbol_place symbol_at strings_of symbol_name relocation_place relocation_at sections_of carried_of template_exponent
    placed_exponent symbols_of strong_of commons_of greatest_of libraries_with definition_of chosen_commons
    initializer_sections unwind_sections carried_relocations initializer_relocations personality_relocations imports_of libraries_needed
    target_of target_of_relocation slots_of stubs_of
    fields_of is_supported plain_entries all_entries entries_of other_segments segment_rank segment_names_of output_keys_of
    output_count le_at le_bytes row_bytes reading words8 words halves name16 entry text_object object_a object_b
    counts_with commands_size uuid_written initializers_of import_entries_of own_entries entries_have_addends table_symbols
    entries_of_link output_sections_of segments_for
sections_of_b = refl

-- the symbols of the table: `_main`, the common and a symbol of its file alone, not the nameless value nor the import
pub table_of_b : table_symbols linked_b ≡ symbol 0 0 ∷ symbol 0 1 ∷ symbol 0 2 ∷ []
unfolding header_of commands_from commands_of commands_end num_sections section_place section_at section_bytes symtab_of
    num_symbols symbol_place symbol_at strings_of symbol_name relocation_place relocation_at sections_of carried_of template_exponent
    placed_exponent symbols_of strong_of commons_of greatest_of libraries_with definition_of chosen_commons
    initializer_sections unwind_sections carried_relocations initializer_relocations personality_relocations imports_of libraries_needed
    target_of target_of_relocation slots_of stubs_of
    fields_of is_supported plain_entries all_entries entries_of other_segments segment_rank segment_names_of output_keys_of
    output_count le_at le_bytes row_bytes reading words8 words halves name16 entry text_object object_a object_b
    counts_with commands_size uuid_written initializers_of import_entries_of own_entries entries_have_addends table_symbols
    entries_of_link output_sections_of segments_for
table_of_b = refl

-- The records of a fixup table: its header, a count of segments, and for each of the six that an image may have an offset and a
-- record (`mach-o/fixup-chains.h`).
records_of_fixups : FIXUP_RECORDS ≡ size_of chained_fixups_header + 4 + 6 * (4 + size_of chained_starts_in_segment)
records_of_fixups = refl
