-- The image of a link with an import and a pointer agrees with what is promised of its parts. By computing from the bytes.
--
-- Each part is computed twice: from the bytes that were written out by hand, and from the link and its placement. So the
-- definitions of header, commands, symbols, imports and section headers are those of the public headers, in this instance.
use Rattle.std.proofs.Common.{◌≡◌, ℕ, zero, suc, ◌+◌, ◌^◌, ◌<◌, ◌==◌, ◌&&◌, if◌then◌else◌, List, Some, [], ◌∷◌, length, get_or, map, refl, ap, ◌∙◌, sym, arith, true}
use Rattle.std.specs.Prelude.{codes, slice_range}
use Rattle.std.specs.List.{range_with_len}
use Rattle.macho_records.specs.declared.symbols.SymtabEntry.{SymtabEntry}
use Rattle.macho_bytes.specs.Numbers.{le_at, le_bytes, be_at, be_bytes, row_bytes}
use Rattle.macho_bytes.specs.Layouts.{reading}
use Rattle.macho_wire.specs.Layouts.{uuid_command, code_directory}
use Rattle.macho_records.specs.declared.constants.TheConstants.{LC_UUID}
use Rattle.macho_model.specs.declared.placed.Counts.{Counts}
use Rattle.macho_model.specs.Placement.{Placed, head_size}
use Rattle.macho_model.specs.Chain.{chain_segments}
use Rattle.macho_model.specs.Exports.{library_number}
use Rattle.macho_model.specs.Commands.{numbered, header_of, commands_from, commands_of, commands_end}
use Rattle.macho_model.specs.Objects.{num_sections, section_place, section_at, section_bytes, symtab_of, num_symbols, symbol_place, symbol_at, strings_of, symbol_name, relocation_place, relocation_at}
use Rattle.macho_model.specs.ExportLists.{plain_entries, all_entries, entries_of}
use Rattle.macho_model.specs.Links.{Link, sections_of, carried_of, template_exponent, placed_exponent}
use Rattle.macho_model.specs.Resolution.{symbols_of, strong_of, commons_of, greatest_of, libraries_with, definition_of, chosen_commons}
use Rattle.macho_model.specs.steps.Resolved.{weak_of}
use Rattle.macho_model.specs.Needs.{initializer_sections, unwind_sections, imports_of, import_library, libraries_needed, carried_relocations, initializer_relocations, personality_relocations}
use Rattle.macho_model.specs.Targets.{target_of, target_of_relocation, slots_of, stubs_of}
use Rattle.macho_model.specs.Fields.{fields_of}
use Rattle.macho_model.specs.Segments.{other_segments, segment_names_of, output_keys_of, segments_for}
use Rattle.macho_model.specs.steps.Outputs.{output_sections_of, output_sections_for, pieces_of}
use Rattle.macho_model.specs.Images.{import_entry, segments_of, mapped_segments, base_of, libraries_of, Table, tables_of, tries_of, signatures_of, symbol_tables_of, string_tables_of, entries_of_file}
use Rattle.macho_model.specs.Loader.{IsAccepted}
use Rattle.macho_model.specs.Fixups.{own_entries, import_entries_of, entries_have_addends}
use Rattle.macho_model.specs.Addresses.{section_address, common_address, slot_address}
use Rattle.macho_model.specs.Agreement.{SegmentsAgree, section_headers_of, section_headers_at, TablesAgree}
use Rattle.macho_wire.specs.declared.signature.CodeDirectory.{CodeDirectory}
use Rattle.macho_model.specs.Signature.{uuid_written, UuidSays, identifier_text}
use Rattle.macho_model.specs.Faults.{last_part}
use Rattle.macho_model.specs.Head as head
use Rattle.macho_model.specs.Head.{HeadSays, head_for}
use Rattle.macho_model.specs.HeadCommands.{CommandsSay, commands_in, command_in, commands_for, header_for}
use Rattle.macho_model.specs.SymbolTable.{table_symbols}
use Rattle.macho_model.specs.SymbolEntries.{symbol_entries, strings_text, SymbolsSay}
use Rattle.macho_model.specs.ImportTable.{fixup_count, names_text, name_of_entry, EntrySays, ImportTableSays, LibrariesSay}
use Rattle.macho_model_checks.proofs.RowsAgreement.{flags_byte}
use Rattle.macho_model_checks.proofs.Examples.{words8, words, halves, name16, changed}
use Rattle.macho_model_checks.proofs.ExampleLinks.{entry}
use Rattle.macho_model_checks.proofs.ExampleCall.{calls_exit, calling, counts_of_call, placed_call, uuid_given, head_of_call, fixups_of_call, tables_of_call, big_words, signature_of_call, call_image}
use Rattle.macho_model_checks.proofs.LoaderTests.{load_test, load_test_shows, accepted_keeping}
use Rattle.macho_model.specs.declared.rules.LoadRule.{LoadRule}
use Rattle.macho_model.specs.declared.rules.LoadRule.TheVariants.{L1, L2, L3, L4, L5, L6, L7, L8, L9, L10}
use Rattle.macho_image_walks.specs.steps.Asked.{LoadKeeps}
use Rattle.macho_model_checks.proofs.WordsBySegment.{segments_pass, words_fit_in}
use Rattle.macho_bytes.specs.Spellings.{spelling}
use Rattle.macho_model.specs.OutputSections.{output_sections_for as headers_for, output_sections_of as all_sections}
use Rattle.macho_model.proofs.Outputs.{headers_same}

-- what the link has: one import, and two words that the loader writes: its slot, and the pointer
pub call_needs : (imports_of calling ≡ codes "_exit" ∷ []) × (fixup_count calling ≡ 2)
unfolding commands_end commands_of commands_from header_of reading le_at row_bytes le_bytes words8 words halves name16 entry calls_exit
    head_of_call fixups_of_call tables_of_call be_at be_bytes big_words signature_of_call call_image num_sections section_place
    section_at section_bytes symtab_of num_symbols symbol_place symbol_at strings_of symbol_name relocation_place relocation_at
    sections_of carried_of template_exponent placed_exponent symbols_of strong_of commons_of greatest_of libraries_with
    definition_of chosen_commons initializer_sections unwind_sections carried_relocations initializer_relocations personality_relocations
    imports_of libraries_needed target_of
    target_of_relocation slots_of stubs_of fields_of plain_entries all_entries entries_of other_segments segment_names_of
    output_keys_of own_entries import_entries_of entries_have_addends fixup_count names_text
call_needs = (refl, refl)

kinds_of_call : output_sections_for calling counts_of_call placed_call ≡ placed_call.output_sections
unfolding commands_end commands_of commands_from header_of reading le_at row_bytes le_bytes words8 words halves name16 entry calls_exit
    head_of_call fixups_of_call tables_of_call be_at be_bytes big_words signature_of_call call_image num_sections section_place
    section_at section_bytes symtab_of num_symbols symbol_place symbol_at strings_of symbol_name relocation_place relocation_at
    sections_of carried_of template_exponent placed_exponent symbols_of strong_of commons_of greatest_of libraries_with
    definition_of chosen_commons initializer_sections unwind_sections carried_relocations initializer_relocations personality_relocations
    imports_of libraries_needed target_of
    target_of_relocation slots_of stubs_of fields_of plain_entries all_entries entries_of other_segments segment_names_of
    output_keys_of table_symbols symbol_entries output_sections_of all_sections output_sections_for pieces_of
    segments_for
kinds_of_call = refl

-- THE section headers that the link asks for are those written out
pub call_sections : headers_for calling counts_of_call placed_call ≡ placed_call.output_sections
call_sections = headers_same calling counts_of_call placed_call ∙ kinds_of_call

-- THE header and the thirteen commands, byte for byte: 32 and 888 bytes
pub call_long : length call_image ≡ 49948
unfolding commands_end commands_of commands_from header_of reading le_at row_bytes le_bytes words8 words halves name16 entry calls_exit
    head_of_call fixups_of_call tables_of_call be_at be_bytes big_words signature_of_call call_image
call_long = refl

head_long : length (head_for calling placed_call (head.commands_for calling counts_of_call placed_call uuid_given 14)) ≡ 920
unfolding commands_end commands_of commands_from header_of reading le_at row_bytes le_bytes words8 words halves name16 entry calls_exit
    head_of_call fixups_of_call tables_of_call be_at be_bytes big_words signature_of_call call_image num_sections section_place
    section_at section_bytes symtab_of num_symbols symbol_place symbol_at strings_of symbol_name relocation_place relocation_at
    sections_of carried_of template_exponent placed_exponent symbols_of strong_of commons_of greatest_of libraries_with
    definition_of chosen_commons initializer_sections unwind_sections carried_relocations initializer_relocations personality_relocations
    imports_of libraries_needed target_of
    target_of_relocation slots_of stubs_of fields_of plain_entries all_entries entries_of other_segments segment_names_of
    output_keys_of section_address common_address slot_address head.commands_for head_for spelling
    section_headers_of section_headers_at uuid_written
head_long = refl

head_stands : slice_range call_image 0 920
    ≡ head_for calling placed_call (head.commands_for calling counts_of_call placed_call uuid_given 14)
unfolding commands_end commands_of commands_from header_of reading le_at row_bytes le_bytes words8 words halves name16 entry calls_exit
    head_of_call fixups_of_call tables_of_call be_at be_bytes big_words signature_of_call call_image num_sections section_place
    section_at section_bytes symtab_of num_symbols symbol_place symbol_at strings_of symbol_name relocation_place relocation_at
    sections_of carried_of template_exponent placed_exponent symbols_of strong_of commons_of greatest_of libraries_with
    definition_of chosen_commons initializer_sections unwind_sections carried_relocations initializer_relocations personality_relocations
    imports_of libraries_needed target_of
    target_of_relocation slots_of stubs_of fields_of plain_entries all_entries entries_of other_segments segment_names_of
    output_keys_of section_address common_address slot_address head.commands_for head_for spelling
    section_headers_of section_headers_at uuid_written
head_stands = refl

pub call_head : HeadSays calling counts_of_call uuid_given call_image placed_call
call_head = record {
  versions = tt;
  trie = 14;
  text = record {
    within = omega (arith, head_long, call_long);
    same = ap (λ (n : ℕ). slice_range call_image 0 (0 + n)) head_long ∙ head_stands;
  };
}

-- and as a reader finds them
pub call_commands : CommandsSay calling counts_of_call uuid_given call_image placed_call
unfolding commands_end commands_of commands_from header_of reading le_at row_bytes le_bytes words8 words halves name16 entry calls_exit
    head_of_call fixups_of_call tables_of_call be_at be_bytes big_words signature_of_call call_image num_sections section_place
    section_at section_bytes symtab_of num_symbols symbol_place symbol_at strings_of symbol_name relocation_place relocation_at
    sections_of carried_of template_exponent placed_exponent symbols_of strong_of commons_of greatest_of libraries_with
    definition_of chosen_commons initializer_sections unwind_sections carried_relocations initializer_relocations personality_relocations
    imports_of libraries_needed target_of
    target_of_relocation slots_of stubs_of fields_of plain_entries all_entries entries_of other_segments segment_names_of
    output_keys_of section_address common_address slot_address commands_in command_in commands_for header_for
    section_headers_of section_headers_at uuid_written
call_commands = record { trie = 14; header = refl; commands = refl }

pub call_uuid : UuidSays uuid_given call_image
unfolding commands_end commands_of commands_from header_of reading le_at row_bytes le_bytes words8 words halves name16 entry calls_exit
    head_of_call fixups_of_call tables_of_call be_at be_bytes big_words signature_of_call call_image uuid_written
call_uuid = refl

-- the placement
pub call_agrees : SegmentsAgree call_image placed_call
    × (commands_end call_image + counts_of_call.padding ≡ head_size counts_of_call placed_call)
    × (section_headers_of call_image ≡ placed_call.output_sections)
    × (entries_of_file call_image ≡ 0x398 ∷ []) × (base_of call_image ≡ 0x100000000)
unfolding commands_end commands_of commands_from header_of reading le_at row_bytes le_bytes words8 words halves name16 entry calls_exit
    head_of_call fixups_of_call tables_of_call be_at be_bytes big_words signature_of_call call_image segments_of mapped_segments base_of
    libraries_of tables_of tries_of signatures_of symbol_tables_of string_tables_of entries_of_file section_headers_of
    section_headers_at
call_agrees = (refl, refl, refl, refl, refl)

pub call_tables : TablesAgree call_image placed_call
unfolding commands_end commands_of commands_from header_of reading le_at row_bytes le_bytes words8 words halves name16 entry calls_exit
    head_of_call fixups_of_call tables_of_call be_at be_bytes big_words signature_of_call call_image segments_of mapped_segments base_of
    libraries_of tables_of tries_of signatures_of symbol_tables_of string_tables_of entries_of_file
call_tables = record {
  fixups = refl;
  trie_size = 14;
  trie = refl;
  trie_fits = omega arith;
  symbols = refl;
  strings = refl;
  signature = refl;
}

-- THE symbol table: `_main`, in section 1
pub call_symbols : SymbolsSay calling counts_of_call call_image placed_call
unfolding commands_end commands_of commands_from header_of reading le_at row_bytes le_bytes words8 words halves name16 entry calls_exit
    head_of_call fixups_of_call tables_of_call be_at be_bytes big_words signature_of_call call_image num_sections section_place
    section_at section_bytes symtab_of num_symbols symbol_place symbol_at strings_of symbol_name relocation_place relocation_at
    sections_of carried_of template_exponent placed_exponent symbols_of strong_of commons_of greatest_of libraries_with
    definition_of chosen_commons initializer_sections unwind_sections carried_relocations initializer_relocations personality_relocations
    imports_of libraries_needed target_of
    target_of_relocation slots_of stubs_of fields_of plain_entries all_entries entries_of other_segments segment_names_of
    output_keys_of table_symbols symbol_entries strings_text
    output_sections_of all_sections output_sections_for pieces_of segments_for section_address common_address slot_address
call_symbols = record { entries = refl; strings = refl }

-- its name is found at its place
call_names : map (symbol_name call_image) (range_with_len 0 (num_symbols call_image)) ≡ codes "_main" ∷ []
unfolding commands_end commands_of commands_from header_of reading le_at row_bytes le_bytes words8 words halves name16 entry calls_exit
    head_of_call fixups_of_call tables_of_call be_at be_bytes big_words signature_of_call call_image num_sections section_place
    section_at section_bytes symtab_of num_symbols symbol_place symbol_at strings_of symbol_name
call_names = refl

-- THE import table: library 1, `_exit`, no addend; and the library
first_entry : EntrySays calling call_image (record { at = 0xc000; size = 0xd0 }) 0
unfolding commands_end commands_of commands_from header_of reading le_at row_bytes le_bytes words8 words halves name16 entry calls_exit
    head_of_call fixups_of_call tables_of_call be_at be_bytes big_words signature_of_call call_image num_sections section_place
    section_at section_bytes symtab_of num_symbols symbol_place symbol_at strings_of symbol_name relocation_place relocation_at
    sections_of carried_of template_exponent placed_exponent symbols_of strong_of commons_of greatest_of libraries_with
    definition_of chosen_commons initializer_sections unwind_sections carried_relocations initializer_relocations personality_relocations
    imports_of libraries_needed target_of
    target_of_relocation slots_of stubs_of fields_of plain_entries all_entries entries_of other_segments segment_names_of
    output_keys_of own_entries import_entries_of entries_have_addends fixup_count names_text segments_of
    mapped_segments base_of libraries_of tables_of tries_of signatures_of symbol_tables_of string_tables_of
    entries_of_file
first_entry = record { library = refl; weak = refl; place = refl; name = refl; addend = refl }

entry_facts : (tables_of call_image ≡ record { at = 0xc000; size = 0xd0 } ∷ []) × (length (import_entries_of calling) ≡ 1)
unfolding commands_end commands_of commands_from header_of reading le_at row_bytes le_bytes words8 words halves name16 entry calls_exit
    head_of_call fixups_of_call tables_of_call be_at be_bytes big_words signature_of_call call_image num_sections section_place
    section_at section_bytes symtab_of num_symbols symbol_place symbol_at strings_of symbol_name relocation_place relocation_at
    sections_of carried_of template_exponent placed_exponent symbols_of strong_of commons_of greatest_of libraries_with
    definition_of chosen_commons initializer_sections unwind_sections carried_relocations initializer_relocations personality_relocations
    imports_of libraries_needed target_of
    target_of_relocation slots_of stubs_of fields_of plain_entries all_entries entries_of other_segments segment_names_of
    output_keys_of own_entries import_entries_of entries_have_addends fixup_count names_text segments_of
    mapped_segments base_of libraries_of tables_of tries_of signatures_of symbol_tables_of string_tables_of
    entries_of_file
entry_facts = (refl, refl)

each_entry : (k : ℕ) → k < length (import_entries_of calling) → EntrySays calling call_image (record { at = 0xc000; size = 0xd0 }) k
each_entry zero within = first_entry
each_entry (suc k) within = absurd (omega (arith, within, entry_facts.1))

pub call_imports : ImportTableSays calling call_image
unfolding commands_end commands_of commands_from header_of reading le_at row_bytes le_bytes words8 words halves name16 entry calls_exit
    head_of_call fixups_of_call tables_of_call be_at be_bytes big_words signature_of_call call_image num_sections section_place
    section_at section_bytes symtab_of num_symbols symbol_place symbol_at strings_of symbol_name relocation_place relocation_at
    sections_of carried_of template_exponent placed_exponent symbols_of strong_of commons_of greatest_of libraries_with
    definition_of chosen_commons initializer_sections unwind_sections carried_relocations initializer_relocations personality_relocations
    imports_of libraries_needed target_of
    target_of_relocation slots_of stubs_of fields_of plain_entries all_entries entries_of other_segments segment_names_of
    output_keys_of own_entries import_entries_of entries_have_addends fixup_count names_text segments_of
    mapped_segments base_of libraries_of tables_of tries_of signatures_of symbol_tables_of string_tables_of
    entries_of_file
call_imports = record {
  table = record { at = 0xc000; size = 0xd0 };
  one = refl;
  format = refl;
  count = refl;
  entries = each_entry;
  names = refl;
}

pub call_libraries : LibrariesSay calling call_image
unfolding commands_end commands_of commands_from header_of reading le_at row_bytes le_bytes words8 words halves name16 entry calls_exit
    head_of_call fixups_of_call tables_of_call be_at be_bytes big_words signature_of_call call_image num_sections section_place
    section_at section_bytes symtab_of num_symbols symbol_place symbol_at strings_of symbol_name relocation_place relocation_at
    sections_of carried_of template_exponent placed_exponent symbols_of strong_of commons_of greatest_of libraries_with
    definition_of chosen_commons initializer_sections unwind_sections carried_relocations initializer_relocations personality_relocations
    imports_of libraries_needed target_of
    target_of_relocation slots_of stubs_of fields_of plain_entries all_entries entries_of other_segments segment_names_of
    output_keys_of segments_of mapped_segments base_of libraries_of tables_of tries_of signatures_of symbol_tables_of
    string_tables_of entries_of_file
call_libraries = refl

-- the code directory of the signature, and the identifier behind it
abbrev pub directory_of_call : CodeDirectory
directory_of_call = record {
  magic = 0xfade0c02;
  length = 520;
  version = 0x20400;
  flags = 0x20002;
  hash_offset = 104;
  ident_offset = 88;
  special_slots = 0;
  code_slots = 13;
  code_limit = 0xc100;
  hash_size = 32;
  hash_type = 2;
  platform = 0;
  page_exponent = 12;
  spare = 0;
  scatter_offset = 0;
  team_offset = 0;
  spare2 = 0;
  code_limit64 = 0;
  exec_base = 0;
  exec_limit = 0x4000;
  exec_flags = 1;
}

pub call_directory : (reading code_directory call_image 0xc114 ≡ directory_of_call)
    × (slice_range call_image 0xc16c 0xc17c ≡ identifier_text (last_part calling.output))
    × (length call_image ≡ 0xc100 + 540)
unfolding commands_end commands_of commands_from header_of reading le_at row_bytes le_bytes words8 words halves name16 entry calls_exit
    head_of_call fixups_of_call tables_of_call be_at be_bytes big_words signature_of_call call_image
call_directory = (refl, refl, refl)

-- THE loader accepts the image: every rule has its test, and the two words on chains fit
call_keeps_1 : load_test call_image L1 ≡ true
unfolding commands_end commands_of commands_from header_of reading le_at row_bytes le_bytes words8 words halves name16 entry calls_exit
    head_of_call fixups_of_call tables_of_call be_at be_bytes big_words signature_of_call call_image segments_of mapped_segments base_of
    libraries_of tables_of tries_of signatures_of symbol_tables_of string_tables_of entries_of_file
call_keeps_1 = refl

call_keeps_2 : load_test call_image L2 ≡ true
unfolding commands_end commands_of commands_from header_of reading le_at row_bytes le_bytes words8 words halves name16 entry calls_exit
    head_of_call fixups_of_call tables_of_call be_at be_bytes big_words signature_of_call call_image segments_of mapped_segments base_of
    libraries_of tables_of tries_of signatures_of symbol_tables_of string_tables_of entries_of_file
call_keeps_2 = refl

call_keeps_3 : load_test call_image L3 ≡ true
unfolding commands_end commands_of commands_from header_of reading le_at row_bytes le_bytes words8 words halves name16 entry calls_exit
    head_of_call fixups_of_call tables_of_call be_at be_bytes big_words signature_of_call call_image segments_of mapped_segments base_of
    libraries_of tables_of tries_of signatures_of symbol_tables_of string_tables_of entries_of_file
call_keeps_3 = refl

call_keeps_4 : load_test call_image L4 ≡ true
unfolding commands_end commands_of commands_from header_of reading le_at row_bytes le_bytes words8 words halves name16 entry calls_exit
    head_of_call fixups_of_call tables_of_call be_at be_bytes big_words signature_of_call call_image segments_of mapped_segments base_of
    libraries_of tables_of tries_of signatures_of symbol_tables_of string_tables_of entries_of_file
call_keeps_4 = refl

call_keeps_5 : load_test call_image L5 ≡ true
unfolding commands_end commands_of commands_from header_of reading le_at row_bytes le_bytes words8 words halves name16 entry calls_exit
    head_of_call fixups_of_call tables_of_call be_at be_bytes big_words signature_of_call call_image segments_of mapped_segments base_of
    libraries_of tables_of tries_of signatures_of symbol_tables_of string_tables_of entries_of_file
call_keeps_5 = refl

call_keeps_6 : load_test call_image L6 ≡ true
unfolding commands_end commands_of commands_from header_of reading le_at row_bytes le_bytes words8 words halves name16 entry calls_exit
    head_of_call fixups_of_call tables_of_call be_at be_bytes big_words signature_of_call call_image segments_of mapped_segments base_of
    libraries_of tables_of tries_of signatures_of symbol_tables_of string_tables_of entries_of_file
call_keeps_6 = refl

call_keeps_7 : load_test call_image L7 ≡ true
unfolding commands_end commands_of commands_from header_of reading le_at row_bytes le_bytes words8 words halves name16 entry calls_exit
    head_of_call fixups_of_call tables_of_call be_at be_bytes big_words signature_of_call call_image segments_of mapped_segments base_of
    libraries_of tables_of tries_of signatures_of symbol_tables_of string_tables_of entries_of_file
call_keeps_7 = refl

call_keeps_8 : load_test call_image L8 ≡ true
unfolding commands_end commands_of commands_from header_of reading le_at row_bytes le_bytes words8 words halves name16 entry calls_exit
    head_of_call fixups_of_call tables_of_call be_at be_bytes big_words signature_of_call call_image segments_of mapped_segments base_of
    libraries_of tables_of tries_of signatures_of symbol_tables_of string_tables_of entries_of_file
call_keeps_8 = refl

call_keeps_9 : load_test call_image L9 ≡ true
unfolding commands_end commands_of commands_from header_of reading le_at row_bytes le_bytes words8 words halves name16 entry calls_exit
    head_of_call fixups_of_call tables_of_call be_at be_bytes big_words signature_of_call call_image segments_of mapped_segments base_of
    libraries_of tables_of tries_of signatures_of symbol_tables_of string_tables_of entries_of_file
call_keeps_9 = refl

-- the slot in the first page of segment 2, the pointer in the first page of segment 3
abbrev pub words_of_call : ℕ → ℕ → List ℕ
words_of_call number page =
    if (number == 2) && (page == 0) then 0x100004000 ∷ [] else if (number == 3) && (page == 0) then 0x100008000 ∷ [] else []

call_words : segments_pass call_image words_of_call ≡ true
unfolding chain_segments commands_end commands_of commands_from header_of reading le_at row_bytes le_bytes words8 words halves name16
    entry calls_exit head_of_call fixups_of_call tables_of_call be_at be_bytes big_words signature_of_call call_image segments_of
    mapped_segments base_of libraries_of tables_of tries_of signatures_of symbol_tables_of string_tables_of entries_of_file
call_words = refl

pub call_is_accepted : IsAccepted call_image
call_is_accepted = accepted_keeping call_image keeps
  where
    keeps : (rule : LoadRule) → LoadKeeps call_image rule
    keeps L1 = load_test_shows call_image L1 tt call_keeps_1
    keeps L2 = load_test_shows call_image L2 tt call_keeps_2
    keeps L3 = load_test_shows call_image L3 tt call_keeps_3
    keeps L4 = load_test_shows call_image L4 tt call_keeps_4
    keeps L5 = load_test_shows call_image L5 tt call_keeps_5
    keeps L6 = load_test_shows call_image L6 tt call_keeps_6
    keeps L7 = load_test_shows call_image L7 tt call_keeps_7
    keeps L8 = load_test_shows call_image L8 tt call_keeps_8
    keeps L9 = load_test_shows call_image L9 tt call_keeps_9
    keeps L10 = words_fit_in call_image words_of_call call_words

-- Changes of the image, each of one number, break what they are of. Of the header its flags; of the UUID the bits of its version;
unfoldable pub without_flags : List ℕ
without_flags = changed call_image 24 (words (0 ∷ []))

flags_there : get_or without_flags 24 0 ≡ 0
unfolding changed without_flags commands_end commands_of commands_from header_of reading le_at row_bytes le_bytes words8 words halves
    name16 entry calls_exit head_of_call fixups_of_call tables_of_call be_at be_bytes big_words signature_of_call call_image
flags_there = refl

pub flags_are_asked : (l : Link) (counts : Counts) (uuid : List ℕ) (p : Placed) → HeadSays l counts uuid without_flags p → ⊥
flags_are_asked l counts uuid p says =
    let flags = sym flags_there ∙ flags_byte l counts uuid without_flags p says in
    absurd (omega (arith, flags))

-- a version of the system past its field, whatever the file says
pub versions_fit : (counts : Counts) (uuid b : List ℕ) (p : Placed)
    → HeadSays (record calling { versions = Some (2 ^ 32, 0) }) counts uuid b p → ⊥
versions_fit counts uuid b p says = absurd (omega (arith, says.versions.0))

unfoldable pub without_version : List ℕ
without_version = changed call_image 750 (0xa6 ∷ [])

version_there : map (λ c. (reading uuid_command without_version c.at).uuid) (numbered LC_UUID without_version) ≡
    (0 ∷ 1 ∷ 2 ∷ 3 ∷ 4 ∷ 5 ∷ 0xa6 ∷ 7 ∷ 0x88 ∷ 9 ∷ 10 ∷ 11 ∷ 12 ∷ 13 ∷ 14 ∷ 15 ∷ []) ∷ []
unfolding changed without_version commands_end commands_of commands_from header_of reading le_at row_bytes le_bytes words8 words halves
    name16 entry calls_exit head_of_call fixups_of_call tables_of_call be_at be_bytes big_words signature_of_call call_image
version_there = refl

pub version_is_asked : UuidSays uuid_given without_version → ⊥
unfolding uuid_written
version_is_asked says =
    let byte : 0xa6 ≡ 0x36 = ap (λ (ts : List (List ℕ)). get_or (get_or ts 0 []) 6 0) (sym version_there ∙ says) in
    absurd (omega (arith, byte))

-- of the symbols a value;
unfoldable pub with_another_value : List ℕ
with_another_value = changed call_image 0xc0f0 (words8 (0x10000039c ∷ []))

value_there : map (λ e. e.n_value) (map (symbol_at with_another_value) (range_with_len 0 (num_symbols with_another_value))) ≡ 0x10000039c
    ∷ []
unfolding changed with_another_value commands_end commands_of commands_from header_of reading le_at row_bytes le_bytes words8 words halves
    name16 entry calls_exit head_of_call fixups_of_call tables_of_call be_at be_bytes big_words signature_of_call call_image
    num_sections section_place section_at section_bytes symtab_of num_symbols symbol_place symbol_at strings_of symbol_name
    relocation_place relocation_at
value_there = refl

value_asked : map (λ e. e.n_value) (symbol_entries calling counts_of_call placed_call) ≡ 0x100000398 ∷ []
unfolding commands_end commands_of commands_from header_of reading le_at row_bytes le_bytes words8 words halves name16 entry calls_exit
    head_of_call fixups_of_call tables_of_call be_at be_bytes big_words signature_of_call call_image num_sections section_place
    section_at section_bytes symtab_of num_symbols symbol_place symbol_at strings_of symbol_name relocation_place relocation_at
    sections_of carried_of template_exponent placed_exponent symbols_of strong_of commons_of greatest_of libraries_with
    definition_of chosen_commons initializer_sections unwind_sections carried_relocations initializer_relocations personality_relocations
    imports_of libraries_needed target_of
    target_of_relocation slots_of stubs_of fields_of plain_entries all_entries entries_of other_segments segment_names_of
    output_keys_of table_symbols symbol_entries output_sections_of all_sections output_sections_for pieces_of
    segments_for section_address common_address slot_address
value_asked = refl

pub value_is_asked : SymbolsSay calling counts_of_call with_another_value placed_call → ⊥
value_is_asked says =
    let values = sym value_there ∙ ap (λ (es : List SymtabEntry). map (λ e. e.n_value) es) says.entries ∙ value_asked in
    let value : 0x10000039c ≡ 0x100000398 = ap (λ (ns : List ℕ). get_or ns 0 0) values in
    absurd (omega (arith, value))

-- of an import the number of its library, the second of one;
unfoldable pub with_another_library : List ℕ
with_another_library = changed call_image 0xc064 (words (2 ∷ []))

library_facts : (tables_of with_another_library ≡ record { at = 0xc000; size = 0xd0 } ∷ [])
    × ((import_entry with_another_library (record { at = 0xc000; size = 0xd0 }) 0).library ≡ 2)
    × (library_number calling (import_library calling (name_of_entry calling 0)) ≡ 1)
unfolding changed with_another_library commands_end commands_of commands_from header_of reading le_at row_bytes le_bytes words8 words
    halves name16 entry calls_exit head_of_call fixups_of_call tables_of_call be_at be_bytes big_words signature_of_call call_image
    num_sections section_place section_at section_bytes symtab_of num_symbols symbol_place symbol_at strings_of symbol_name
    relocation_place relocation_at sections_of carried_of template_exponent placed_exponent symbols_of strong_of weak_of
    commons_of greatest_of libraries_with definition_of chosen_commons initializer_sections unwind_sections carried_relocations
    initializer_relocations personality_relocations imports_of
    libraries_needed target_of target_of_relocation slots_of stubs_of fields_of plain_entries all_entries entries_of
    other_segments segment_names_of output_keys_of own_entries import_entries_of entries_have_addends fixup_count
    names_text segments_of mapped_segments base_of libraries_of tables_of tries_of signatures_of symbol_tables_of
    string_tables_of entries_of_file
library_facts = (refl, refl, refl)

pub library_is_asked : ImportTableSays calling with_another_library → ⊥
library_is_asked says =
    let table : says.table ≡ record { at = 0xc000; size = 0xd0 } =
    ap (λ (ts : List Table). get_or ts 0 (record { at = 0; size = 0 })) (sym says.one ∙ library_facts.0) in
    let first = says.entries 0 (omega (arith, entry_facts.1)) in
    let library : 2 ≡ 1 =
    sym library_facts.1 ∙ ap (λ (t : Table). (import_entry with_another_library t 0).library) (sym table) ∙ first.library
    ∙ library_facts.2 in
    absurd (omega (arith, library))

-- of the libraries a name;
unfoldable pub with_another_name : List ℕ
with_another_name = changed call_image 816 (0x2e ∷ [])

names_there : length (get_or (libraries_of with_another_name) 0 []) ≡ 26
    × (get_or (get_or (libraries_of with_another_name) 0 []) 0 0 ≡ 0x2e)
unfolding changed with_another_name commands_end commands_of commands_from header_of reading le_at row_bytes le_bytes words8 words halves
    name16 entry calls_exit head_of_call fixups_of_call tables_of_call be_at be_bytes big_words signature_of_call call_image segments_of
    mapped_segments base_of libraries_of tables_of tries_of signatures_of symbol_tables_of string_tables_of entries_of_file
names_there = (refl, refl)

names_asked : get_or (get_or (libraries_needed calling) 0 []) 0 0 ≡ 0x2f
unfolding commands_end commands_of commands_from header_of reading le_at row_bytes le_bytes words8 words halves name16 entry calls_exit
    head_of_call fixups_of_call tables_of_call be_at be_bytes big_words signature_of_call call_image num_sections section_place
    section_at section_bytes symtab_of num_symbols symbol_place symbol_at strings_of symbol_name relocation_place relocation_at
    sections_of carried_of template_exponent placed_exponent symbols_of strong_of commons_of greatest_of libraries_with
    definition_of chosen_commons initializer_sections unwind_sections carried_relocations initializer_relocations personality_relocations
    imports_of libraries_needed target_of
    target_of_relocation slots_of stubs_of fields_of plain_entries all_entries entries_of other_segments segment_names_of
    output_keys_of
names_asked = refl

pub name_is_asked : LibrariesSay calling with_another_name → ⊥
name_is_asked says =
    let byte : 0x2e ≡ 0x2f = sym names_there.1 ∙ ap (λ (ts : List (List ℕ)). get_or (get_or ts 0 []) 0 0) says ∙ names_asked in
    absurd (omega (arith, byte))

-- of the tables a place: the exports trie told over the symbols.
unfoldable pub with_tables_over : List ℕ
with_tables_over = changed call_image 872 (words (0xc0e8 ∷ []))

tables_there : map (λ t. t.at) (tries_of with_tables_over) ≡ 0xc0e8 ∷ []
unfolding changed with_tables_over commands_end commands_of commands_from header_of reading le_at row_bytes le_bytes words8 words halves
    name16 entry calls_exit head_of_call fixups_of_call tables_of_call be_at be_bytes big_words signature_of_call call_image segments_of
    mapped_segments base_of libraries_of tables_of tries_of signatures_of symbol_tables_of string_tables_of entries_of_file
tables_there = refl

pub place_is_asked : TablesAgree with_tables_over placed_call → ⊥
place_is_asked agree =
    let place : 0xc0e8 ≡ 0xc0d0 = ap (λ (ns : List ℕ). get_or ns 0 0) (sym tables_there
    ∙ ap (λ (ts : List Table). map (λ t. t.at) ts) agree.trie) in
    absurd (omega (arith, place))
