-- What the smallest link has, by computing: one section, one symbol, and nothing that needs a part of the linker's own.
use Rattle.std.proofs.Common.{◌≡◌, ℕ, ◌+◌, ◌*◌, true, List, [], ◌∷◌, refl, map}
use Rattle.std.specs.Prelude.{codes}
use Rattle.macho_bytes.specs.Numbers.{le_at, le_bytes, row_bytes}
use Rattle.macho_bytes.specs.Layouts.{reading}
use Rattle.macho_model.specs.Commands.{header_of, commands_from, commands_of, commands_end}
use Rattle.macho_model.specs.Objects.{num_sections, section_place, section_at, section_bytes, symtab_of, num_symbols, symbol_place, symbol_at, strings_of, symbol_name, relocation_place, relocation_at}
use Rattle.macho_model.specs.ExportLists.{plain_entries, all_entries, entries_of}
use Rattle.macho_model.specs.Links.{header_at, sections_of, carried_of, template_exponent, placed_exponent}
use Rattle.macho_model.specs.Resolution.{symbols_of, strong_of, commons_of, greatest_of, libraries_with, definition_of, chosen_commons}
use Rattle.macho_model.specs.Needs.{initializer_sections, unwind_sections, imports_of, libraries_needed, carried_relocations, initializer_relocations, personality_relocations}
use Rattle.macho_model.specs.Uses.{uses_of}
use Rattle.macho_model.specs.Targets.{target_of, target_of_relocation, slots_of, stubs_of}
use Rattle.macho_model.specs.Fields.{fields_of}
use Rattle.macho_model.specs.Rows.{is_supported}
use Rattle.macho_model.specs.Segments.{other_segments, segment_rank, segment_names_of, output_keys_of, output_count}
use Rattle.macho_model.specs.WrittenSum.{content_sum, command_sum, unsigned_sum, written_sum_of}
use Rattle.macho_model.specs.Consumed.{personality_targets, entries_of_link}
use Rattle.macho_model.specs.declared.targets.Limit.TheVariants as limit
use Rattle.macho_model.specs.Limits.{limited}
use Rattle.macho_model.specs.Spans.{spans_with}
use Rattle.macho_model.specs.Faults.{entry_is_defined}
use Rattle.macho_model_checks.proofs.Examples.{words8, words, name16, object_a}
use Rattle.macho_model_checks.proofs.ExampleLinks.{section, symbol}
use Rattle.macho_model_checks.proofs.ExamplePlacement.{link_a, counts_a, header_a}

-- the header of its one section
pub section_of_a : header_at link_a (section 0 0) ≡ record header_a { addr = 0; offset = 208 }
unfolding header_of commands_from commands_of commands_end num_sections section_place section_at section_bytes symtab_of
    num_symbols symbol_place symbol_at strings_of symbol_name relocation_place relocation_at sections_of carried_of template_exponent
    placed_exponent symbols_of strong_of commons_of greatest_of libraries_with definition_of chosen_commons
    initializer_sections unwind_sections uses_of carried_relocations initializer_relocations personality_relocations imports_of
    libraries_needed target_of target_of_relocation slots_of stubs_of
    fields_of is_supported plain_entries all_entries entries_of other_segments segment_rank segment_names_of output_keys_of
    output_count content_sum command_sum unsigned_sum written_sum_of spans_with personality_targets entries_of_link le_at
    le_bytes row_bytes reading words8 words name16 object_a
section_of_a = refl

pub bytes_of_a : section_bytes object_a 0 ≡ 0x00 ∷ 0x00 ∷ 0x80 ∷ 0x52 ∷ 0xc0 ∷ 0x03 ∷ 0x5f ∷ 0xd6 ∷ []
unfolding header_of commands_from commands_of commands_end num_sections section_place section_at section_bytes symtab_of
    num_symbols symbol_place symbol_at strings_of symbol_name relocation_place relocation_at sections_of carried_of template_exponent
    placed_exponent symbols_of strong_of commons_of greatest_of libraries_with definition_of chosen_commons
    initializer_sections unwind_sections uses_of carried_relocations initializer_relocations personality_relocations imports_of
    libraries_needed target_of target_of_relocation slots_of stubs_of
    fields_of is_supported plain_entries all_entries entries_of other_segments segment_rank segment_names_of output_keys_of
    output_count content_sum command_sum unsigned_sum written_sum_of spans_with personality_targets entries_of_link le_at
    le_bytes row_bytes reading words8 words name16 object_a
bytes_of_a = refl

pub carried_a : carried_of link_a ≡ section 0 0 ∷ []
unfolding header_of commands_from commands_of commands_end num_sections section_place section_at section_bytes symtab_of
    num_symbols symbol_place symbol_at strings_of symbol_name relocation_place relocation_at sections_of carried_of template_exponent
    placed_exponent symbols_of strong_of commons_of greatest_of libraries_with definition_of chosen_commons
    initializer_sections unwind_sections uses_of carried_relocations initializer_relocations personality_relocations imports_of
    libraries_needed target_of target_of_relocation slots_of stubs_of
    fields_of is_supported plain_entries all_entries entries_of other_segments segment_rank segment_names_of output_keys_of
    output_count content_sum command_sum unsigned_sum written_sum_of spans_with personality_targets entries_of_link le_at
    le_bytes row_bytes reading words8 words name16 object_a
carried_a = refl

pub exponent_a : placed_exponent link_a (section 0 0) ≡ 2
unfolding header_of commands_from commands_of commands_end num_sections section_place section_at section_bytes symtab_of
    num_symbols symbol_place symbol_at strings_of symbol_name relocation_place relocation_at sections_of carried_of template_exponent
    placed_exponent symbols_of strong_of commons_of greatest_of libraries_with definition_of chosen_commons
    initializer_sections unwind_sections uses_of carried_relocations initializer_relocations personality_relocations imports_of
    libraries_needed target_of target_of_relocation slots_of stubs_of
    fields_of is_supported plain_entries all_entries entries_of other_segments segment_rank segment_names_of output_keys_of
    output_count content_sum command_sum unsigned_sum written_sum_of spans_with personality_targets entries_of_link le_at
    le_bytes row_bytes reading words8 words name16 object_a
exponent_a = refl

pub symbols_a : symbols_of link_a ≡ symbol 0 0 ∷ []
unfolding header_of commands_from commands_of commands_end num_sections section_place section_at section_bytes symtab_of
    num_symbols symbol_place symbol_at strings_of symbol_name relocation_place relocation_at sections_of carried_of template_exponent
    placed_exponent symbols_of strong_of commons_of greatest_of libraries_with definition_of chosen_commons
    initializer_sections unwind_sections uses_of carried_relocations initializer_relocations personality_relocations imports_of
    libraries_needed target_of target_of_relocation slots_of stubs_of
    fields_of is_supported plain_entries all_entries entries_of other_segments segment_rank segment_names_of output_keys_of
    output_count content_sum command_sum unsigned_sum written_sum_of spans_with personality_targets entries_of_link le_at
    le_bytes row_bytes reading words8 words name16 object_a
symbols_a = refl

-- nothing else
pub commons_a : chosen_commons link_a ≡ []
unfolding header_of commands_from commands_of commands_end num_sections section_place section_at section_bytes symtab_of
    num_symbols symbol_place symbol_at strings_of symbol_name relocation_place relocation_at sections_of carried_of template_exponent
    placed_exponent symbols_of strong_of commons_of greatest_of libraries_with definition_of chosen_commons
    initializer_sections unwind_sections uses_of carried_relocations initializer_relocations personality_relocations imports_of
    libraries_needed target_of target_of_relocation slots_of stubs_of
    fields_of is_supported plain_entries all_entries entries_of other_segments segment_rank segment_names_of output_keys_of
    output_count content_sum command_sum unsigned_sum written_sum_of spans_with personality_targets entries_of_link le_at
    le_bytes row_bytes reading words8 words name16 object_a
commons_a = refl

pub uses_a : uses_of link_a ≡ []
unfolding header_of commands_from commands_of commands_end num_sections section_place section_at section_bytes symtab_of
    num_symbols symbol_place symbol_at strings_of symbol_name relocation_place relocation_at sections_of carried_of template_exponent
    placed_exponent symbols_of strong_of commons_of greatest_of libraries_with definition_of chosen_commons
    initializer_sections unwind_sections uses_of carried_relocations initializer_relocations personality_relocations imports_of
    libraries_needed target_of target_of_relocation slots_of stubs_of
    fields_of is_supported plain_entries all_entries entries_of other_segments segment_rank segment_names_of output_keys_of
    output_count content_sum command_sum unsigned_sum written_sum_of spans_with personality_targets entries_of_link le_at
    le_bytes row_bytes reading words8 words name16 object_a
uses_a = refl

pub slots_a : slots_of link_a ≡ []
unfolding header_of commands_from commands_of commands_end num_sections section_place section_at section_bytes symtab_of
    num_symbols symbol_place symbol_at strings_of symbol_name relocation_place relocation_at sections_of carried_of template_exponent
    placed_exponent symbols_of strong_of commons_of greatest_of libraries_with definition_of chosen_commons
    initializer_sections unwind_sections uses_of carried_relocations initializer_relocations personality_relocations imports_of
    libraries_needed target_of target_of_relocation slots_of stubs_of
    fields_of is_supported plain_entries all_entries entries_of other_segments segment_rank segment_names_of output_keys_of
    output_count content_sum command_sum unsigned_sum written_sum_of spans_with personality_targets entries_of_link le_at
    le_bytes row_bytes reading words8 words name16 object_a
slots_a = refl

pub stubs_a : stubs_of link_a ≡ []
unfolding header_of commands_from commands_of commands_end num_sections section_place section_at section_bytes symtab_of
    num_symbols symbol_place symbol_at strings_of symbol_name relocation_place relocation_at sections_of carried_of template_exponent
    placed_exponent symbols_of strong_of commons_of greatest_of libraries_with definition_of chosen_commons
    initializer_sections unwind_sections uses_of carried_relocations initializer_relocations personality_relocations imports_of
    libraries_needed target_of target_of_relocation slots_of stubs_of
    fields_of is_supported plain_entries all_entries entries_of other_segments segment_rank segment_names_of output_keys_of
    output_count content_sum command_sum unsigned_sum written_sum_of spans_with personality_targets entries_of_link le_at
    le_bytes row_bytes reading words8 words name16 object_a
stubs_a = refl

pub fields_a : fields_of link_a (section 0 0) ≡ []
unfolding header_of commands_from commands_of commands_end num_sections section_place section_at section_bytes symtab_of
    num_symbols symbol_place symbol_at strings_of symbol_name relocation_place relocation_at sections_of carried_of template_exponent
    placed_exponent symbols_of strong_of commons_of greatest_of libraries_with definition_of chosen_commons
    initializer_sections unwind_sections uses_of carried_relocations initializer_relocations personality_relocations imports_of
    libraries_needed target_of target_of_relocation slots_of stubs_of
    fields_of is_supported plain_entries all_entries entries_of other_segments segment_rank segment_names_of output_keys_of
    output_count content_sum command_sum unsigned_sum written_sum_of spans_with personality_targets entries_of_link le_at
    le_bytes row_bytes reading words8 words name16 object_a
fields_a = refl

pub initializers_a : initializer_sections link_a ≡ []
unfolding header_of commands_from commands_of commands_end num_sections section_place section_at section_bytes symtab_of
    num_symbols symbol_place symbol_at strings_of symbol_name relocation_place relocation_at sections_of carried_of template_exponent
    placed_exponent symbols_of strong_of commons_of greatest_of libraries_with definition_of chosen_commons
    initializer_sections unwind_sections uses_of carried_relocations initializer_relocations personality_relocations imports_of
    libraries_needed target_of target_of_relocation slots_of stubs_of
    fields_of is_supported plain_entries all_entries entries_of other_segments segment_rank segment_names_of output_keys_of
    output_count content_sum command_sum unsigned_sum written_sum_of spans_with personality_targets entries_of_link le_at
    le_bytes row_bytes reading words8 words name16 object_a
initializers_a = refl

pub unwind_a : unwind_sections link_a ≡ []
unfolding header_of commands_from commands_of commands_end num_sections section_place section_at section_bytes symtab_of
    num_symbols symbol_place symbol_at strings_of symbol_name relocation_place relocation_at sections_of carried_of template_exponent
    placed_exponent symbols_of strong_of commons_of greatest_of libraries_with definition_of chosen_commons
    initializer_sections unwind_sections uses_of carried_relocations initializer_relocations personality_relocations imports_of
    libraries_needed target_of target_of_relocation slots_of stubs_of
    fields_of is_supported plain_entries all_entries entries_of other_segments segment_rank segment_names_of output_keys_of
    output_count content_sum command_sum unsigned_sum written_sum_of spans_with personality_targets entries_of_link le_at
    le_bytes row_bytes reading words8 words name16 object_a
unwind_a = refl

pub listed_a : plain_entries link_a.export_lists ≡ []
unfolding header_of commands_from commands_of commands_end num_sections section_place section_at section_bytes symtab_of
    num_symbols symbol_place symbol_at strings_of symbol_name relocation_place relocation_at sections_of carried_of template_exponent
    placed_exponent symbols_of strong_of commons_of greatest_of libraries_with definition_of chosen_commons
    initializer_sections unwind_sections uses_of carried_relocations initializer_relocations personality_relocations imports_of
    libraries_needed target_of target_of_relocation slots_of stubs_of
    fields_of is_supported plain_entries all_entries entries_of other_segments segment_rank segment_names_of output_keys_of
    output_count content_sum command_sum unsigned_sum written_sum_of spans_with personality_targets entries_of_link le_at
    le_bytes row_bytes reading words8 words name16 object_a
listed_a = refl

pub entry_a : entry_is_defined link_a ≡ true
unfolding header_of commands_from commands_of commands_end num_sections section_place section_at section_bytes symtab_of
    num_symbols symbol_place symbol_at strings_of symbol_name relocation_place relocation_at sections_of carried_of template_exponent
    placed_exponent symbols_of strong_of commons_of greatest_of libraries_with definition_of chosen_commons
    initializer_sections unwind_sections uses_of carried_relocations initializer_relocations personality_relocations imports_of
    libraries_needed target_of target_of_relocation slots_of stubs_of
    fields_of is_supported plain_entries all_entries entries_of other_segments segment_rank segment_names_of output_keys_of
    output_count content_sum command_sum unsigned_sum written_sum_of spans_with personality_targets entries_of_link le_at
    le_bytes row_bytes reading words8 words name16 object_a
entry_a = refl

-- its segments and their ranks, and its written sum
pub names_a : segment_names_of link_a ≡ codes "__PAGEZERO" ∷ codes "__TEXT" ∷ codes "__LINKEDIT" ∷ []
unfolding header_of commands_from commands_of commands_end num_sections section_place section_at section_bytes symtab_of
    num_symbols symbol_place symbol_at strings_of symbol_name relocation_place relocation_at sections_of carried_of template_exponent
    placed_exponent symbols_of strong_of commons_of greatest_of libraries_with definition_of chosen_commons
    initializer_sections unwind_sections uses_of carried_relocations initializer_relocations personality_relocations imports_of
    libraries_needed target_of target_of_relocation slots_of stubs_of
    fields_of is_supported plain_entries all_entries entries_of other_segments segment_rank segment_names_of output_keys_of
    output_count content_sum command_sum unsigned_sum written_sum_of spans_with personality_targets entries_of_link le_at
    le_bytes row_bytes reading words8 words name16 object_a
names_a = refl

pub ranks_a : map (segment_rank link_a) (codes "__PAGEZERO" ∷ codes "__TEXT" ∷ codes "__LINKEDIT" ∷ []) ≡ 0 ∷ 1 ∷ 4 ∷ []
unfolding header_of commands_from commands_of commands_end num_sections section_place section_at section_bytes symtab_of
    num_symbols symbol_place symbol_at strings_of symbol_name relocation_place relocation_at sections_of carried_of template_exponent
    placed_exponent symbols_of strong_of commons_of greatest_of libraries_with definition_of chosen_commons
    initializer_sections unwind_sections uses_of carried_relocations initializer_relocations personality_relocations imports_of
    libraries_needed target_of target_of_relocation slots_of stubs_of
    fields_of is_supported plain_entries all_entries entries_of other_segments segment_rank segment_names_of output_keys_of
    output_count content_sum command_sum unsigned_sum written_sum_of spans_with personality_targets entries_of_link le_at
    le_bytes row_bytes reading words8 words name16 object_a
ranks_a = refl

-- 14 bytes of content with its padding; 32 of the header, 216 of three segments, 80 of a section, 56 of other commands;
-- 216 of tables, 4 of page starts, 65,536 of segments; 108 and 17 digests of a signature
pub sum_a : written_sum_of link_a counts_a ≡ 14 + 32 + 216 + 80 + 56 + 216 + 4 + 65536 + 108 + 32 * 17
unfolding header_of commands_from commands_of commands_end num_sections section_place section_at section_bytes symtab_of
    num_symbols symbol_place symbol_at strings_of symbol_name relocation_place relocation_at sections_of carried_of template_exponent
    placed_exponent symbols_of strong_of commons_of greatest_of libraries_with definition_of chosen_commons
    initializer_sections unwind_sections uses_of carried_relocations initializer_relocations personality_relocations imports_of
    libraries_needed target_of target_of_relocation slots_of stubs_of
    fields_of is_supported plain_entries all_entries entries_of other_segments segment_rank segment_names_of output_keys_of
    output_count content_sum command_sum unsigned_sum written_sum_of spans_with personality_targets entries_of_link le_at
    le_bytes row_bytes reading words8 words name16 object_a
sum_a = refl

-- its numbers and their limits
abbrev pub numbers_a : List (ℕ × ℕ)
numbers_a = (3, 6) ∷ (0, 240) ∷ (1, 255) ∷ (0, 3) ∷ (0, 0x1000000) ∷ (0, 0x800000) ∷ (1, 0xfffffffe) ∷ (0, 65535) ∷ []

pub limits_a : map (limited link_a counts_a) (limit.Segments ∷ limit.Libraries ∷ limit.Sections ∷ limit.Personalities ∷ limit.Imports
    ∷ limit.NameBytes ∷ limit.Symbols ∷ limit.Pages ∷ [])
    ≡ numbers_a
unfolding header_of commands_from commands_of commands_end num_sections section_place section_at section_bytes symtab_of
    num_symbols symbol_place symbol_at strings_of symbol_name relocation_place relocation_at sections_of carried_of template_exponent
    placed_exponent symbols_of strong_of commons_of greatest_of libraries_with definition_of chosen_commons
    initializer_sections unwind_sections uses_of carried_relocations initializer_relocations personality_relocations imports_of
    libraries_needed target_of target_of_relocation slots_of stubs_of
    fields_of is_supported plain_entries all_entries entries_of other_segments segment_rank segment_names_of output_keys_of
    output_count content_sum command_sum unsigned_sum written_sum_of spans_with personality_targets entries_of_link le_at
    le_bytes row_bytes reading words8 words name16 object_a
limits_a = refl
