-- What the link of one object with a call of a library and a pointer has, computed from its bytes.
--
-- Two carried sections of eight bytes with one field each, a branch and a pointer; an import with its slot and its stub; nothing else.
use Rattle.std.proofs.Common.{◌≡◌, [], ◌∷◌, None, refl}
use Rattle.macho_records.specs.declared.constants.TheConstants.{ARM64_RELOC_BRANCH26}
use Rattle.macho_model.specs.declared.targets.Target.TheVariants as target
use Rattle.macho_bytes.specs.Numbers.{le_at, le_bytes, row_bytes}
use Rattle.macho_bytes.specs.Layouts.{reading}
use Rattle.macho_model.specs.Commands.{header_of, commands_from, commands_of, commands_end}
use Rattle.macho_model.specs.Objects.{num_sections, section_place, section_at, section_bytes, symtab_of, num_symbols, symbol_place, symbol_at, strings_of, symbol_name, relocation_place, relocation_at}
use Rattle.macho_model.specs.ExportLists.{plain_entries, all_entries, entries_of}
use Rattle.macho_model.specs.Links.{header_at, sections_of, carried_of, template_exponent, placed_exponent}
use Rattle.macho_model.specs.Resolution.{symbols_of, strong_of, commons_of, greatest_of, libraries_with, definition_of, chosen_commons}
use Rattle.macho_model.specs.Needs.{initializer_sections, unwind_sections, imports_of, libraries_needed, carried_relocations, initializer_relocations, personality_relocations}
use Rattle.macho_model.specs.Targets.{target_of, target_of_relocation, slots_of, stubs_of, target_of_name}
use Rattle.macho_model.specs.Fields.{Field, fields_of, content_of}
use Rattle.macho_model.specs.Rows.{is_supported}
use Rattle.macho_model.specs.Consumed.{personality_targets, entries_of_link}
use Rattle.macho_model.specs.Segments.{other_segments, segment_rank, segment_names_of, output_keys_of, output_count}
use Rattle.macho_model.specs.WrittenSum.{content_sum, command_sum, unsigned_sum, written_sum_of}
use Rattle.macho_model_checks.proofs.Examples.{words8, words, halves, name16}
use Rattle.macho_model_checks.proofs.ExampleLinks.{entry, section}
use Rattle.macho_model_checks.proofs.ExampleCall.{calls_exit, calling, counts_of_call}
use Rattle.macho_model_checks.proofs.ObjectTests.{verdict, is_object}
use Rattle.macho_model_checks.proofs.ValidTests.{valid_verdict, is_valid_by_tests}
use Rattle.macho_model.specs.Grammar.{IsObject}
use Rattle.macho_model.specs.Valid.{IsValid}

pub carried_call : carried_of calling ≡ section 0 0 ∷ section 0 1 ∷ []
unfolding header_of commands_from commands_of commands_end num_sections section_place section_at section_bytes symtab_of
    num_symbols symbol_place symbol_at strings_of symbol_name relocation_place relocation_at sections_of carried_of template_exponent
    placed_exponent symbols_of strong_of commons_of greatest_of libraries_with definition_of chosen_commons
    initializer_sections unwind_sections carried_relocations initializer_relocations personality_relocations imports_of libraries_needed
    target_of target_of_relocation slots_of stubs_of
    fields_of is_supported plain_entries all_entries entries_of other_segments segment_rank segment_names_of output_keys_of
    output_count content_sum command_sum unsigned_sum written_sum_of personality_targets entries_of_link le_at le_bytes
    row_bytes reading words8 words halves name16 entry calls_exit
carried_call = refl

pub sizes_call : ((header_at calling (section 0 0)).size ≡ 8) × ((header_at calling (section 0 1)).size ≡ 8)
unfolding header_of commands_from commands_of commands_end num_sections section_place section_at section_bytes symtab_of
    num_symbols symbol_place symbol_at strings_of symbol_name relocation_place relocation_at sections_of carried_of template_exponent
    placed_exponent symbols_of strong_of commons_of greatest_of libraries_with definition_of chosen_commons
    initializer_sections unwind_sections carried_relocations initializer_relocations personality_relocations imports_of libraries_needed
    target_of target_of_relocation slots_of stubs_of
    fields_of is_supported plain_entries all_entries entries_of other_segments segment_rank segment_names_of output_keys_of
    output_count content_sum command_sum unsigned_sum written_sum_of personality_targets entries_of_link le_at le_bytes
    row_bytes reading words8 words halves name16 entry calls_exit
sizes_call = (refl, refl)

pub exponents_call : (placed_exponent calling (section 0 0) ≡ 2) × (placed_exponent calling (section 0 1) ≡ 3)
unfolding header_of commands_from commands_of commands_end num_sections section_place section_at section_bytes symtab_of
    num_symbols symbol_place symbol_at strings_of symbol_name relocation_place relocation_at sections_of carried_of template_exponent
    placed_exponent symbols_of strong_of commons_of greatest_of libraries_with definition_of chosen_commons
    initializer_sections unwind_sections carried_relocations initializer_relocations personality_relocations imports_of libraries_needed
    target_of target_of_relocation slots_of stubs_of
    fields_of is_supported plain_entries all_entries entries_of other_segments segment_rank segment_names_of output_keys_of
    output_count content_sum command_sum unsigned_sum written_sum_of personality_targets entries_of_link le_at le_bytes
    row_bytes reading words8 words halves name16 entry calls_exit
exponents_call = (refl, refl)

pub commons_call : chosen_commons calling ≡ []
unfolding header_of commands_from commands_of commands_end num_sections section_place section_at section_bytes symtab_of
    num_symbols symbol_place symbol_at strings_of symbol_name relocation_place relocation_at sections_of carried_of template_exponent
    placed_exponent symbols_of strong_of commons_of greatest_of libraries_with definition_of chosen_commons
    initializer_sections unwind_sections carried_relocations initializer_relocations personality_relocations imports_of libraries_needed
    target_of target_of_relocation slots_of stubs_of
    fields_of is_supported plain_entries all_entries entries_of other_segments segment_rank segment_names_of output_keys_of
    output_count content_sum command_sum unsigned_sum written_sum_of personality_targets entries_of_link le_at le_bytes
    row_bytes reading words8 words halves name16 entry calls_exit
commons_call = refl

pub slots_call : slots_of calling ≡ target.Import 0 ∷ []
unfolding header_of commands_from commands_of commands_end num_sections section_place section_at section_bytes symtab_of
    num_symbols symbol_place symbol_at strings_of symbol_name relocation_place relocation_at sections_of carried_of template_exponent
    placed_exponent symbols_of strong_of commons_of greatest_of libraries_with definition_of chosen_commons
    initializer_sections unwind_sections carried_relocations initializer_relocations personality_relocations imports_of libraries_needed
    target_of target_of_relocation slots_of stubs_of
    fields_of is_supported plain_entries all_entries entries_of other_segments segment_rank segment_names_of output_keys_of
    output_count content_sum command_sum unsigned_sum written_sum_of personality_targets entries_of_link le_at le_bytes
    row_bytes reading words8 words halves name16 entry calls_exit
slots_call = refl

pub stubs_call : stubs_of calling ≡ target.Import 0 ∷ []
unfolding header_of commands_from commands_of commands_end num_sections section_place section_at section_bytes symtab_of
    num_symbols symbol_place symbol_at strings_of symbol_name relocation_place relocation_at sections_of carried_of template_exponent
    placed_exponent symbols_of strong_of commons_of greatest_of libraries_with definition_of chosen_commons
    initializer_sections unwind_sections carried_relocations initializer_relocations personality_relocations imports_of libraries_needed
    target_of target_of_relocation slots_of stubs_of
    fields_of is_supported plain_entries all_entries entries_of other_segments segment_rank segment_names_of output_keys_of
    output_count content_sum command_sum unsigned_sum written_sum_of personality_targets entries_of_link le_at le_bytes
    row_bytes reading words8 words halves name16 entry calls_exit
stubs_call = refl

-- the field of the code: four bytes at the front. That of the data is a pointer, which the loader writes
unfoldable pub field_call : Field
field_call = record {
  relocation = 0;
  offset = 0;
  width = 4;
  type = ARM64_RELOC_BRANCH26;
  target = target.Import 0;
  subtrahend = None;
  addend = 0;
}

pub fields_call : fields_of calling (section 0 0) ≡ field_call ∷ []
unfolding header_of commands_from commands_of commands_end num_sections section_place section_at section_bytes symtab_of
    num_symbols symbol_place symbol_at strings_of symbol_name relocation_place relocation_at sections_of carried_of template_exponent
    placed_exponent symbols_of strong_of commons_of greatest_of libraries_with definition_of chosen_commons
    initializer_sections unwind_sections carried_relocations initializer_relocations personality_relocations imports_of libraries_needed
    target_of target_of_relocation slots_of stubs_of
    fields_of is_supported plain_entries all_entries entries_of other_segments segment_rank segment_names_of output_keys_of
    output_count content_sum command_sum unsigned_sum written_sum_of personality_targets entries_of_link le_at le_bytes
    row_bytes reading words8 words halves name16 entry calls_exit field_call
fields_call = refl

pub content_call : content_of calling (section 0 0) 0 ≡ 0x94000000
unfolding header_of commands_from commands_of commands_end num_sections section_place section_at section_bytes symtab_of
    num_symbols symbol_place symbol_at strings_of symbol_name relocation_place relocation_at sections_of carried_of template_exponent
    placed_exponent symbols_of strong_of commons_of greatest_of libraries_with definition_of chosen_commons
    initializer_sections unwind_sections carried_relocations initializer_relocations personality_relocations imports_of libraries_needed
    target_of target_of_relocation slots_of stubs_of
    fields_of is_supported plain_entries all_entries entries_of other_segments segment_rank segment_names_of output_keys_of
    output_count content_sum command_sum unsigned_sum written_sum_of personality_targets entries_of_link le_at le_bytes
    row_bytes reading words8 words halves name16 entry calls_exit
content_call = refl

pub entry_call : target_of_name calling calling.entry ≡ target.Section 0 0 0
unfolding header_of commands_from commands_of commands_end num_sections section_place section_at section_bytes symtab_of
    num_symbols symbol_place symbol_at strings_of symbol_name relocation_place relocation_at sections_of carried_of template_exponent
    placed_exponent symbols_of strong_of commons_of greatest_of libraries_with definition_of chosen_commons
    initializer_sections unwind_sections carried_relocations initializer_relocations personality_relocations imports_of libraries_needed
    target_of target_of_relocation slots_of stubs_of
    fields_of is_supported plain_entries all_entries entries_of other_segments segment_rank segment_names_of output_keys_of
    output_count content_sum command_sum unsigned_sum written_sum_of personality_targets entries_of_link le_at le_bytes
    row_bytes reading words8 words halves name16 entry calls_exit
entry_call = refl

-- the greatest that a placement may pass its base by
pub sum_call : written_sum_of calling counts_of_call ≡ 133505
unfolding header_of commands_from commands_of commands_end num_sections section_place section_at section_bytes symtab_of
    num_symbols symbol_place symbol_at strings_of symbol_name relocation_place relocation_at sections_of carried_of template_exponent
    placed_exponent symbols_of strong_of commons_of greatest_of libraries_with definition_of chosen_commons
    initializer_sections unwind_sections carried_relocations initializer_relocations personality_relocations imports_of libraries_needed
    target_of target_of_relocation slots_of stubs_of
    fields_of is_supported plain_entries all_entries entries_of other_segments segment_rank segment_names_of output_keys_of
    output_count content_sum command_sum unsigned_sum written_sum_of personality_targets entries_of_link le_at le_bytes
    row_bytes reading words8 words halves name16 entry calls_exit
sum_call = refl

-- its object is one, and it is valid
pub object_call : IsObject calls_exit
unfolding verdict header_of commands_from commands_of commands_end num_sections section_place section_at section_bytes
    symtab_of num_symbols symbol_place symbol_at strings_of symbol_name relocation_place relocation_at sections_of carried_of
    template_exponent placed_exponent symbols_of strong_of commons_of greatest_of libraries_with definition_of chosen_commons
    initializer_sections unwind_sections carried_relocations initializer_relocations personality_relocations imports_of libraries_needed
    target_of target_of_relocation slots_of stubs_of
    fields_of is_supported plain_entries all_entries entries_of other_segments segment_rank segment_names_of output_keys_of
    output_count content_sum command_sum unsigned_sum written_sum_of personality_targets entries_of_link le_at le_bytes
    row_bytes reading words8 words halves name16 entry calls_exit
object_call = is_object calls_exit refl

pub valid_call : IsValid calling counts_of_call
unfolding valid_verdict header_of commands_from commands_of commands_end num_sections section_place section_at section_bytes
    symtab_of num_symbols symbol_place symbol_at strings_of symbol_name relocation_place relocation_at sections_of carried_of
    template_exponent placed_exponent symbols_of strong_of commons_of greatest_of libraries_with definition_of chosen_commons
    initializer_sections unwind_sections carried_relocations initializer_relocations personality_relocations imports_of libraries_needed
    target_of target_of_relocation slots_of stubs_of
    fields_of is_supported plain_entries all_entries entries_of other_segments segment_rank segment_names_of output_keys_of
    output_count content_sum command_sum unsigned_sum written_sum_of personality_targets entries_of_link le_at le_bytes
    row_bytes reading words8 words halves name16 entry calls_exit
valid_call = is_valid_by_tests calling counts_of_call refl
