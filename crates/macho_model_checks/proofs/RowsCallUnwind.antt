-- The unwind information of an image whose link has no unwind entries: there is none, and look-up finds nothing.
use Rattle.std.proofs.Common.{◌≡◌, ◌≤◌, [], length, refl, ap, inl, arith}
use Rattle.macho_model.specs.Consumed.{entries_of_link}
use Rattle.macho_model.specs.Addresses.{offset_in_file}
use Rattle.macho_promise.specs.UnwindSays.{resolved_entries, unwind_bytes, UnwindSays}
use Rattle.macho_model_checks.proofs.ExampleCall.{calls_exit, calling, placed_call, head_of_call, fixups_of_call, tables_of_call, big_words, signature_of_call, call_image}
use Rattle.macho_bytes.specs.Numbers.{le_at, le_bytes, be_at, be_bytes, row_bytes}
use Rattle.macho_bytes.specs.Layouts.{reading}
use Rattle.macho_model.specs.Commands.{header_of, commands_from, commands_of, commands_end}
use Rattle.macho_model.specs.Objects.{num_sections, section_place, section_at, section_bytes, symtab_of, num_symbols, symbol_place, symbol_at, strings_of, symbol_name, relocation_place, relocation_at}
use Rattle.macho_model.specs.ExportLists.{plain_entries, all_entries, entries_of}
use Rattle.macho_model.specs.Links.{sections_of, carried_of, template_exponent, placed_exponent}
use Rattle.macho_model.specs.Resolution.{symbols_of, strong_of, commons_of, greatest_of, libraries_with, definition_of, chosen_commons}
use Rattle.macho_model.specs.Needs.{initializer_sections, unwind_sections, imports_of, libraries_needed, carried_relocations, initializer_relocations, personality_relocations}
use Rattle.macho_model.specs.Targets.{target_of, target_of_relocation, slots_of, stubs_of}
use Rattle.macho_model.specs.Fields.{fields_of}
use Rattle.macho_model.specs.Segments.{other_segments, segment_names_of, output_keys_of, segments_for}
use Rattle.macho_model.specs.steps.Outputs.{output_sections_of, output_sections_for, pieces_of}
use Rattle.macho_model.specs.OutputSections.{output_sections_of as all_sections}
use Rattle.macho_model.specs.Images.{segments_of, mapped_segments, base_of, libraries_of, tables_of, tries_of, signatures_of, symbol_tables_of, string_tables_of, entries_of_file}
use Rattle.macho_model.specs.SymbolTable.{table_symbols}
use Rattle.macho_model_checks.proofs.Examples.{words8, words, halves, name16}
use Rattle.macho_model_checks.proofs.ExampleLinks.{entry}

pub no_entries : resolved_entries calling placed_call ≡ []
unfolding commands_end commands_of commands_from header_of reading le_at row_bytes le_bytes words8 words halves name16 entry calls_exit
    head_of_call fixups_of_call tables_of_call be_at be_bytes big_words signature_of_call call_image num_sections section_place
    section_at section_bytes symtab_of num_symbols symbol_place symbol_at strings_of symbol_name relocation_place relocation_at
    sections_of carried_of template_exponent placed_exponent symbols_of strong_of commons_of greatest_of libraries_with
    definition_of chosen_commons initializer_sections unwind_sections carried_relocations initializer_relocations personality_relocations
    imports_of libraries_needed target_of
    target_of_relocation slots_of stubs_of fields_of plain_entries all_entries entries_of other_segments segment_names_of
    output_keys_of table_symbols output_sections_of all_sections output_sections_for pieces_of
    segments_for entries_of_link resolved_entries
no_entries = refl

no_bytes : unwind_bytes call_image placed_call ≡ []
unfolding commands_end commands_of commands_from header_of reading le_at row_bytes le_bytes words8 words halves name16 entry calls_exit
    head_of_call fixups_of_call tables_of_call be_at be_bytes big_words signature_of_call call_image segments_of mapped_segments base_of
    libraries_of tables_of tries_of signatures_of symbol_tables_of string_tables_of entries_of_file offset_in_file unwind_bytes
no_bytes = refl

-- THE unwind information of a link without entries
pub call_unwind : UnwindSays calling call_image placed_call
call_unwind = record {
  content = [];
  exact = inl (no_entries, refl);
  begins = record { within = omega arith; same = refl };
  finds = λ offset x. (
    λ finds. absurd (
        let header : 28 ≤ length (unwind_bytes call_image placed_call) = finds.tables.header in omega (arith, ap length no_bytes, header)),
    λ is. absurd (omega (arith, ap length no_entries, is.of_offset.one.1)),
  );
}
