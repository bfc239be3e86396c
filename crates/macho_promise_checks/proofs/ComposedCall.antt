-- The image of the call's link is composed of its parts: the premises of the laws are met.
--
-- The code's bytes are the input's but for the branch, which goes to the stub; the data is a pointer that the loader writes; and the
-- stub goes through the slot. The head, the fixups and the zeros are computed beside.
use Rattle.std.proofs.Common.{◌≡◌, ℕ, zero, suc, ◌<◌, ◌≤◌, List, [], ◌∷◌, length, refl, sym, ap, subst, ◌∙◌, arith, inl, inr, All, slice_index}
use Rattle.std.proofs.lemmas.List.Elements.{All-nil, All-cons, All-from_recursion}
use Rattle.macho_model.specs.declared.targets.Target.TheVariants as target
use Rattle.macho_promise.specs.Filled.{IsFilled, FieldIsSet, bytes_in_file}
use Rattle.macho_bytes.specs.Numbers.{le_at, le_bytes, row_bytes, be_at, be_bytes}
use Rattle.macho_bytes.specs.Layouts.{reading}
use Rattle.macho_model.specs.Commands.{header_of, commands_from, commands_of, commands_end}
use Rattle.macho_model.specs.Objects.{num_sections, section_place, section_at, section_bytes, symtab_of, num_symbols, symbol_place, symbol_at, strings_of, symbol_name, relocation_place, relocation_at}
use Rattle.macho_model.specs.ExportLists.{plain_entries, all_entries, entries_of}
use Rattle.macho_model.specs.Links.{object_of, sections_of, carried_of, template_exponent, placed_exponent}
use Rattle.macho_model.specs.Resolution.{symbols_of, strong_of, commons_of, greatest_of, libraries_with, definition_of, chosen_commons}
use Rattle.macho_model.specs.Needs.{initializer_sections, unwind_sections, imports_of, libraries_needed, carried_relocations, initializer_relocations, personality_relocations}
use Rattle.macho_model.specs.Targets.{target_of, target_of_relocation, slots_of, stubs_of}
use Rattle.macho_model.specs.Fields.{Field, fields_of}
use Rattle.macho_model.specs.Rows.{is_supported}
use Rattle.macho_model.specs.Consumed.{personality_targets, entries_of_link}
use Rattle.macho_model.specs.Segments.{other_segments, segment_rank, segment_names_of, output_keys_of, output_count}
use Rattle.macho_model.specs.WrittenSum.{content_sum, command_sum, unsigned_sum, written_sum_of}
use Rattle.macho_model_checks.proofs.Examples.{words8, words, halves, name16}
use Rattle.macho_model_checks.proofs.ExampleLinks.{entry}
use Rattle.macho_model_checks.proofs.ExampleCall.{calls_exit, calling, counts_of_call, code_placed, data_placed, slot_placed, stub_placed, placed_call, uuid_given, head_of_call, fixups_of_call, tables_of_call, big_words, signature_of_call, call_image}
use Rattle.macho_model_checks.proofs.RowsCallChain.{pointer_field, data_fields}
use Rattle.std.proofs.lemmas.Bool.{true≢false}
use Rattle.macho_model.specs.Images.{segments_of, base_of, tables_of, entries_of_file}
use Rattle.macho_model.specs.Addresses.{offset_in_file}
use Rattle.macho_model_checks.proofs.RowsCall.{call_commands, call_imports, call_libraries}
use Rattle.macho_model_checks.proofs.RowsCallZeros.{call_zeros}
use Rattle.macho_image_laws.specs.Composed.{SectionIsWritten, StubIsWritten, IsComposed}
use Rattle.macho_image_laws.specs.Laws.{IsComposedOf}
use Rattle.macho_promise_checks.proofs.FactsCall.{sizes_call, field_call, fields_call, content_call}
use Rattle.macho_promise_checks.proofs.HeadCall.{link_call, room_call, segments_call, agrees_call}
use Rattle.macho_promise_checks.proofs.FixupsCall.{fixups_call}
use Rattle.macho_model.specs.Spans.{IsOutsideField}

-- the section and the stub
section_bytes_call : bytes_in_file call_image placed_call 0x100000398 8 ≡ words (0x94000002 ∷ 0xd65f03c0 ∷ [])
unfolding header_of commands_from commands_of commands_end num_sections section_place section_at section_bytes symtab_of
    num_symbols symbol_place symbol_at strings_of symbol_name relocation_place relocation_at sections_of carried_of template_exponent
    placed_exponent symbols_of strong_of commons_of greatest_of libraries_with definition_of chosen_commons
    initializer_sections unwind_sections carried_relocations initializer_relocations personality_relocations imports_of libraries_needed
    target_of target_of_relocation slots_of stubs_of
    fields_of is_supported plain_entries all_entries entries_of other_segments segment_rank segment_names_of output_keys_of
    output_count content_sum command_sum unsigned_sum written_sum_of personality_targets entries_of_link le_at le_bytes
    row_bytes reading words8 words halves name16 entry calls_exit head_of_call fixups_of_call tables_of_call be_at
    be_bytes big_words signature_of_call call_image segments_of base_of tables_of entries_of_file offset_in_file
section_bytes_call = refl

input_bytes_call : section_bytes (object_of calling 0) 0 ≡ words (0x94000000 ∷ 0xd65f03c0 ∷ [])
unfolding header_of commands_from commands_of commands_end num_sections section_place section_at section_bytes symtab_of
    num_symbols symbol_place symbol_at strings_of symbol_name relocation_place relocation_at sections_of carried_of template_exponent
    placed_exponent symbols_of strong_of commons_of greatest_of libraries_with definition_of chosen_commons
    initializer_sections unwind_sections carried_relocations initializer_relocations personality_relocations imports_of libraries_needed
    target_of target_of_relocation slots_of stubs_of
    fields_of is_supported plain_entries all_entries entries_of other_segments segment_rank segment_names_of output_keys_of
    output_count content_sum command_sum unsigned_sum written_sum_of personality_targets entries_of_link le_at le_bytes
    row_bytes reading words8 words halves name16 entry calls_exit
input_bytes_call = refl

tails_call : (i : ℕ) → 4 ≤ i → slice_index (words (0x94000002 ∷ 0xd65f03c0 ∷ [])) i ≡ slice_index (words (0x94000000 ∷ 0xd65f03c0 ∷ [])) i
unfolding words row_bytes le_bytes
tails_call zero low = absurd (omega (arith, low))
tails_call (suc zero) low = absurd (omega (arith, low))
tails_call (suc (suc zero)) low = absurd (omega (arith, low))
tails_call (suc (suc (suc zero))) low = absurd (omega (arith, low))
tails_call (suc (suc (suc (suc k)))) low = refl

long_words : length (words (0x94000002 ∷ 0xd65f03c0 ∷ [])) ≡ 8
unfolding words row_bytes le_bytes
long_words = refl

past_field : (i : ℕ) → IsOutsideField i field_call → 4 ≤ i
unfolding field_call
past_field i (inl before) = absurd (omega (arith, before))
past_field i (inr behind) = omega (arith, behind)

-- the branch says the stub
word_call : le_at 4 (words (0x94000002 ∷ 0xd65f03c0 ∷ [])) 0 ≡ 0x94000002
unfolding words row_bytes le_bytes le_at
word_call = refl

branch_call : FieldIsSet calling placed_call code_placed (words (0x94000002 ∷ 0xd65f03c0 ∷ [])) field_call
unfolding field_call
branch_call plain =
    rw (word_call, content_call) (
      0x1000003a0,
      (stub_placed, (0, omega arith, refl), refl, refl),
      record { reaches = refl; kept = refl },
    )

pub filled_text : IsFilled calling placed_call code_placed (words (0x94000002 ∷ 0xd65f03c0 ∷ []))
filled_text = record {
  long = long_text ∙ sym sizes_call.0;
  rest = λ i within outside.
      let out = subst (λ (fs : List Field). All (IsOutsideField i) fs) fields_call outside 0 field_call (omega arith) in
      tails_call i (past i out) ∙ ap (λ (bytes : List ℕ). slice_index bytes i) (sym input_bytes_call);
  set = rw fields_call (All-cons (FieldIsSet calling placed_call code_placed (words (0x94000002 ∷ 0xd65f03c0 ∷ []))) field_call
      [] branch_call
      (All-nil (FieldIsSet calling placed_call code_placed (words (0x94000002 ∷ 0xd65f03c0 ∷ [])))));
}
  where
    long_text : length (words (0x94000002 ∷ 0xd65f03c0 ∷ [])) ≡ 8
    long_text = long_words

    past : (i : ℕ) → IsOutsideField i field_call → 4 ≤ i
    past i out = past_field i out

section_call : SectionIsWritten calling call_image placed_call code_placed
section_call filled = rw sizes_call.0 (rw section_bytes_call filled_text)

-- the data is one pointer, of which the loader writes all bytes
data_bytes_call : length (bytes_in_file call_image placed_call 0x100008000 8) ≡ 8
unfolding header_of commands_from commands_of commands_end num_sections section_place section_at section_bytes symtab_of
    num_symbols symbol_place symbol_at strings_of symbol_name relocation_place relocation_at sections_of carried_of template_exponent
    placed_exponent symbols_of strong_of commons_of greatest_of libraries_with definition_of chosen_commons
    initializer_sections unwind_sections carried_relocations initializer_relocations personality_relocations imports_of libraries_needed
    target_of target_of_relocation slots_of stubs_of
    fields_of is_supported plain_entries all_entries entries_of other_segments segment_rank segment_names_of output_keys_of
    output_count content_sum command_sum unsigned_sum written_sum_of personality_targets entries_of_link le_at le_bytes
    row_bytes reading words8 words halves name16 entry calls_exit head_of_call fixups_of_call tables_of_call be_at
    be_bytes big_words signature_of_call call_image segments_of base_of tables_of entries_of_file offset_in_file
data_bytes_call = refl

pointer_outside : (i : ℕ) → i < 8 → IsOutsideField i pointer_field → ⊥
pointer_outside i within (inl before) = omega (arith, before)
pointer_outside i within (inr behind) = omega (arith, within, behind)

pointer_call : (text : List ℕ) → FieldIsSet calling placed_call data_placed text pointer_field
pointer_call text plain = absurd (true≢false (sym data_fields.1 ∙ plain))

pub filled_data : IsFilled calling placed_call data_placed (bytes_in_file call_image placed_call 0x100008000 8)
filled_data = record {
  long = data_bytes_call ∙ sym sizes_call.1;
  rest = λ i within outside.
      let out = subst (λ (fs : List Field). All (IsOutsideField i) fs) data_fields.0 outside 0 pointer_field (omega arith) in
      absurd (pointer_outside i (omega (arith, within, sizes_call.1)) out);
  set = rw data_fields.0
      (All-cons (FieldIsSet calling placed_call data_placed (bytes_in_file call_image placed_call 0x100008000 8)) pointer_field []
      (pointer_call (bytes_in_file call_image placed_call 0x100008000 8))
      (All-nil (FieldIsSet calling placed_call data_placed (bytes_in_file call_image placed_call 0x100008000 8))));
}

data_call : SectionIsWritten calling call_image placed_call data_placed
data_call filled = rw sizes_call.1 filled_data

-- the stub goes through the slot
stub_bytes_call : bytes_in_file call_image placed_call 0x1000003a0 12 ≡ words (0x90000030 ∷ 0xf9400210 ∷ 0xd61f0200 ∷ [])
unfolding header_of commands_from commands_of commands_end num_sections section_place section_at section_bytes symtab_of
    num_symbols symbol_place symbol_at strings_of symbol_name relocation_place relocation_at sections_of carried_of template_exponent
    placed_exponent symbols_of strong_of commons_of greatest_of libraries_with definition_of chosen_commons
    initializer_sections unwind_sections carried_relocations initializer_relocations personality_relocations imports_of libraries_needed
    target_of target_of_relocation slots_of stubs_of
    fields_of is_supported plain_entries all_entries entries_of other_segments segment_rank segment_names_of output_keys_of
    output_count content_sum command_sum unsigned_sum written_sum_of personality_targets entries_of_link le_at le_bytes
    row_bytes reading words8 words halves name16 entry calls_exit head_of_call fixups_of_call tables_of_call be_at
    be_bytes big_words signature_of_call call_image segments_of base_of tables_of entries_of_file offset_in_file
stub_bytes_call = refl

stub_words_call : (le_at 4 (words (0x90000030 ∷ 0xf9400210 ∷ 0xd61f0200 ∷ [])) 0 ≡ 0x90000030)
    × (le_at 4 (words (0x90000030 ∷ 0xf9400210 ∷ 0xd61f0200 ∷ [])) 4 ≡ 0xf9400210)
    × (le_at 4 (words (0x90000030 ∷ 0xf9400210 ∷ 0xd61f0200 ∷ [])) 8 ≡ 0xd61f0200)
    × (length (words (0x90000030 ∷ 0xf9400210 ∷ 0xd61f0200 ∷ [])) ≡ 12)
unfolding words row_bytes le_bytes le_at
stub_words_call = (refl, refl, refl, refl)

pub stub_call : StubIsWritten call_image placed_call stub_placed
stub_call = rw stub_bytes_call (record {
  long = stub_words_call.3;
  slot = 0x100004000;
  at = (slot_placed, (0, omega arith, refl), refl, refl);
  through = rw (stub_words_call.0, stub_words_call.1, stub_words_call.2)
      (record {
        pages = record { reaches = refl; kept = refl };
        loads = record { load = refl; reaches = refl; kept = refl };
        leaves = refl;
      });
})

-- THE image is composed of its parts.
pub call_is_composed : IsComposed calling counts_of_call uuid_given call_image placed_call
call_is_composed = record {
  head = record { says = call_commands; room = room_call; segments = segments_call };
  agrees = agrees_call;
  fixups = fixups_call;
  imports = record { table = call_imports; libraries = call_libraries };
  content = record {
    sections = All-from_recursion (SectionIsWritten calling call_image placed_call) placed_call.sections (section_call, (data_call, tt));
    stubs = All-from_recursion (StubIsWritten call_image placed_call) placed_call.stubs (stub_call, tt);
    unwind = 0;
    unwind_fits = omega arith;
    zeros = call_zeros;
  };
}

-- so the premises of the laws are met
pub call_is_met : IsComposedOf calling counts_of_call uuid_given call_image placed_call
call_is_met = record { link = link_call; composed = call_is_composed }
