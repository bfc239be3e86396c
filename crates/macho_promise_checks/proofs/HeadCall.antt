-- The link of the call is placed, and the head of its image says what the placement does.
--
-- Each is computed from the bytes that were written out by hand.
use Rattle.std.proofs.Common.{◌≡◌, ℕ, zero, suc, ◌+◌, ◌%◌, ◌^◌, ◌≤◌, ◌⊎◌, ◌||◌, nat_le, Bool, true, [], ◌∷◌, length, refl, sym, subst, arith, inl, inr}
use Rattle.std.specs.List.{AllByRecursion}
use Rattle.std.proofs.lemmas.Bool.{or_cases, leb-true, true≢false}
use Rattle.std.proofs.lemmas.List.Elements.{All-from_recursion}
use Rattle.macho_model.specs.declared.placed.PlacedSegment.{PlacedSegment}
use Rattle.macho_model.specs.Grammar.{IsObject, ObjectsAreRead}
use Rattle.macho_model.specs.Placement.{is_segment_named}
use Rattle.macho_model.specs.Memory.{Choice}
use Rattle.macho_model.specs.Stands.{IsAt}
use Rattle.macho_fixups.specs.declared.run.FixupSegment.{FixupSegment}
use Rattle.macho_fixups.specs.Runs.{AreSegments}
use Rattle.macho_commands.specs.Laws.{HasRoom}
use Rattle.macho_promise.specs.FixupsSay.{fixup_segments}
use Rattle.macho_promise.specs.Promise.{Agrees}
use Rattle.macho_bytes.specs.Numbers.{le_at, le_bytes, row_bytes, be_at, be_bytes}
use Rattle.macho_bytes.specs.Layouts.{reading}
use Rattle.macho_model.specs.Commands.{header_of, commands_from, commands_of, commands_end}
use Rattle.macho_model.specs.Objects.{num_sections, section_place, section_at, section_bytes, symtab_of, num_symbols, symbol_place, symbol_at, strings_of, symbol_name, relocation_place, relocation_at}
use Rattle.macho_model.specs.ExportLists.{plain_entries, all_entries, entries_of}
use Rattle.macho_model.specs.Links.{sections_of, carried_of, template_exponent, placed_exponent}
use Rattle.macho_model.specs.Resolution.{symbols_of, strong_of, commons_of, greatest_of, libraries_with, definition_of, chosen_commons}
use Rattle.macho_model.specs.Needs.{initializer_sections, unwind_sections, imports_of, libraries_needed, carried_relocations, initializer_relocations, personality_relocations}
use Rattle.macho_model.specs.Targets.{target_of, target_of_relocation, slots_of, stubs_of, target_of_name}
use Rattle.macho_model.specs.Fields.{fields_of}
use Rattle.macho_model.specs.Rows.{is_supported}
use Rattle.macho_model.specs.Consumed.{personality_targets, entries_of_link}
use Rattle.macho_model.specs.Segments.{TEXT, other_segments, segment_rank, segment_names_of, output_keys_of, output_count}
use Rattle.macho_model.specs.WrittenSum.{content_sum, command_sum, unsigned_sum, written_sum_of}
use Rattle.macho_model_checks.proofs.Examples.{words8, words, halves, name16}
use Rattle.macho_model_checks.proofs.ExampleLinks.{entry}
use Rattle.macho_model_checks.proofs.ExampleCall.{calls_exit, calling, counts_of_call, placed_call, head_of_call, fixups_of_call, tables_of_call, big_words, signature_of_call, call_image}
use Rattle.macho_model.specs.Images.{segments_of, base_of, tables_of, entries_of_file}
use Rattle.macho_model.specs.Addresses.{offset_in_file}
use Rattle.macho_model_checks.proofs.ExamplePlacement.{section_a}
use Rattle.macho_model_checks.proofs.RowsCall.{call_agrees, call_tables, call_long}
use Rattle.macho_image_laws.specs.Laws.{IsPlacedLink}
use Rattle.macho_image_laws.proofs.Sounding.{valid_is_sound}
use Rattle.macho_promise_checks.proofs.FactsCall.{entry_call, object_call, valid_call}
use Rattle.macho_promise_checks.proofs.PlacedCall.{pairs_by_test, placed_is_placed}

-- its one object is read
objects_call : ObjectsAreRead calling
objects_call zero b (lt, is) = let same : calls_exit ≡ b = cc in subst IsObject same object_call
objects_call (suc zero) b (lt, is) = absurd (cc)
objects_call (suc (suc k)) b (lt, is) = absurd (omega (arith, lt))

pub link_call : IsPlacedLink calling counts_of_call placed_call
link_call = record {
  objects = objects_call;
  sound = (valid_is_sound calling counts_of_call valid_call).0;
  personalities = (valid_is_sound calling counts_of_call valid_call).1;
  placed = placed_is_placed;
}

commands_size : commands_end call_image ≡ 920
unfolding header_of commands_from commands_of commands_end num_sections section_place section_at section_bytes symtab_of
    num_symbols symbol_place symbol_at strings_of symbol_name relocation_place relocation_at sections_of carried_of template_exponent
    placed_exponent symbols_of strong_of commons_of greatest_of libraries_with definition_of chosen_commons
    initializer_sections unwind_sections carried_relocations initializer_relocations personality_relocations imports_of libraries_needed
    target_of target_of_relocation slots_of stubs_of
    fields_of is_supported plain_entries all_entries entries_of other_segments segment_rank segment_names_of output_keys_of
    output_count content_sum command_sum unsigned_sum written_sum_of personality_targets entries_of_link le_at le_bytes
    row_bytes reading words8 words halves name16 entry calls_exit head_of_call fixups_of_call tables_of_call be_at
    be_bytes big_words signature_of_call call_image segments_of base_of tables_of entries_of_file offset_in_file
commands_size = refl

-- the head
abbrev order_test : FixupSegment → FixupSegment → Bool
order_test s t = nat_le (s.address + s.size) t.address

abbrev apart_test : FixupSegment → FixupSegment → Bool
apart_test s t = nat_le (s.file_offset + s.file_size) t.file_offset || nat_le (t.file_offset + t.file_size) s.file_offset

pub segments_call : AreSegments (fixup_segments placed_call)
segments_call = record {
  in_order = pairs_by_test (λ (s t : FixupSegment). s.address + s.size ≤ t.address) order_test
      (λ s t h. leb-true (s.address + s.size) t.address h) (fixup_segments placed_call) refl;
  paged = All-from_recursion (λ (s : FixupSegment). s.address % 0x4000 ≡ 0) (fixup_segments placed_call)
      (refl, (refl, (refl, (refl, (refl, tt)))));
  apart = pairs_by_test (λ (s t : FixupSegment). (s.file_offset + s.file_size ≤ t.file_offset)
      ⊎ (t.file_offset + t.file_size ≤ s.file_offset)) apart_test
      (λ s t h. elim (or_cases (nat_le (s.file_offset + s.file_size) t.file_offset)
      (nat_le (t.file_offset + t.file_size) s.file_offset) h) [
        | inl a ↦ inl (leb-true (s.file_offset + s.file_size) t.file_offset a)
        | inr a ↦ inr (leb-true (t.file_offset + t.file_size) s.file_offset a)
      ]) (fixup_segments placed_call) refl;
  sizes = All-from_recursion (λ (s : FixupSegment). s.file_size ≤ s.size) (fixup_segments placed_call)
      (omega arith, (omega arith, (omega arith, (omega arith, (omega arith, tt)))));
  ends = All-from_recursion (λ (s : FixupSegment). (s.address + s.size ≤ 2 ^ 64) × (s.file_offset + s.file_size ≤ 2 ^ 64))
      (fixup_segments placed_call) (
        (omega arith, omega arith),
        (
          (omega arith, omega arith),
          (
            (omega arith, omega arith),
            (
              (omega arith, omega arith),
              ((omega arith, omega arith), tt),
            ),
          ),
        ),
      );
}

text_room : AllByRecursion (λ (s : PlacedSegment). is_segment_named TEXT s ≡ true
    → (s.file_offset ≡ 0) × (commands_end call_image ≤ s.file_size)) placed_call.segments
unfolding name16
text_room = (
  λ h. absurd (true≢false (sym h)),
  (
    λ h. (refl, omega (arith, commands_size)),
    (λ h. absurd (true≢false (sym h)), (λ h. absurd (true≢false (sym h)), (λ h. absurd (true≢false (sym h)), tt))),
  ),
)

pub room_call : HasRoom call_image placed_call
room_call = record {
  file = All-from_recursion (λ (s : PlacedSegment). s.file_offset + s.file_size ≤ length call_image) placed_call.segments (
    omega (arith, call_long),
    (
      omega (arith, call_long),
      (
        omega (arith, call_long),
        (omega (arith, call_long), (omega (arith, call_long), tt)),
      ),
    ),
  );
  memory = All-from_recursion (λ (s : PlacedSegment). s.address + s.size ≤ 2 ^ 64) placed_call.segments
      (omega arith, (omega arith, (omega arith, (omega arith, (omega arith, tt)))));
  text = All-from_recursion (λ (s : PlacedSegment). is_segment_named TEXT s ≡ true
      → (s.file_offset ≡ 0) × (commands_end call_image ≤ s.file_size)) placed_call.segments text_room;
}

-- the entry
entries_call : entries_of_file call_image ≡ 0x398 ∷ []
unfolding header_of commands_from commands_of commands_end num_sections section_place section_at section_bytes symtab_of
    num_symbols symbol_place symbol_at strings_of symbol_name relocation_place relocation_at sections_of carried_of template_exponent
    placed_exponent symbols_of strong_of commons_of greatest_of libraries_with definition_of chosen_commons
    initializer_sections unwind_sections carried_relocations initializer_relocations personality_relocations imports_of libraries_needed
    target_of target_of_relocation slots_of stubs_of
    fields_of is_supported plain_entries all_entries entries_of other_segments segment_rank segment_names_of output_keys_of
    output_count content_sum command_sum unsigned_sum written_sum_of personality_targets entries_of_link le_at le_bytes
    row_bytes reading words8 words halves name16 entry calls_exit head_of_call fixups_of_call tables_of_call be_at
    be_bytes big_words signature_of_call call_image segments_of base_of tables_of entries_of_file offset_in_file
entries_call = refl

base_call : base_of call_image ≡ 0x100000000
unfolding header_of commands_from commands_of commands_end num_sections section_place section_at section_bytes symtab_of
    num_symbols symbol_place symbol_at strings_of symbol_name relocation_place relocation_at sections_of carried_of template_exponent
    placed_exponent symbols_of strong_of commons_of greatest_of libraries_with definition_of chosen_commons
    initializer_sections unwind_sections carried_relocations initializer_relocations personality_relocations imports_of libraries_needed
    target_of target_of_relocation slots_of stubs_of
    fields_of is_supported plain_entries all_entries entries_of other_segments segment_rank segment_names_of output_keys_of
    output_count content_sum command_sum unsigned_sum written_sum_of personality_targets entries_of_link le_at le_bytes
    row_bytes reading words8 words halves name16 entry calls_exit head_of_call fixups_of_call tables_of_call be_at
    be_bytes big_words signature_of_call call_image segments_of base_of tables_of entries_of_file offset_in_file
base_call = refl

enters : (s : ℕ) (choice : Choice) → IsAt calling placed_call s choice (target_of_name calling calling.entry)
    (base_of call_image + 0x398 + s)
enters s choice = rw (entry_call, base_call) (0x100000398, (section_a 0x100000398, (0, omega arith, refl), refl, refl, refl), omega arith)

pub agrees_call : Agrees calling counts_of_call call_image placed_call
agrees_call = record {
  commands = record {
    segments = call_agrees.0;
    head = call_agrees.1;
    headers = call_agrees.2;
    entry = record { executable = λ h. (0x398, entries_call, enters); library = λ h. absurd (true≢false h) };
  };
  tables = call_tables;
}
