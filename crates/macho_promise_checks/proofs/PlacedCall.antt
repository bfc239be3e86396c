-- The placement of the call's link is placed.
--
-- The sections, the slot and the stub are the link's. Each part lies in its segment, and all of them are apart, by a test of each pair.
use Rattle.std.proofs.Common.{◌≡◌, zero, suc, ◌+◌, ◌%◌, ◌^◌, ◌≤◌, ◌==◌, ◌&&◌, ◌||◌, nat_le, Bool, true, List, [], ◌∷◌, refl, sym, arith, inl, inr}
use Rattle.std.specs.Prelude.{AllPairs}
use Rattle.std.specs.List.{list_all, AllByRecursion}
use Rattle.std.proofs.lemmas.Bool.{and_parts, or_cases, eqb-true, leb-true}
use Rattle.std.proofs.lemmas.List.Elements.{All-from_recursion, All-weaker}
use Rattle.std.proofs.lemmas.List.Kept.{AllPairs-cons}
use Rattle.macho_model.specs.declared.placed.PlacedSegment.{PlacedSegment}
use Rattle.macho_model.specs.declared.placed.PlacedSection.{PlacedSection}
use Rattle.macho_model.specs.declared.placed.Slot.{Slot}
use Rattle.macho_model.specs.declared.placed.Stub.{Stub}
use Rattle.macho_model.specs.declared.targets.Target.TheVariants as target
use Rattle.macho_model.specs.Segments.{DATA_CONST, TEXT, other_segments, segment_rank, segment_names_of, output_keys_of, output_count}
use Rattle.macho_model.specs.Placement.{id_of, linkedit_ranges, IsWholeList, IsPaged, Follows, IsPlaced}
use Rattle.macho_model.specs.Zeros.{Span}
use Rattle.macho_model.specs.Spans.{AreApart, spans_with, slot_span, stub_span, IsInOrder, TextBegins}
use Rattle.macho_model.specs.steps.Parts.{SectionLies, LiesInNamed, TableLies, IsAligned, IsInSegment, TemplateHolds}
use Rattle.macho_bytes.specs.Numbers.{le_at, le_bytes, row_bytes}
use Rattle.macho_bytes.specs.Layouts.{reading}
use Rattle.macho_model.specs.Commands.{header_of, commands_from, commands_of, commands_end}
use Rattle.macho_model.specs.Objects.{num_sections, section_place, section_at, section_bytes, symtab_of, num_symbols, symbol_place, symbol_at, strings_of, symbol_name, relocation_place, relocation_at}
use Rattle.macho_model.specs.ExportLists.{plain_entries, all_entries, entries_of}
use Rattle.macho_model.specs.Links.{sections_of, carried_of, template_exponent, placed_exponent}
use Rattle.macho_model.specs.Resolution.{symbols_of, strong_of, commons_of, greatest_of, libraries_with, definition_of, chosen_commons}
use Rattle.macho_model.specs.Needs.{initializer_sections, unwind_sections, imports_of, libraries_needed, carried_relocations, initializer_relocations, personality_relocations}
use Rattle.macho_model.specs.Targets.{target_of, target_of_relocation, slots_of, stubs_of, slot_number}
use Rattle.macho_model.specs.Fields.{fields_of}
use Rattle.macho_model.specs.Rows.{is_supported}
use Rattle.macho_model.specs.Consumed.{personality_targets, entries_of_link}
use Rattle.macho_model.specs.WrittenSum.{content_sum, command_sum, unsigned_sum, written_sum_of}
use Rattle.macho_model.specs.Lists.{EachNext}
use Rattle.macho_model_checks.proofs.Examples.{words8, words, halves, name16}
use Rattle.macho_model_checks.proofs.ExampleLinks.{entry}
use Rattle.macho_model_checks.proofs.ExampleCall.{calls_exit, calling, counts_of_call, code_placed, data_placed, slot_placed, stub_placed, placed_call, constants_segment, data_segment, linkedit_segment}
use Rattle.macho_model_checks.proofs.ExamplePlacement.{pagezero_to, text_from}
use Rattle.macho_promise_checks.proofs.FactsCall.{carried_call, exponents_call, commons_call, slots_call, stubs_call, sum_call}
use Rattle.macho_model.proofs.Parts.{even_pieces, pieces_in, apart_pieces, template_pieces}
use Rattle.macho_bytes.proofs.Members.{all_pass}

-- two parts are apart, as a test
abbrev apart_test : Span → Span → Bool
apart_test a b = (a.size == 0) || ((b.size == 0) || (nat_le (a.start + a.size) b.start || nat_le (b.start + b.size) a.start))

apart_by_test : (a b : Span) → apart_test a b ≡ true → AreApart a b
apart_by_test a b h = elim (or_cases (a.size == 0) ((b.size == 0) || (nat_le (a.start + a.size) b.start || nat_le
    (b.start + b.size) a.start)) h) [
      | inl none ↦ inl (eqb-true a.size 0 none)
      | inr h2 ↦ elim (or_cases (b.size == 0) (nat_le (a.start + a.size) b.start || nat_le (b.start + b.size) a.start) h2) [
        | inl none ↦ inr (inl (eqb-true b.size 0 none))
        | inr h3 ↦ elim (or_cases (nat_le (a.start + a.size) b.start) (nat_le (b.start + b.size) a.start) h3) [
          | inl before ↦ inr (inr (inl (leb-true (a.start + a.size) b.start before)))
          | inr behind ↦ inr (inr (inr (leb-true (b.start + b.size) a.start behind)))
        ]
      ]
    ]

abbrev pairs_test : {X : Type 0} → (X → X → Bool) → List X → Bool
pairs_test test [] = true
pairs_test test (x ∷ xs) = list_all (test x) xs && pairs_test test xs

pub pairs_by_test : {X : Type 0} (R : X → X → Type 0) (test : X → X → Bool) → ((x y : X) → test x y ≡ true → R x y) → (xs : List X)
    → pairs_test test xs ≡ true → AllPairs R xs
pairs_by_test R test sound [] h = λ i j d before within. absurd (omega (arith, within))
pairs_by_test R test sound (x ∷ xs) h =
    let both = and_parts (list_all (test x) xs) (pairs_test test xs) h in
    AllPairs-cons R x xs (All-weaker (λ y. test x y ≡ true) (R x) (λ y t. sound x y t) xs (all_pass (test x) xs both.0))
    (pairs_by_test R test sound xs both.1)

pairs_pass : pairs_test apart_test (spans_with calling counts_of_call placed_call placed_call.sections) ≡ true
unfolding spans_with header_of commands_from commands_of commands_end num_sections section_place section_at section_bytes
    symtab_of num_symbols symbol_place symbol_at strings_of symbol_name relocation_place relocation_at sections_of carried_of
    template_exponent placed_exponent symbols_of strong_of commons_of greatest_of libraries_with definition_of chosen_commons
    initializer_sections unwind_sections carried_relocations initializer_relocations personality_relocations imports_of libraries_needed
    target_of target_of_relocation slots_of stubs_of
    fields_of is_supported plain_entries all_entries entries_of other_segments segment_rank segment_names_of output_keys_of
    output_count content_sum command_sum unsigned_sum written_sum_of personality_targets entries_of_link le_at le_bytes
    row_bytes reading words8 words halves name16 entry calls_exit
pairs_pass = refl

whole_call : IsWholeList calling placed_call
whole_call = record {
  sections = sym carried_call;
  commons = rw commons_call refl;
  slots = sym slots_call;
  stubs = sym stubs_call;
  stub_slots = All-from_recursion (λ (s : Stub). s.slot ≡ slot_number calling (target.Import s.import)) placed_call.stubs
      (rw slots_call refl, tt);
}

aligned_call : IsAligned calling placed_call
aligned_call = record {
  sections = All-from_recursion (λ (q : PlacedSection). q.address % 2 ^ placed_exponent calling (id_of q) ≡ 0) placed_call.sections
      (rw exponents_call.0 refl, (rw exponents_call.1 refl, tt));
  commons = λ k d lt. absurd (omega (arith, lt));
  slots = All-from_recursion (λ (s : Slot). s.address % 8 ≡ 0) placed_call.slots (refl, tt);
  stubs = All-from_recursion (λ (s : Stub). s.address % 4 ≡ 0) placed_call.stubs (refl, tt);
}

sections_lie : SectionLies calling placed_call code_placed × SectionLies calling placed_call data_placed
unfolding header_of commands_from commands_of commands_end num_sections section_place section_at section_bytes symtab_of
    num_symbols symbol_place symbol_at strings_of symbol_name relocation_place relocation_at sections_of carried_of template_exponent
    placed_exponent symbols_of strong_of commons_of greatest_of libraries_with definition_of chosen_commons
    initializer_sections unwind_sections carried_relocations initializer_relocations personality_relocations imports_of libraries_needed
    target_of target_of_relocation slots_of stubs_of
    fields_of is_supported plain_entries all_entries entries_of other_segments segment_rank segment_names_of output_keys_of
    output_count content_sum command_sum unsigned_sum written_sum_of personality_targets entries_of_link le_at le_bytes
    row_bytes reading words8 words halves name16 entry calls_exit
sections_lie = (
  (text_from 0x100000000 0x4000, (omega arith, refl), refl, record { from = omega arith; to = omega arith }),
  (data_segment, (omega arith, refl), refl, record { from = omega arith; to = omega arith }),
)

slot_lies : LiesInNamed placed_call DATA_CONST true (slot_span slot_placed)
unfolding name16
slot_lies = (constants_segment, (2, omega arith, refl), refl, record { from = omega arith; to = omega arith })

stub_lies : LiesInNamed placed_call TEXT true (stub_span stub_placed)
unfolding name16
stub_lies = (text_from 0x100000000 0x4000, (1, omega arith, refl), refl, record { from = omega arith; to = omega arith })

tables_lie : AllByRecursion (TableLies placed_call) (linkedit_ranges placed_call)
unfolding name16
tables_lie = (
  inr (linkedit_segment, (4, omega arith, refl), refl, omega arith, omega arith, omega arith),
  (
    inr (linkedit_segment, (4, omega arith, refl), refl, omega arith, omega arith, omega arith),
    (
      inr (linkedit_segment, (4, omega arith, refl), refl, omega arith, omega arith, omega arith),
      (
        inr (linkedit_segment, (4, omega arith, refl), refl, omega arith, omega arith, omega arith),
        (inr (linkedit_segment, (4, omega arith, refl), refl, omega arith, omega arith, omega arith), tt),
      ),
    ),
  ),
)

inside_call : IsInSegment calling placed_call
inside_call = record {
  sections = All-from_recursion (SectionLies calling placed_call) placed_call.sections (sections_lie.0, (sections_lie.1, tt));
  commons = λ k d lt. absurd (omega (arith, lt));
  slots = All-from_recursion (λ (s : Slot). LiesInNamed placed_call DATA_CONST true (slot_span s)) placed_call.slots (slot_lies, tt);
  stubs = All-from_recursion (λ (s : Stub). LiesInNamed placed_call TEXT true (stub_span s)) placed_call.stubs (stub_lies, tt);
  init_offsets = (omega arith, inl refl);
  unwind = (omega arith, inl refl);
  linkedit = All-from_recursion (TableLies placed_call) (linkedit_ranges placed_call) tables_lie;
}

follows_0 : Follows calling (pagezero_to 0x100000000) (text_from 0x100000000 0x4000)
unfolding header_of commands_from commands_of commands_end num_sections section_place section_at section_bytes symtab_of
    num_symbols symbol_place symbol_at strings_of symbol_name relocation_place relocation_at sections_of carried_of template_exponent
    placed_exponent symbols_of strong_of commons_of greatest_of libraries_with definition_of chosen_commons
    initializer_sections unwind_sections carried_relocations initializer_relocations personality_relocations imports_of libraries_needed
    target_of target_of_relocation slots_of stubs_of
    fields_of is_supported plain_entries all_entries entries_of other_segments segment_rank segment_names_of output_keys_of
    output_count content_sum command_sum unsigned_sum written_sum_of personality_targets entries_of_link le_at le_bytes
    row_bytes reading words8 words halves name16 entry calls_exit
follows_0 = record { rank = omega arith; address = refl; file_offset = refl }

follows_1 : Follows calling (text_from 0x100000000 0x4000) constants_segment
unfolding header_of commands_from commands_of commands_end num_sections section_place section_at section_bytes symtab_of
    num_symbols symbol_place symbol_at strings_of symbol_name relocation_place relocation_at sections_of carried_of template_exponent
    placed_exponent symbols_of strong_of commons_of greatest_of libraries_with definition_of chosen_commons
    initializer_sections unwind_sections carried_relocations initializer_relocations personality_relocations imports_of libraries_needed
    target_of target_of_relocation slots_of stubs_of
    fields_of is_supported plain_entries all_entries entries_of other_segments segment_rank segment_names_of output_keys_of
    output_count content_sum command_sum unsigned_sum written_sum_of personality_targets entries_of_link le_at le_bytes
    row_bytes reading words8 words halves name16 entry calls_exit
follows_1 = record { rank = omega arith; address = refl; file_offset = refl }

follows_2 : Follows calling constants_segment data_segment
unfolding header_of commands_from commands_of commands_end num_sections section_place section_at section_bytes symtab_of
    num_symbols symbol_place symbol_at strings_of symbol_name relocation_place relocation_at sections_of carried_of template_exponent
    placed_exponent symbols_of strong_of commons_of greatest_of libraries_with definition_of chosen_commons
    initializer_sections unwind_sections carried_relocations initializer_relocations personality_relocations imports_of libraries_needed
    target_of target_of_relocation slots_of stubs_of
    fields_of is_supported plain_entries all_entries entries_of other_segments segment_rank segment_names_of output_keys_of
    output_count content_sum command_sum unsigned_sum written_sum_of personality_targets entries_of_link le_at le_bytes
    row_bytes reading words8 words halves name16 entry calls_exit
follows_2 = record { rank = omega arith; address = refl; file_offset = refl }

follows_3 : Follows calling data_segment linkedit_segment
unfolding header_of commands_from commands_of commands_end num_sections section_place section_at section_bytes symtab_of
    num_symbols symbol_place symbol_at strings_of symbol_name relocation_place relocation_at sections_of carried_of template_exponent
    placed_exponent symbols_of strong_of commons_of greatest_of libraries_with definition_of chosen_commons
    initializer_sections unwind_sections carried_relocations initializer_relocations personality_relocations imports_of libraries_needed
    target_of target_of_relocation slots_of stubs_of
    fields_of is_supported plain_entries all_entries entries_of other_segments segment_rank segment_names_of output_keys_of
    output_count content_sum command_sum unsigned_sum written_sum_of personality_targets entries_of_link le_at le_bytes
    row_bytes reading words8 words halves name16 entry calls_exit
follows_3 = record { rank = omega arith; address = refl; file_offset = refl }

each_follows : EachNext (Follows calling) placed_call.segments
each_follows zero s t (before, at_s) (within, at_t) = rw (← at_s, ← at_t) follows_0
each_follows (suc zero) s t (before, at_s) (within, at_t) = rw (← at_s, ← at_t) follows_1
each_follows (suc (suc zero)) s t (before, at_s) (within, at_t) = rw (← at_s, ← at_t) follows_2
each_follows (suc (suc (suc zero))) s t (before, at_s) (within, at_t) = rw (← at_s, ← at_t) follows_3
each_follows (suc (suc (suc (suc k)))) s t before (within, at_t) = absurd (omega (arith, within))

begins_call : TextBegins calling placed_call.segments
unfolding name16
begins_call = (text_from 0x100000000 0x4000, (1, omega arith, refl), refl, refl)

order_call : IsInOrder calling placed_call
order_call = record {
  paged = All-from_recursion IsPaged placed_call.segments (
    record { address = refl; size = refl; file_offset = refl; file_size = omega arith },
    (
      record { address = refl; size = refl; file_offset = refl; file_size = omega arith },
      (
        record { address = refl; size = refl; file_offset = refl; file_size = omega arith },
        (
          record { address = refl; size = refl; file_offset = refl; file_size = omega arith },
          (record { address = refl; size = refl; file_offset = refl; file_size = omega arith }, tt),
        ),
      ),
    ),
  );
  follow = each_follows;
  begins = begins_call;
}

template_call : TemplateHolds calling counts_of_call placed_call placed_call.template
unfolding header_of commands_from commands_of commands_end num_sections section_place section_at section_bytes symtab_of
    num_symbols symbol_place symbol_at strings_of symbol_name relocation_place relocation_at sections_of carried_of template_exponent
    placed_exponent symbols_of strong_of commons_of greatest_of libraries_with definition_of chosen_commons
    initializer_sections unwind_sections carried_relocations initializer_relocations personality_relocations imports_of libraries_needed
    target_of target_of_relocation slots_of stubs_of
    fields_of is_supported plain_entries all_entries entries_of other_segments segment_rank segment_names_of output_keys_of
    output_count content_sum command_sum unsigned_sum written_sum_of personality_targets entries_of_link le_at le_bytes
    row_bytes reading words8 words halves name16 entry calls_exit
template_call = refl

-- THE placement
pub placed_is_placed : IsPlaced calling counts_of_call placed_call
placed_is_placed = record {
  base = refl;
  whole_list = whole_call;
  aligned = even_pieces calling counts_of_call placed_call aligned_call;
  in_segment = pieces_in calling counts_of_call placed_call inside_call;
  apart = apart_pieces calling counts_of_call placed_call placed_call.sections
      (pairs_by_test AreApart apart_test apart_by_test (spans_with calling counts_of_call placed_call placed_call.sections) pairs_pass);
  paged = order_call.paged;
  follow = order_call.follow;
  begins = order_call.begins;
  template = template_pieces calling counts_of_call placed_call placed_call.template template_call;
  within_sum = rw sum_call (All-from_recursion (λ (s : PlacedSegment). s.address + s.size ≤ 0x100000000 + 133505) placed_call.segments
      (omega arith, (omega arith, (omega arith, (omega arith, (omega arith, tt))))));
}
