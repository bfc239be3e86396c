-- The placement of a link with an import stands in order, as low as it may. By computing.
--
-- Neighbours are tested on the pieces that the link and the placement have: `__TEXT` with its head, the code and the stub,
-- `__DATA_CONST` with the slot, and the five tables of `__LINKEDIT`. A test that passes shows what it tests.
use Rattle.std.proofs.Common.{◌≡◌, ℕ, zero, suc, ◌+◌, ◌^◌, ◌==◌, ◌&&◌, Bool, true, List, [], ◌∷◌, get_or, refl, ap, ◌∙◌, subst, arith}
use Rattle.std.specs.List.{list_all}
use Rattle.macho_bytes.specs.Numbers.{rounded_up, le_at, le_bytes, be_at, be_bytes, row_bytes}
use Rattle.macho_model.specs.declared.placed.PlacedSegment.{PlacedSegment}
use Rattle.macho_model.specs.Lists.{EachNext}
use Rattle.macho_model.specs.steps.Outputs.{OutputSection, output_sections_of, output_sections_for, pieces_of}
use Rattle.macho_model.specs.Placement.{Piece, end_of_piece}
use Rattle.macho_model.specs.Order.{table_pieces, BeginsLeast, HaveRoom, AreLeast as StandLeast}
use Rattle.macho_model.specs.steps.Least.{sections_in, row_of, AreLeast, least_size, least_file_size}
use Rattle.macho_model.specs.Spans.{StandInOrder}
use Rattle.macho_model_checks.proofs.ExampleCall.{calls_exit, calling, counts_of_call, placed_call, head_of_call, fixups_of_call, tables_of_call, big_words, signature_of_call, call_image}
use Rattle.macho_bytes.specs.Layouts.{reading}
use Rattle.macho_model.specs.Commands.{header_of, commands_from, commands_of, commands_end}
use Rattle.macho_model.specs.Objects.{num_sections, section_place, section_at, section_bytes, symtab_of, num_symbols, symbol_place, symbol_at, strings_of, symbol_name, relocation_place, relocation_at}
use Rattle.macho_model.specs.ExportLists.{plain_entries, all_entries, entries_of}
use Rattle.macho_model.specs.Links.{sections_of, carried_of, template_exponent, placed_exponent}
use Rattle.macho_model.specs.Resolution.{symbols_of, strong_of, commons_of, greatest_of, libraries_with, definition_of, chosen_commons}
use Rattle.macho_model.specs.Needs.{initializer_sections, unwind_sections, imports_of, libraries_needed, carried_relocations, initializer_relocations, personality_relocations}
use Rattle.macho_model.specs.Targets.{target_of, target_of_relocation, slots_of, stubs_of}
use Rattle.macho_model.specs.Fields.{fields_of}
use Rattle.macho_model.specs.Segments.{other_segments, segment_names_of, output_keys_of, segments_for}
use Rattle.macho_model.specs.SymbolTable.{table_symbols}
use Rattle.macho_model_checks.proofs.Examples.{words8, words, halves, name16}
use Rattle.macho_model_checks.proofs.ExampleLinks.{entry}
use Rattle.macho_model.proofs.Outputs.{stand_least}
use Rattle.macho_bytes.proofs.Bools.{and_left, and_right, is_equal}
use Rattle.macho_bytes.proofs.Members.{all_pass}

-- pieces that pass the tests stand one behind the other, each as low as it may
abbrev pub is_next : Piece → Piece → Bool
is_next c d = d.start == rounded_up (2 ^ d.exponent) (end_of_piece c)

abbrev pub are_least : List Piece → Bool
are_least [] = true
are_least (c ∷ []) = true
are_least (c ∷ d ∷ cs) = is_next c d && are_least (d ∷ cs)

pub least_pieces : (cs : List Piece) → are_least cs ≡ true → EachNext BeginsLeast cs
least_pieces [] h k x y one next = absurd (omega (arith, one.0))
least_pieces (c ∷ []) h k x y one next = absurd (omega (arith, next.0))
least_pieces (c ∷ d ∷ cs) h zero x y one next =
    let same = is_equal d.start (rounded_up (2 ^ d.exponent) (end_of_piece c)) (and_left (is_next c d) (are_least (d ∷ cs)) h) in
    subst (λ (v : Piece). BeginsLeast x v) next.1 (subst (λ (u : Piece). BeginsLeast u d) one.1 same)
least_pieces (c ∷ d ∷ cs) h (suc k) x y one next =
    let number : suc (k + 1) ≡ suc k + 1 = omega arith in
    least_pieces (d ∷ cs) (and_right (is_next c d) (are_least (d ∷ cs)) h) k x y (omega (arith, one.0), one.1)
    (omega (arith, next.0), ap (λ n. get_or (c ∷ d ∷ cs) n y) number ∙ next.1)

-- what the link and its placement have
abbrev pub row_in_call : PlacedSegment → List Piece
row_in_call s = row_of calling counts_of_call placed_call s (sections_in calling counts_of_call s)

abbrev pub outputs_of_call : List OutputSection
outputs_of_call = output_sections_of calling counts_of_call

abbrev pub pieces_in_call : OutputSection → List Piece
pieces_in_call o = pieces_of calling placed_call o

abbrev pub size_in_call : PlacedSegment → ℕ
size_in_call s = least_size calling counts_of_call placed_call s

abbrev pub file_size_in_call : PlacedSegment → ℕ
file_size_in_call s = least_file_size calling counts_of_call placed_call s

-- all of it is computed
least_computed : (list_all (λ (s : PlacedSegment). are_least (row_in_call s)) placed_call.segments ≡ true)
    × (list_all (λ (o : OutputSection). are_least (pieces_in_call o)) outputs_of_call ≡ true)
    × (are_least (table_pieces placed_call) ≡ true)
    × (list_all (λ (s : PlacedSegment). s.size == size_in_call s) placed_call.segments ≡ true)
    × (list_all (λ (s : PlacedSegment). s.file_size == file_size_in_call s) placed_call.segments ≡ true)
unfolding commands_end commands_of commands_from header_of reading le_at row_bytes le_bytes words8 words halves name16 entry calls_exit
    head_of_call fixups_of_call tables_of_call be_at be_bytes big_words signature_of_call call_image num_sections section_place
    section_at section_bytes symtab_of num_symbols symbol_place symbol_at strings_of symbol_name relocation_place relocation_at
    sections_of carried_of template_exponent placed_exponent symbols_of strong_of commons_of greatest_of libraries_with
    definition_of chosen_commons initializer_sections unwind_sections carried_relocations initializer_relocations personality_relocations
    imports_of libraries_needed target_of
    target_of_relocation slots_of stubs_of fields_of plain_entries all_entries entries_of other_segments segment_names_of
    output_keys_of table_symbols output_sections_of output_sections_for pieces_of
    segments_for row_of
least_computed = (refl, refl, refl, refl, refl)

call_rooms : HaveRoom counts_of_call placed_call
call_rooms = record { initializers = refl; unwind = refl; fixups = refl; trie = refl; symbols = refl; strings = refl; signature = refl }

-- THE order
pub call_stands_in_order : StandInOrder calling counts_of_call placed_call
unfolding commands_end commands_of commands_from header_of reading le_at row_bytes le_bytes words8 words halves name16 entry calls_exit
    head_of_call fixups_of_call tables_of_call be_at be_bytes big_words signature_of_call call_image num_sections section_place
    section_at section_bytes symtab_of num_symbols symbol_place symbol_at strings_of symbol_name relocation_place relocation_at
    sections_of carried_of template_exponent placed_exponent symbols_of strong_of commons_of greatest_of libraries_with
    definition_of chosen_commons initializer_sections unwind_sections carried_relocations initializer_relocations personality_relocations
    imports_of libraries_needed target_of
    target_of_relocation slots_of stubs_of fields_of plain_entries all_entries entries_of other_segments segment_names_of
    output_keys_of table_symbols output_sections_of output_sections_for pieces_of
    segments_for row_of
call_stands_in_order = record {
  segments = refl;
  names = refl;
  sections = refl;
  commons = refl;
}

least_of_kinds : AreLeast calling counts_of_call placed_call
least_of_kinds = record {
  front = λ s one. subst (λ (x : PlacedSegment). x.file_offset ≡ 0) one.1 refl;
  rows = λ k d lt. least_pieces (row_in_call (get_or placed_call.segments k d))
      (all_pass (λ (s : PlacedSegment). are_least (row_in_call s)) placed_call.segments least_computed.0 k d lt);
  pieces = λ k d lt. least_pieces (pieces_in_call (get_or outputs_of_call k d))
      (all_pass (λ (o : OutputSection). are_least (pieces_in_call o)) outputs_of_call least_computed.1 k d lt);
  tables = least_pieces (table_pieces placed_call) least_computed.2;
  sizes = λ k d lt. is_equal (get_or placed_call.segments k d).size (size_in_call (get_or placed_call.segments k d))
      (all_pass (λ (s : PlacedSegment). s.size == size_in_call s) placed_call.segments least_computed.3 k d lt);
  file_sizes = λ k d lt. is_equal (get_or placed_call.segments k d).file_size (file_size_in_call (get_or placed_call.segments k d))
      (all_pass (λ (s : PlacedSegment). s.file_size == file_size_in_call s) placed_call.segments least_computed.4 k d lt);
  rooms = call_rooms;
}

-- THE least places
pub call_is_least : StandLeast calling counts_of_call placed_call
call_is_least = stand_least least_of_kinds
