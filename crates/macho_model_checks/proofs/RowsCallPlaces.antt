-- Changes of the placement of a link with an import, each of which breaks its order or its least places.
--
-- A gap: the data stands eight bytes higher than it may, and its section header with it; what is listed, and section headers, are as
-- asked. Two sections exchanged: in the list of sections, where the places stay least; and in `__TEXT`, where the stub stands in front
-- of the code.
use Rattle.std.proofs.Common.{◌≡◌, ℕ, ◌≤◌, ◌==◌, ◌&&◌, Bool, true, List, [], ◌∷◌, get_or, map, refl, sym, ap, ◌∙◌, subst, arith}
use Rattle.std.specs.List.{All, AllPairs, list_all}
use Rattle.macho_model.specs.declared.placed.PlacedSegment.{PlacedSegment}
use Rattle.macho_model.specs.Lists.{IsNumber, EachNext}
use Rattle.macho_model.specs.steps.Outputs.{OutputSection, output_sections_of, output_sections_for, pieces_of}
use Rattle.macho_model.specs.Placement.{Piece, Placed, id_of, IsWholeList}
use Rattle.macho_model.specs.Order.{table_pieces, BeginsLeast, HaveRoom, AreLeast as StandLeast}
use Rattle.macho_model.specs.steps.Least.{sections_in, row_of, AreLeast, least_size, least_file_size}
use Rattle.macho_model.specs.Spans.{StandInOrder}
use Rattle.macho_model.proofs.Least.{EndsBefore, rows_in_order}
use Rattle.macho_model_checks.proofs.ExampleCall.{calls_exit, calling, counts_of_call, placed_call, code_placed, data_placed, stub_placed, data_segment, stubs_header, slots_header, data_header, head_of_call, fixups_of_call, tables_of_call, big_words, signature_of_call, call_image}
use Rattle.macho_bytes.specs.Numbers.{le_at, le_bytes, be_at, be_bytes, row_bytes}
use Rattle.macho_bytes.specs.Layouts.{reading}
use Rattle.macho_model.specs.Commands.{header_of, commands_from, commands_of, commands_end}
use Rattle.macho_model.specs.Objects.{num_sections, section_place, section_at, section_bytes, symtab_of, num_symbols, symbol_place, symbol_at, strings_of, symbol_name, relocation_place, relocation_at}
use Rattle.macho_model.specs.ExportLists.{plain_entries, all_entries, entries_of}
use Rattle.macho_model.specs.Links.{sections_of, carried_of, template_exponent, placed_exponent, SectionId}
use Rattle.macho_model.specs.Resolution.{symbols_of, strong_of, commons_of, greatest_of, libraries_with, definition_of, chosen_commons}
use Rattle.macho_model.specs.Needs.{initializer_sections, unwind_sections, imports_of, libraries_needed, carried_relocations, initializer_relocations, personality_relocations}
use Rattle.macho_model.specs.Targets.{target_of, target_of_relocation, slots_of, stubs_of}
use Rattle.macho_model.specs.Fields.{fields_of}
use Rattle.macho_model.specs.Segments.{other_segments, segment_names_of, output_keys_of, segments_for}
use Rattle.macho_model.specs.SymbolTable.{table_symbols}
use Rattle.macho_model_checks.proofs.Examples.{words8, words, halves, name16}
use Rattle.macho_model_checks.proofs.ExampleLinks.{entry}
use Rattle.macho_model_checks.proofs.ExamplePlacement.{header_a, section_a, text_from}
use Rattle.macho_model_checks.proofs.RowsCallOrder.{are_least, least_pieces, outputs_of_call, call_is_least}
use Rattle.macho_model.specs.OutputSections.{output_sections_for as headers_for}
use Rattle.macho_model.proofs.Outputs.{stand_least, least_of, headers_same}
use Rattle.macho_bytes.proofs.Bools.{and_left, and_right, is_equal}
use Rattle.macho_bytes.proofs.Members.{all_pass}

-- what the link has with a placement
abbrev row_with : Placed → PlacedSegment → List Piece
row_with p s = row_of calling counts_of_call p s (sections_in calling counts_of_call s)

abbrev are_rows_least : Placed → Bool
are_rows_least p = list_all (λ (s : PlacedSegment). are_least (row_with p s)) p.segments

abbrev are_pieces_least : Placed → Bool
are_pieces_least p = list_all (λ (o : OutputSection). are_least (pieces_of calling p o)) outputs_of_call

abbrev are_sizes_least : Placed → Bool
are_sizes_least p =
    list_all (λ (s : PlacedSegment). (s.size == least_size calling counts_of_call p s)
    && (s.file_size == least_file_size calling counts_of_call p s)) p.segments

-- placements that pass the tests stand as low as they may
least_places : (p : Placed) → ((s : PlacedSegment) → IsNumber p.segments 0 s → s.file_offset ≡ 0) → are_rows_least p ≡ true
    → are_pieces_least p ≡ true → are_least (table_pieces p) ≡ true → are_sizes_least p ≡ true → HaveRoom counts_of_call p
    → AreLeast calling counts_of_call p
least_places p front rows pieces tables sizes rooms = record {
  front = front;
  rows = λ k d lt. least_pieces (row_with p (get_or p.segments k d))
      (all_pass (λ (s : PlacedSegment). are_least (row_with p s)) p.segments rows k d lt);
  pieces = λ k d lt. least_pieces (pieces_of calling p (get_or outputs_of_call k d))
      (all_pass (λ (o : OutputSection). are_least (pieces_of calling p o)) outputs_of_call pieces k d lt);
  tables = least_pieces (table_pieces p) tables;
  sizes = λ k d lt. is_equal (get_or p.segments k d).size (least_size calling counts_of_call p (get_or p.segments k d))
      (and_left (has_size (get_or p.segments k d)) (has_file_size (get_or p.segments k d)) (both k d lt));
  file_sizes = λ k d lt. is_equal (get_or p.segments k d).file_size (least_file_size calling counts_of_call p (get_or p.segments k d))
      (and_right (has_size (get_or p.segments k d)) (has_file_size (get_or p.segments k d)) (both k d lt));
  rooms = rooms;
}
  where
    has_size : PlacedSegment → Bool
    has_size s = s.size == least_size calling counts_of_call p s

    has_file_size : PlacedSegment → Bool
    has_file_size s = s.file_size == least_file_size calling counts_of_call p s

    both : All (λ s. (has_size s && has_file_size s) ≡ true) p.segments
    both = all_pass (λ (s : PlacedSegment). has_size s && has_file_size s) p.segments sizes

-- 1. A gap in front of the data.
abbrev pub with_gap : Placed
with_gap = record placed_call {
  sections = code_placed ∷ record data_placed { address = 0x100008008 } ∷ [];
  output_sections = record header_a { addr = 0x100000398; offset = 0x398 } ∷ stubs_header ∷ slots_header
      ∷ record data_header { addr = 0x100008008; offset = 0x8008 } ∷ [];
}

abbrev piece : ℕ → ℕ → ℕ → Piece
piece start size exponent = record { start = start; size = size; exponent = exponent }

abbrev front_of_data : Piece
front_of_data = piece 0x100008000 0 0

abbrev data_extent : Piece
data_extent = piece 0x100008008 8 3

gap_row : row_with with_gap data_segment ≡ front_of_data ∷ data_extent ∷ []
unfolding commands_end commands_of commands_from header_of reading le_at row_bytes le_bytes words8 words halves name16 entry calls_exit
    head_of_call fixups_of_call tables_of_call be_at be_bytes big_words signature_of_call call_image num_sections section_place
    section_at section_bytes symtab_of num_symbols symbol_place symbol_at strings_of symbol_name relocation_place relocation_at
    sections_of carried_of template_exponent placed_exponent symbols_of strong_of commons_of greatest_of libraries_with
    definition_of chosen_commons initializer_sections unwind_sections carried_relocations initializer_relocations personality_relocations
    imports_of libraries_needed target_of
    target_of_relocation slots_of stubs_of fields_of plain_entries all_entries entries_of other_segments segment_names_of
    output_keys_of table_symbols output_sections_of output_sections_for pieces_of
    segments_for row_of
gap_row = refl

-- it is listed in order, and its section headers are those of the link
pub gap_in_order : StandInOrder calling counts_of_call with_gap
unfolding commands_end commands_of commands_from header_of reading le_at row_bytes le_bytes words8 words halves name16 entry calls_exit
    head_of_call fixups_of_call tables_of_call be_at be_bytes big_words signature_of_call call_image num_sections section_place
    section_at section_bytes symtab_of num_symbols symbol_place symbol_at strings_of symbol_name relocation_place relocation_at
    sections_of carried_of template_exponent placed_exponent symbols_of strong_of commons_of greatest_of libraries_with
    definition_of chosen_commons initializer_sections unwind_sections carried_relocations initializer_relocations personality_relocations
    imports_of libraries_needed target_of
    target_of_relocation slots_of stubs_of fields_of plain_entries all_entries entries_of other_segments segment_names_of
    output_keys_of table_symbols output_sections_of output_sections_for pieces_of
    segments_for row_of
gap_in_order = record {
  segments = refl;
  names = refl;
  sections = refl;
  commons = refl;
}

kinds_in_headers : with_gap.output_sections ≡ output_sections_for calling counts_of_call with_gap
unfolding commands_end commands_of commands_from header_of reading le_at row_bytes le_bytes words8 words halves name16 entry calls_exit
    head_of_call fixups_of_call tables_of_call be_at be_bytes big_words signature_of_call call_image num_sections section_place
    section_at section_bytes symtab_of num_symbols symbol_place symbol_at strings_of symbol_name relocation_place relocation_at
    sections_of carried_of template_exponent placed_exponent symbols_of strong_of commons_of greatest_of libraries_with
    definition_of chosen_commons initializer_sections unwind_sections carried_relocations initializer_relocations personality_relocations
    imports_of libraries_needed target_of
    target_of_relocation slots_of stubs_of fields_of plain_entries all_entries entries_of other_segments segment_names_of
    output_keys_of table_symbols output_sections_of output_sections_for pieces_of
    segments_for row_of
kinds_in_headers = refl

pub gap_in_headers : with_gap.output_sections ≡ headers_for calling counts_of_call with_gap
gap_in_headers = kinds_in_headers ∙ sym (headers_same calling counts_of_call with_gap)

pub least_is_asked : StandLeast calling counts_of_call with_gap → ⊥
least_is_asked least =
    let next = subst (λ (row : List Piece). EachNext BeginsLeast row) gap_row ((least_of least).rows 3 data_segment (omega arith)) in
    let place : 0x100008008 ≡ 0x100008000 = next 0 front_of_data data_extent (omega arith, refl) (omega arith, refl) in
    omega (arith, place)

-- 2. The sections exchanged in their list.
abbrev pub with_list_exchanged : Placed
with_list_exchanged = record placed_call { sections = data_placed ∷ code_placed ∷ [] }

exchanged_facts : (are_rows_least with_list_exchanged ≡ true) × (are_pieces_least with_list_exchanged ≡ true)
    × (are_least (table_pieces with_list_exchanged) ≡ true) × (are_sizes_least with_list_exchanged ≡ true)
    × (map (λ (s : SectionId). s.section) (map id_of with_list_exchanged.sections) ≡ 1 ∷ 0 ∷ [])
    × (map (λ (s : SectionId). s.section) (carried_of calling) ≡ 0 ∷ 1 ∷ [])
unfolding commands_end commands_of commands_from header_of reading le_at row_bytes le_bytes words8 words halves name16 entry calls_exit
    head_of_call fixups_of_call tables_of_call be_at be_bytes big_words signature_of_call call_image num_sections section_place
    section_at section_bytes symtab_of num_symbols symbol_place symbol_at strings_of symbol_name relocation_place relocation_at
    sections_of carried_of template_exponent placed_exponent symbols_of strong_of commons_of greatest_of libraries_with
    definition_of chosen_commons initializer_sections unwind_sections carried_relocations initializer_relocations personality_relocations
    imports_of libraries_needed target_of
    target_of_relocation slots_of stubs_of fields_of plain_entries all_entries entries_of other_segments segment_names_of
    output_keys_of table_symbols output_sections_of output_sections_for pieces_of
    segments_for row_of
exchanged_facts = (refl, refl, refl, refl, refl, refl)

exchanged_rooms : HaveRoom counts_of_call with_list_exchanged
exchanged_rooms = record {
  initializers = refl;
  unwind = refl;
  fixups = refl;
  trie = refl;
  symbols = refl;
  strings = refl;
  signature = refl;
}

-- each part has its least place
pub exchanged_is_least : StandLeast calling counts_of_call with_list_exchanged
exchanged_is_least =
    stand_least
    (least_places with_list_exchanged call_is_least.front exchanged_facts.0 exchanged_facts.1 exchanged_facts.2
    exchanged_facts.3 exchanged_rooms)

pub list_order_is_asked : IsWholeList calling with_list_exchanged → ⊥
list_order_is_asked whole =
    let numbers : 1 ∷ 0 ∷ [] ≡ 0 ∷ 1 ∷ [] =
    sym exchanged_facts.4 ∙ ap (λ (ss : List SectionId). map (λ (s : SectionId). s.section) ss) whole.sections ∙ exchanged_facts.5 in
    let first : 1 ≡ 0 = ap (λ (ns : List ℕ). get_or ns 0 0) numbers in
    omega (arith, first)

-- 3. The stub in front of the code.
abbrev pub with_places_exchanged : Placed
with_places_exchanged = record placed_call {
  sections = section_a 0x1000003a4 ∷ data_placed ∷ [];
  stubs = record stub_placed { address = 0x100000398 } ∷ [];
  output_sections = record header_a { addr = 0x1000003a4; offset = 0x3a4 } ∷ record stubs_header { addr = 0x100000398; offset = 0x398 }
      ∷ slots_header ∷ data_header ∷ [];
}

places_row : row_with with_places_exchanged (text_from 0x100000000 0x4000)
    ≡ piece 0x100000000 0x398 0 ∷ piece 0x1000003a4 8 2 ∷ piece 0x100000398 12 2 ∷ []
unfolding commands_end commands_of commands_from header_of reading le_at row_bytes le_bytes words8 words halves name16 entry calls_exit
    head_of_call fixups_of_call tables_of_call be_at be_bytes big_words signature_of_call call_image num_sections section_place
    section_at section_bytes symtab_of num_symbols symbol_place symbol_at strings_of symbol_name relocation_place relocation_at
    sections_of carried_of template_exponent placed_exponent symbols_of strong_of commons_of greatest_of libraries_with
    definition_of chosen_commons initializer_sections unwind_sections carried_relocations initializer_relocations personality_relocations
    imports_of libraries_needed target_of
    target_of_relocation slots_of stubs_of fields_of plain_entries all_entries entries_of other_segments segment_names_of
    output_keys_of table_symbols output_sections_of output_sections_for pieces_of
    segments_for row_of
places_row = refl

pub order_is_asked : StandLeast calling counts_of_call with_places_exchanged → ⊥
order_is_asked least =
    let pairs = subst (λ (row : List Piece). AllPairs EndsBefore row) places_row
    (rows_in_order calling counts_of_call with_places_exchanged (least_of least) 1 data_segment (omega arith)) in
    let behind : 0x1000003ac ≤ 0x100000398 = pairs 1 2 (piece 0 0 0) (omega arith) (omega arith) in
    omega (arith, behind)
