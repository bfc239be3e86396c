-- Each part of a composed image is needed: for each a change of the image that breaks the part, and a conclusion of the laws with it.
--
-- Head, agreement, fixup table and imports: the file without its last byte, a segment told where another one stands, a table told past
-- the end of the file, an import told of a second library of one; each breaks a test of the loader. Fixups: without the page start of
-- the pointer's segment the chain lacks the pointer. Content: with another instruction in the code memory has a byte that the input
-- has not, since no chain word covers it and one segment alone has the address.
use Rattle.std.proofs.Common.{◌≡◌, if◌then◌else◌, ℕ, ◌+◌, ◌==◌, ◌||◌, Bool, true, false, not, List, [], ◌∷◌, inl, inr, refl, sym, subst, arith, ◌<◌, ◌&&◌, length, get_or, map, ap, ◌∙◌, ◌-◌, ◌≤◌, nat_le, nat_lt, All, slice_index, take}
use Rattle.std.specs.List.{list_all}
use Rattle.macho_bytes.specs.Numbers.{le_at, le_bytes, be_at, be_bytes, row_bytes}
use Rattle.macho_bytes.specs.Layouts.{reading}
use Rattle.macho_model.specs.Commands.{header_of, commands_from, commands_of, commands_end}
use Rattle.macho_model.specs.Objects.{num_sections, section_place, section_at, section_bytes, symtab_of, num_symbols, symbol_place, symbol_at, strings_of, symbol_name, relocation_place, relocation_at}
use Rattle.macho_model.specs.ExportLists.{plain_entries, all_entries, entries_of}
use Rattle.macho_records.specs.Sections.{is_zerofill}
use Rattle.macho_model.specs.Links.{header_at, sections_of, carried_of, template_exponent, placed_exponent, object_of}
use Rattle.macho_model.specs.Resolution.{symbols_of, strong_of, commons_of, greatest_of, libraries_with, definition_of, chosen_commons}
use Rattle.macho_model.specs.Needs.{initializer_sections, unwind_sections, imports_of, libraries_needed, carried_relocations, initializer_relocations, personality_relocations}
use Rattle.macho_model.specs.Targets.{target_of, target_of_relocation, slots_of, stubs_of}
use Rattle.macho_model.specs.Fields.{fields_of}
use Rattle.macho_model.specs.Segments.{other_segments, segment_names_of, output_keys_of}
use Rattle.macho_model.specs.Images.{segments_of, mapped_segments, base_of, libraries_of, tables_of, tries_of, signatures_of, symbol_tables_of, string_tables_of, entries_of_file, Table}
use Rattle.macho_model.specs.Chain.{ChainSegment, chain_segments, OnChain}
use Rattle.macho_model.specs.Fixups.{ChainIsWhole}
use Rattle.macho_image_walks.proofs.ChainSets.{is_closed, among_passes, chain_within}
use Rattle.macho_model_checks.proofs.Examples.{words8, words, halves, name16, changed}
use Rattle.macho_model_checks.proofs.ExampleLinks.{entry, section}
use Rattle.macho_model_checks.proofs.ExampleCall.{calls_exit, calling, placed_call, head_of_call, fixups_of_call, tables_of_call, big_words, signature_of_call, call_image, counts_of_call, uuid_given, code_placed, linkedit_segment}
use Rattle.std.specs.Prelude.{Contains}
use Rattle.macho_model.specs.Loader.{IsAccepted}
use Rattle.macho_model.specs.Addresses.{offset_in_file}
use Rattle.macho_model_checks.proofs.LoaderTests.{load_test, shows_load_test}
use Rattle.macho_model.specs.declared.rules.LoadRule.{LoadRule}
use Rattle.macho_model.specs.declared.rules.LoadRule.TheVariants.{L1, L2, L3, L4, L5, L6, L7, L8, L9, L10}
use Rattle.macho_image_walks.specs.steps.Asked.{LoadKeeps}
use Rattle.std.proofs.lemmas.Bool.{leb-true, le-leb, lt-ltb}
use Rattle.std.proofs.lemmas.List.Elements.{All-nil, All-cons}
use Rattle.macho_records.specs.declared.header.SegmentCommand.{SegmentCommand}
use Rattle.macho_model.specs.Memory.{Choice, Holds, Covers}
use Rattle.macho_model.specs.Stands.{ImageStands}
use Rattle.macho_model_checks.proofs.RowsCall.{with_another_library, library_is_asked}
use Rattle.macho_model_checks.proofs.RowsCallChain.{constants_in_chain, segments_in_chain, words_in_chain, pointer_is_asked}
use Rattle.macho_model_checks.proofs.RowsCallFixups.{fixup_of_pointer, is_of_pointer}
use Rattle.macho_fixups.specs.Readings.{told_segments}
use Rattle.macho_promise.specs.FixupsSay.{fixup_segments}
use Rattle.macho_promise.specs.Promise.{Agrees}
use Rattle.macho_promise.specs.Filled.{bytes_in_file}
use Rattle.macho_image_laws.specs.Composed.{FixupsAreWritten, ImportsAreWritten, ContentIsWritten, HeadIsWritten}
use Rattle.macho_promise_checks.proofs.FactsCall.{sizes_call, field_call, fields_call}
use Rattle.macho_model.specs.steps.Agreement.{SegmentPlace, place_by_command}
use Rattle.macho_model.specs.Spans.{IsOutsideField}
use Rattle.macho_bytes.proofs.Bools.{true_or_false, and_left, and_right, and_both, is_equal, or_holds}
use Rattle.macho_bytes.proofs.Members.{one_passes}

-- A change breaks a part of what an image is composed of, and a conclusion.
pub record Breaks (Part Conclusion : Type 0) : Type 0 where
  pub part : Part → ⊥
  pub conclusion : Conclusion → ⊥

-- an image that fails a test of the loader is not accepted
refused : (b : List ℕ) (rule : LoadRule) → load_test b rule ≡ false → IsAccepted b → ⊥
refused b rule fails accepted = true_or_false (load_test b rule) (shows_load_test b rule (keeps rule)) fails
  where
    keeps : (r : LoadRule) → LoadKeeps b r
    keeps L1 = accepted.l1
    keeps L2 = accepted.l2
    keeps L3 = accepted.l3
    keeps L4 = accepted.l4
    keeps L5 = accepted.l5
    keeps L6 = accepted.l6
    keeps L7 = accepted.l7
    keeps L8 = accepted.l8
    keeps L9 = accepted.l9
    keeps L10 = accepted.l10

-- 1. The head: the file without its last byte has no room for `__LINKEDIT`.
unfoldable pub without_end : List ℕ
without_end = take 49947 call_image

without_end_facts : (length without_end ≡ 49947) × (load_test without_end L4 ≡ false)
unfolding without_end commands_end commands_of commands_from header_of reading le_at row_bytes le_bytes words8 words halves name16 entry
    calls_exit head_of_call fixups_of_call tables_of_call be_at be_bytes big_words signature_of_call call_image segments_of
    mapped_segments base_of libraries_of tables_of tries_of signatures_of symbol_tables_of string_tables_of entries_of_file
without_end_facts = (refl, refl)

pub head_is_needed : Breaks (HeadIsWritten calling counts_of_call uuid_given without_end placed_call) (IsAccepted without_end)
head_is_needed = record {
  part = λ head. let room : 0xc000 + 796 ≤ length without_end = head.room.file 4 linkedit_segment (omega arith) in
      omega (arith, room, without_end_facts.0);
  conclusion = refused without_end L4 without_end_facts.1;
}

-- 2. What the load commands say agrees: `__DATA` is told behind `__LINKEDIT`.
unfoldable pub data_elsewhere : List ℕ
data_elsewhere = changed call_image 512 (words8 (0x100010000 ∷ []))

elsewhere_facts : (map (λ (s : SegmentPlace). s.1) (map place_by_command (segments_of data_elsewhere))
    ≡ 0 ∷ 0x100000000 ∷ 0x100004000 ∷ 0x100010000 ∷ 0x10000c000 ∷ []) × (load_test data_elsewhere L6 ≡ false)
unfolding changed data_elsewhere commands_end commands_of commands_from header_of reading le_at row_bytes le_bytes words8 words halves
    name16 entry calls_exit head_of_call fixups_of_call tables_of_call be_at be_bytes big_words signature_of_call call_image segments_of
    mapped_segments base_of libraries_of tables_of tries_of signatures_of symbol_tables_of string_tables_of entries_of_file
elsewhere_facts = (refl, refl)

pub agreement_is_needed : Breaks (Agrees calling counts_of_call data_elsewhere placed_call) (IsAccepted data_elsewhere)
agreement_is_needed = record {
  part = λ agrees.
      let addresses = sym elsewhere_facts.0
      ∙ ap (λ (ss : List SegmentPlace). map (λ (s : SegmentPlace). s.1) ss) agrees.commands.segments in
      let address : 0x100010000 ≡ 0x100008000 = ap (λ (ns : List ℕ). get_or ns 3 0) addresses in
      omega (arith, address);
  conclusion = refused data_elsewhere L6 elsewhere_facts.1;
}

-- 3. The fixup table lies in the file: its command tells it past the end.
unfoldable pub with_table_over : List ℕ
with_table_over = changed call_image 860 (words (0x10000 ∷ []))

over_facts : (tables_of with_table_over ≡ record { at = 0xc000; size = 0x10000 } ∷ []) × (length with_table_over ≡ 49948)
    × (load_test with_table_over L8 ≡ false)
unfolding changed with_table_over commands_end commands_of commands_from header_of reading le_at row_bytes le_bytes words8 words halves
    name16 entry calls_exit head_of_call fixups_of_call tables_of_call be_at be_bytes big_words signature_of_call call_image segments_of
    mapped_segments base_of libraries_of tables_of tries_of signatures_of symbol_tables_of string_tables_of entries_of_file
over_facts = (refl, refl, refl)

pub table_is_needed : Breaks (FixupsAreWritten calling with_table_over placed_call) (IsAccepted with_table_over)
table_is_needed = record {
  part = λ w.
      let same : record { at = 0xc000; size = 0x10000 } ≡ w.say.table =
      ap (λ (ts : List Table). get_or ts 0 w.say.table) (sym over_facts.0 ∙ w.say.one) in
      let at = ap (λ (t : Table). t.at) same in
      let size = ap (λ (t : Table). t.size) same in
      omega (arith, at, size, w.inside, over_facts.1);
  conclusion = refused with_table_over L8 over_facts.2;
}

-- 4. The words are on the chain: the page of the pointer has no start, so its word is not.
unfoldable pub without_start : List ℕ
without_start = changed call_image 0xc062 (halves (0xffff ∷ []))

abbrev pub table_there : Table
table_there = record { at = 0xc000; size = 0xd0 }

abbrev pub chained_without : List ChainSegment
chained_without =
    record { address = 0; file_offset = 0; file_size = 0; starts = [] }
    ∷ record { address = 0x100000000; file_offset = 0; file_size = 0x4000; starts = [] } ∷ constants_in_chain
    ∷ record { address = 0x100008000; file_offset = 0x8000; file_size = 0x4000; starts = 0xffff ∷ [] }
    ∷ record { address = 0x10000c000; file_offset = 0xc000; file_size = 796; starts = [] } ∷ []

without_start_facts : (chain_segments without_start ≡ chained_without)
    × (told_segments without_start table_there (fixup_segments placed_call) ≡ chained_without)
    × (tables_of without_start ≡ table_there ∷ []) × (is_closed chained_without without_start (0x100004000 ∷ []) ≡ true)
unfolding changed without_start chain_segments commands_end commands_of commands_from header_of reading le_at row_bytes le_bytes words8
    words halves name16 entry calls_exit head_of_call fixups_of_call tables_of_call be_at be_bytes big_words signature_of_call call_image
    segments_of mapped_segments base_of libraries_of tables_of tries_of signatures_of symbol_tables_of string_tables_of entries_of_file
without_start_facts = (refl, refl, refl, refl)

not_on : OnChain chained_without without_start 0x100008000 → ⊥
not_on on =
    let same = is_equal 0x100008000 0x100004000 (among_passes (λ x. x == 0x100004000) (0x100004000 ∷ []) 0x100008000 refl
    (chain_within chained_without without_start (0x100004000 ∷ []) without_start_facts.3 0x100008000 on)) in
    omega (arith, same)

pub starts_are_needed : Breaks (FixupsAreWritten calling without_start placed_call) (ChainIsWhole calling without_start placed_call)
starts_are_needed = record {
  part = λ w.
      let same : table_there ≡ w.say.table = ap (λ (ts : List Table). get_or ts 0 w.say.table) (sym without_start_facts.2 ∙ w.say.one) in
      let on : OnChain (told_segments without_start w.say.table (fixup_segments placed_call)) without_start 0x100008000 =
      ((w.table.read without_start w.say.table w.text).chain w.chain w.words 0x100008000).1
      (fixup_of_pointer, (w.say.are fixup_of_pointer).1 is_of_pointer, refl) in
      let there = subst (λ (t : Table). OnChain (told_segments without_start t (fixup_segments placed_call)) without_start 0x100008000)
      (sym same) on in
      not_on (subst (λ (segments : List ChainSegment). OnChain segments without_start 0x100008000) without_start_facts.1 there);
  conclusion = λ whole.
      not_on (subst (λ (segments : List ChainSegment). OnChain segments without_start 0x100008000) without_start_facts.0
      ((whole 0x100008000).1 pointer_is_asked));
}

-- 5. Imports: `_exit` is told of the second library of one.
another_library_fails : load_test with_another_library L9 ≡ false
unfolding changed with_another_library commands_end commands_of commands_from header_of reading le_at row_bytes le_bytes words8 words
    halves name16 entry calls_exit head_of_call fixups_of_call tables_of_call be_at be_bytes big_words signature_of_call call_image
    segments_of mapped_segments base_of libraries_of tables_of tries_of signatures_of symbol_tables_of string_tables_of entries_of_file
another_library_fails = refl

pub imports_are_needed : Breaks (ImportsAreWritten calling with_another_library) (IsAccepted with_another_library)
imports_are_needed = record {
  part = λ w. library_is_asked w.table;
  conclusion = refused with_another_library L9 another_library_fails;
}

-- 6. Content: `nop` in place of `ret`.
unfoldable pub with_other_code : List ℕ
with_other_code = changed call_image 0x39c (words (0xd503201f ∷ []))

-- a segment that has the address of the second instruction is `__TEXT`
abbrev has_instruction : SegmentCommand → Bool
has_instruction s = nat_le s.vmaddr 0x10000039c && nat_lt 0x10000039c (s.vmaddr + s.vmsize)

abbrev is_text : SegmentCommand → Bool
is_text s = not (has_instruction s) || ((s.vmaddr == 0x100000000) && (s.fileoff == 0) && (s.filesize == 0x4000))

other_code_facts : (chain_segments with_other_code ≡ segments_in_chain)
    × (is_closed segments_in_chain with_other_code words_in_chain ≡ true)
    × (list_all is_text (mapped_segments with_other_code) ≡ true)
    × (slice_index with_other_code 0x39c ≡ 0x1f)
unfolding changed with_other_code chain_segments commands_end commands_of commands_from header_of reading le_at row_bytes le_bytes words8
    words halves name16 entry calls_exit head_of_call fixups_of_call tables_of_call be_at be_bytes big_words signature_of_call call_image
    segments_of mapped_segments base_of libraries_of tables_of tries_of signatures_of symbol_tables_of string_tables_of entries_of_file
other_code_facts = (refl, refl, refl, refl)

filled_code : is_zerofill (header_at calling (section 0 0)) ≡ false
unfolding commands_end commands_of commands_from header_of reading le_at row_bytes le_bytes words8 words halves name16 entry calls_exit
    head_of_call fixups_of_call tables_of_call be_at be_bytes big_words signature_of_call call_image num_sections section_place
    section_at section_bytes symtab_of num_symbols symbol_place symbol_at strings_of symbol_name relocation_place relocation_at
    sections_of carried_of template_exponent placed_exponent symbols_of strong_of commons_of greatest_of libraries_with
    definition_of chosen_commons initializer_sections unwind_sections carried_relocations initializer_relocations personality_relocations
    imports_of libraries_needed target_of
    target_of_relocation slots_of stubs_of fields_of plain_entries all_entries entries_of other_segments segment_names_of
    output_keys_of
filled_code = refl

input_byte : slice_index (section_bytes (object_of calling 0) 0) 4 ≡ 0xc0
unfolding commands_end commands_of commands_from header_of reading le_at row_bytes le_bytes words8 words halves name16 entry calls_exit
    head_of_call fixups_of_call tables_of_call be_at be_bytes big_words signature_of_call call_image num_sections section_place
    section_at section_bytes symtab_of num_symbols symbol_place symbol_at strings_of symbol_name relocation_place relocation_at
    sections_of carried_of template_exponent placed_exponent symbols_of strong_of commons_of greatest_of libraries_with
    definition_of chosen_commons initializer_sections unwind_sections carried_relocations initializer_relocations personality_relocations
    imports_of libraries_needed target_of
    target_of_relocation slots_of stubs_of fields_of plain_entries all_entries entries_of other_segments segment_names_of
    output_keys_of
input_byte = refl

no_word_there : (w : ℕ) → Covers with_other_code w 0x10000039c → ⊥
no_word_there w (on, low, high) =
    let late = among_passes (λ x. nat_le 0x100004000 x) words_in_chain w refl
    (chain_within segments_in_chain with_other_code words_in_chain other_code_facts.1 w
    (subst (λ (segments : List ChainSegment). OnChain segments with_other_code w) other_code_facts.0 on)) in
    omega (arith, leb-true 0x100004000 w late, low)

of_text : (v : ℕ) (s : SegmentCommand) → Contains (mapped_segments with_other_code) s → s.vmaddr ≤ 0x10000039c
    → 0x10000039c < s.vmaddr + s.vmsize
    → v ≡ (if nat_lt (0x10000039c - s.vmaddr) s.filesize then slice_index with_other_code (s.fileoff + (0x10000039c - s.vmaddr)) else 0)
    → v ≡ 0x1f
of_text v s one low high is =
    let has : has_instruction s ≡ true = and_both (nat_le s.vmaddr 0x10000039c) (nat_lt 0x10000039c (s.vmaddr + s.vmsize))
    (le-leb s.vmaddr 0x10000039c low) (lt-ltb 0x10000039c (s.vmaddr + s.vmsize) high) in
    let three = or_holds (has_instruction s) ((s.vmaddr == 0x100000000) && (s.fileoff == 0) && (s.filesize == 0x4000)) has
    (one_passes is_text (mapped_segments with_other_code) s other_code_facts.2 one) in
    let two = and_left ((s.vmaddr == 0x100000000) && (s.fileoff == 0)) (s.filesize == 0x4000) three in
    let address = is_equal s.vmaddr 0x100000000 (and_left (s.vmaddr == 0x100000000) (s.fileoff == 0) two) in
    let offset = is_equal s.fileoff 0 (and_right (s.vmaddr == 0x100000000) (s.fileoff == 0) two) in
    let size = is_equal s.filesize 0x4000 (and_right ((s.vmaddr == 0x100000000) && (s.fileoff == 0)) (s.filesize == 0x4000) three) in
    let plain : v ≡ slice_index with_other_code 0x39c = rw (address, offset, size) at is in
    plain ∙ other_code_facts.3

byte_there : (s : ℕ) (choice : Choice) (v : ℕ) → Holds with_other_code s choice (0x100000398 + 4 + s) v → v ≡ 0x1f
byte_there s choice v held =
    elim held.byte [
      | inl chained ↦ absurd (no_word_there chained.word_at
          (subst (λ (a : ℕ). Covers with_other_code chained.word_at a) here chained.covers))
      | inr plain ↦ of_text v plain.1.segment plain.1.one (omega (arith, here, plain.1.from)) (omega (arith, here, plain.1.to))
          (subst (λ (a : ℕ). v ≡ (if nat_lt (a - plain.1.segment.vmaddr) plain.1.segment.filesize
          then slice_index with_other_code (plain.1.segment.fileoff + (a - plain.1.segment.vmaddr)) else 0)) here plain.1.is)
    ]
  where
    here : held.a ≡ 0x10000039c
    here = omega (arith, held.slid)

outside_branch : All (IsOutsideField 4) (fields_of calling (section 0 0))
unfolding field_call
outside_branch = rw fields_call (All-cons (IsOutsideField 4) field_call [] (inr (omega arith)) (All-nil (IsOutsideField 4)))

other_bytes : slice_index (bytes_in_file with_other_code placed_call 0x100000398 8) 4 ≡ 0x1f
unfolding changed with_other_code offset_in_file commands_end commands_of commands_from header_of reading le_at row_bytes le_bytes words8
    words halves name16 entry calls_exit head_of_call fixups_of_call tables_of_call be_at be_bytes big_words signature_of_call call_image
    segments_of mapped_segments base_of libraries_of tables_of tries_of signatures_of symbol_tables_of string_tables_of entries_of_file
other_bytes = refl

-- it stands at no slide, for no choice
pub content_is_needed : Breaks (ContentIsWritten calling with_other_code placed_call)
    ((s : ℕ) × ((choice : Choice) × ImageStands calling with_other_code placed_call s choice))
content_is_needed = record {
  part = λ w.
      let filled = w.sections 0 code_placed (omega arith) filled_code in
      let byte = filled.rest 4 (omega (arith, sizes_call.0)) outside_branch in
      let there = subst (λ (n : ℕ). slice_index (bytes_in_file with_other_code placed_call 0x100000398 n) 4
      ≡ slice_index (section_bytes (object_of calling 0) 0) 4) sizes_call.0 byte in
      omega (arith, there, other_bytes, input_byte);
  conclusion = λ stands.
      let code = stands.1.1.sections 0 code_placed (omega arith) in
      let held = code.bytes 4 (omega (arith, sizes_call.0)) outside_branch in
      let byte = byte_there stands.0 stands.1.0 (slice_index (section_bytes (object_of calling 0) 0) 4) held in
      omega (arith, byte, input_byte);
}
