-- The fixup table and the chains' words in the image of a link with an import and a pointer are those that are promised, byte for byte.
--
-- The run is computed from the link and its placement: the slot, bound to the one import with no addend, and the pointer, which moves
-- with its target. The table of that run and the words with no step are computed by the definitions, and compared with the bytes that
-- were written out by hand.
use Rattle.std.proofs.Common.{◌≡◌, ℕ, zero, suc, pos, ◌+◌, ◌%◌, ◌<◌, ◌≤◌, true, not, List, [], ◌∷◌, ◌++◌, length, map, get_or, refl, ap, sym, ◌∙◌, subst, arith, All}
use Rattle.std.specs.Prelude.{codes, slice_range, Contains}
use Rattle.std.specs.List.{list_all}
use Rattle.std.proofs.lemmas.List.Elements.{All-nil, All-cons, All-contains}
use Rattle.std.proofs.lemmas.List.Kept.{AllPairs-cons}
use Rattle.macho_bytes.specs.Texts.{Stands, Part}
use Rattle.macho_model.specs.declared.placed.Slot.{Slot}
use Rattle.macho_model.specs.declared.placed.PlacedSection.{PlacedSection}
use Rattle.macho_model.specs.declared.targets.Target.TheVariants as target
use Rattle.macho_model.specs.Placement.{id_of}
use Rattle.macho_model.specs.Fields.{Field, fields_of}
use Rattle.macho_model.specs.Values.{needs_fixup}
use Rattle.macho_model.specs.Chain.{STRIDE}
use Rattle.macho_model.specs.Addresses.{section_address}
use Rattle.macho_fixups.specs.declared.words.FixupKind.{FixupKind}
use Rattle.macho_fixups.specs.declared.words.FixupKind.TheVariants.{Rebase, Bind}
use Rattle.macho_fixups.specs.declared.run.Fixup.{Fixup}
use Rattle.macho_fixups.specs.declared.run.FixupSegment.{FixupSegment}
use Rattle.macho_fixups.specs.declared.imports.ImportEntry.{ImportEntry}
use Rattle.macho_fixups.specs.Words.{FitsOrdinal, word_of}
use Rattle.macho_fixups.specs.Runs.{AreFixups, Holds, pages_of, start_of}
use Rattle.macho_fixups.specs.Chains.{word_part, place_of, step_of}
use Rattle.macho_fixups.specs.Tables.{table_text, entry_text, image_starts_text, image_starts_size, offsets_text, segment_text, segment_size, starts_text, page_starts_text}
use Rattle.macho_fixups.specs.Rows.{segment_rows, image_rows, table_rows}
use Rattle.macho_fixups.proofs.Rows.{words_stand}
use Rattle.macho_promise.specs.FixupsSay.{IsFixupOf, kind_for, fixup_segments, entry_row, FixupsSay}
use Rattle.macho_promise.specs.FixupsSay as promised
use Rattle.macho_model_checks.proofs.ExampleCall.{calls_exit, calling, code_placed, slot_placed, data_placed, placed_call, head_of_call, fixups_of_call, tables_of_call, big_words, signature_of_call, call_image}
use Rattle.macho_bytes.specs.Numbers.{le_at, le_bytes, be_at, be_bytes, row_bytes}
use Rattle.macho_bytes.specs.Layouts.{reading}
use Rattle.macho_model.specs.Commands.{header_of, commands_from, commands_of, commands_end}
use Rattle.macho_model.specs.Objects.{num_sections, section_place, section_at, section_bytes, symtab_of, num_symbols, symbol_place, symbol_at, strings_of, symbol_name, relocation_place, relocation_at}
use Rattle.macho_model.specs.ExportLists.{plain_entries, all_entries, entries_of}
use Rattle.macho_model.specs.Links.{sections_of, carried_of, template_exponent, placed_exponent}
use Rattle.macho_model.specs.Resolution.{symbols_of, strong_of, commons_of, greatest_of, libraries_with, definition_of, chosen_commons}
use Rattle.macho_model.specs.Needs.{initializer_sections, unwind_sections, imports_of, libraries_needed, POINTER_SIZE, carried_relocations, initializer_relocations, personality_relocations}
use Rattle.macho_model.specs.Targets.{target_of, target_of_relocation, slots_of, stubs_of}
use Rattle.macho_model.specs.Segments.{other_segments, segment_names_of, output_keys_of, SEGMENT_PAGE}
use Rattle.macho_model.specs.Images.{segments_of, mapped_segments, base_of, libraries_of, tables_of, tries_of, signatures_of, symbol_tables_of, string_tables_of, entries_of_file}
use Rattle.macho_model.specs.Fixups.{own_entries, import_entries_of, entries_have_addends, import_format}
use Rattle.macho_model.specs.ImportTable.{fixup_count, names_text}
use Rattle.macho_model_checks.proofs.Examples.{words8, words, halves, name16}
use Rattle.macho_model_checks.proofs.ExampleLinks.{entry}
use Rattle.macho_model_checks.proofs.RowsCallChain.{pointer_field, data_fields}
use Rattle.macho_bytes.specs.Spellings.{spelling}
use Rattle.macho_bytes.proofs.Bools.{true_or_false, not_true}
use Rattle.macho_bytes.proofs.Members.{one_passes}
use Rattle.macho_model_checks.proofs.RowsCall.{call_long}

-- the slot of import 0, with no addend; the pointer to the code, so far behind the base
abbrev pub fixup_of_slot : Fixup
fixup_of_slot = record { address = 0x100004000; kind = Bind 0 0 }

abbrev pub fixup_of_pointer : Fixup
fixup_of_pointer = record { address = 0x100008000; kind = Rebase 0x398 }

abbrev pub fixups_in_call : List Fixup
fixups_in_call = fixup_of_slot ∷ fixup_of_pointer ∷ []

abbrev pub constants_part : FixupSegment
constants_part = record { address = 0x100004000; size = 0x4000; file_offset = 0x4000; file_size = 0x4000 }

abbrev pub data_part : FixupSegment
data_part = record { address = 0x100008000; size = 0x4000; file_offset = 0x8000; file_size = 0x4000 }

abbrev pub IsHeld : Fixup → Type 0
IsHeld f = (s : FixupSegment) × Contains (fixup_segments placed_call) s × Holds s f.address

pub both : (P : Fixup → Type 0) → P fixup_of_slot → P fixup_of_pointer → All P fixups_in_call
both P slot pointer = All-cons P fixup_of_slot (fixup_of_pointer ∷ []) slot (All-cons P fixup_of_pointer [] pointer (All-nil P))

pub run_of_call : AreFixups (fixup_segments placed_call) fixups_in_call
run_of_call = record {
  sorted = AllPairs-cons (λ (f g : Fixup). f.address + POINTER_SIZE ≤ g.address) fixup_of_slot (fixup_of_pointer ∷ [])
      (All-cons (λ (g : Fixup). 0x100004000 + POINTER_SIZE ≤ g.address) fixup_of_pointer [] (omega arith) (All-nil _))
      (λ i j d before within. absurd (omega (arith, before, within)));
  steps = both (λ (f : Fixup). f.address % STRIDE ≡ 0) refl refl;
  in_page = both (λ (f : Fixup). f.address % SEGMENT_PAGE + POINTER_SIZE ≤ SEGMENT_PAGE) (omega arith) (omega arith);
  in_segment = both IsHeld (constants_part, (2, omega arith, refl), (omega arith, omega arith))
      (data_part, (3, omega arith, refl), (omega arith, omega arith));
  ordinals = both (λ (f : Fixup). FitsOrdinal f.kind) (omega arith) tt;
}

-- they are those of the slot and of the pointer
pub is_of_slot : IsFixupOf calling placed_call fixup_of_slot
is_of_slot = promised.IsFixupOf.slot slot_placed (0, omega arith, refl)

pub pointer_kind : kind_for calling placed_call (target.Section 0 0 0) 0 ≡ Rebase 0x398
unfolding section_address
pointer_kind = refl

abbrev pub pointer_with : FixupKind → Fixup
pointer_with kind = record { address = 0x100008000; kind = kind }

pub is_of_pointer : IsFixupOf calling placed_call fixup_of_pointer
is_of_pointer =
    subst (λ (k : FixupKind). IsFixupOf calling placed_call (pointer_with k)) pointer_kind
    (promised.IsFixupOf.pointer data_placed pointer_field (1, omega arith, refl) (rw data_fields.0 (0, omega arith, refl)) data_fields.1)

-- the branch needs none, so there is no other
branch_plain : list_all (λ (f : Field). not (needs_fixup calling (id_of code_placed) f)) (fields_of calling (id_of code_placed)) ≡ true
unfolding commands_end commands_of commands_from header_of reading le_at row_bytes le_bytes words8 words halves name16 entry calls_exit
    head_of_call fixups_of_call tables_of_call be_at be_bytes big_words signature_of_call call_image num_sections section_place
    section_at section_bytes symtab_of num_symbols symbol_place symbol_at strings_of symbol_name relocation_place relocation_at
    sections_of carried_of template_exponent placed_exponent symbols_of strong_of commons_of greatest_of libraries_with
    definition_of chosen_commons initializer_sections unwind_sections carried_relocations initializer_relocations personality_relocations
    imports_of libraries_needed target_of
    target_of_relocation slots_of stubs_of fields_of plain_entries all_entries entries_of other_segments segment_names_of
    output_keys_of own_entries import_entries_of entries_have_addends fixup_count names_text segments_of
    mapped_segments base_of libraries_of tables_of tries_of signatures_of symbol_tables_of string_tables_of
    entries_of_file
branch_plain = refl

abbrev pub fixup_in : PlacedSection → Field → Fixup
fixup_in q f = record { address = q.address + f.offset; kind = kind_for calling placed_call f.target f.addend }

of_data : (f : Field) → Contains (pointer_field ∷ []) f → Contains fixups_in_call (fixup_in data_placed f)
of_data f (zero, within, is) =
    subst (λ (g : Field). Contains fixups_in_call (fixup_in data_placed g)) is (1, omega arith, ap pointer_with (sym pointer_kind))
of_data f (suc k, within, is) = absurd (omega (arith, within))

of_pointer : (q : PlacedSection) (f : Field) → Contains placed_call.sections q → Contains (fields_of calling (id_of q)) f
    → needs_fixup calling (id_of q) f ≡ true → Contains fixups_in_call (fixup_in q f)
of_pointer q f (zero, within, is) has needs =
    let here = subst (λ (x : PlacedSection). Contains (fields_of calling (id_of x)) f) (sym is) has in
    let no = one_passes (λ (g : Field). not (needs_fixup calling (id_of code_placed) g)) (fields_of calling (id_of code_placed)) f
    branch_plain here in
    let need = subst (λ (x : PlacedSection). needs_fixup calling (id_of x) f ≡ true) (sym is) needs in
    absurd (true_or_false (not (needs_fixup calling (id_of code_placed) f)) no (not_true (needs_fixup calling (id_of code_placed) f) need))
of_pointer q f (suc zero, within, is) has needs =
    let here = subst (λ (x : PlacedSection). Contains (fields_of calling (id_of x)) f) (sym is) has in
    subst (λ (x : PlacedSection). Contains fixups_in_call (fixup_in x f)) is
    (of_data f (subst (λ (fs : List Field). Contains fs f) data_fields.0 here))
of_pointer q f (suc (suc k), within, is) has needs = absurd (omega (arith, within))

pub each_there : (f : Fixup) → IsFixupOf calling placed_call f → Contains fixups_in_call f
each_there _ (promised.IsFixupOf.slot s (zero, within, is)) =
    subst (λ (t : Slot). Contains fixups_in_call (record { address = t.address; kind = kind_for calling placed_call t.target 0 })) is
    (0, omega arith, refl)
each_there _ (promised.IsFixupOf.slot s (suc k, within, is)) = absurd (omega (arith, within))
each_there _ (promised.IsFixupOf.pointer q f one has needs) = of_pointer q f one has needs

-- the table: version, three places, one import of format 1; five segments, the third and the fourth with one page that starts at 0; the
-- entry; the name
abbrev pub entry_of_exit : ImportEntry
entry_of_exit = record { library = 1; name_offset = 0; addend = pos 0 }

abbrev pub name_of_exit : List ℕ
name_of_exit = codes "_exit" ++ 0 ∷ []

pub table_size : length (table_text 0x100000000 fixups_in_call (fixup_segments placed_call) 1 (entry_of_exit ∷ []) name_of_exit) ≡ 110
unfolding table_text image_starts_text image_starts_size offsets_text segment_text segment_size starts_text page_starts_text pages_of
    start_of entry_text spelling row_bytes le_bytes
table_size = refl

pub what_is_asked : (import_format calling ≡ 1) × (names_text calling ≡ name_of_exit)
unfolding commands_end commands_of commands_from header_of reading le_at row_bytes le_bytes words8 words halves name16 entry calls_exit
    head_of_call fixups_of_call tables_of_call be_at be_bytes big_words signature_of_call call_image num_sections section_place
    section_at section_bytes symtab_of num_symbols symbol_place symbol_at strings_of symbol_name relocation_place relocation_at
    sections_of carried_of template_exponent placed_exponent symbols_of strong_of commons_of greatest_of libraries_with
    definition_of chosen_commons initializer_sections unwind_sections carried_relocations initializer_relocations personality_relocations
    imports_of libraries_needed target_of
    target_of_relocation slots_of stubs_of fields_of plain_entries all_entries entries_of other_segments segment_names_of
    output_keys_of own_entries import_entries_of entries_have_addends fixup_count names_text segments_of
    mapped_segments base_of libraries_of tables_of tries_of signatures_of symbol_tables_of string_tables_of
    entries_of_file
what_is_asked = (refl, refl)

table_there : slice_range call_image 0xc000 0xc06e
    ≡ table_text 0x100000000 fixups_in_call (fixup_segments placed_call) 1 (entry_of_exit ∷ []) name_of_exit
unfolding commands_end commands_of commands_from header_of reading le_at row_bytes le_bytes words8 words halves name16 entry calls_exit
    head_of_call fixups_of_call tables_of_call be_at be_bytes big_words signature_of_call call_image num_sections section_place
    section_at section_bytes symtab_of num_symbols symbol_place symbol_at strings_of symbol_name relocation_place relocation_at
    sections_of carried_of template_exponent placed_exponent symbols_of strong_of commons_of greatest_of libraries_with
    definition_of chosen_commons initializer_sections unwind_sections carried_relocations initializer_relocations personality_relocations
    imports_of libraries_needed target_of
    target_of_relocation slots_of stubs_of fields_of plain_entries all_entries entries_of other_segments segment_names_of
    output_keys_of own_entries import_entries_of entries_have_addends fixup_count names_text segments_of
    mapped_segments base_of libraries_of tables_of tries_of signatures_of symbol_tables_of string_tables_of
    entries_of_file table_text image_starts_text image_starts_size offsets_text segment_text segment_size
    starts_text page_starts_text pages_of start_of entry_text spelling
table_there = refl

pub table_stands : Stands call_image (record {
  at = 0xc000;
  text =
      table_text 0x100000000 fixups_in_call (fixup_segments placed_call) (import_format calling) (entry_of_exit ∷ [])
      (names_text calling);
})
table_stands = rw (what_is_asked.0, what_is_asked.1) (record {
  within = omega (arith, table_size, call_long);
  same = ap (λ n. slice_range call_image 0xc000 (0xc000 + n)) table_size ∙ table_there;
})

-- the words: bound, to ordinal 0, with no addend and no step; moved, 0x398 behind the base, with no step
abbrev pub part_of_slot : Part
part_of_slot = word_part (fixup_segments placed_call) fixups_in_call 0 fixup_of_slot

abbrev pub part_of_pointer : Part
part_of_pointer = word_part (fixup_segments placed_call) fixups_in_call 1 fixup_of_pointer

words_there : (slice_range call_image 0x4000 0x4008 ≡ part_of_slot.text) × (slice_range call_image 0x8000 0x8008 ≡ part_of_pointer.text)
unfolding commands_end commands_of commands_from header_of reading le_at row_bytes le_bytes words8 words halves name16 entry calls_exit
    head_of_call fixups_of_call tables_of_call be_at be_bytes big_words signature_of_call call_image segments_of mapped_segments base_of
    libraries_of tables_of tries_of signatures_of symbol_tables_of string_tables_of entries_of_file place_of step_of word_of
words_there = (refl, refl)

word_facts : (part_of_slot.at ≡ 0x4000) × (length part_of_slot.text ≡ 8) × (part_of_pointer.at ≡ 0x8000) × (length part_of_pointer.text ≡ 8)
unfolding place_of step_of word_of le_bytes
word_facts = (refl, refl, refl, refl)

pub each_word : (k : ℕ) (d : Fixup) → k < length fixups_in_call
    → Stands call_image (word_part (fixup_segments placed_call) fixups_in_call k (get_or fixups_in_call k d))
each_word zero d within = record {
  within = omega (arith, word_facts.0, word_facts.1, call_long);
  same = rw (word_facts.0, word_facts.1) words_there.0;
}
each_word (suc zero) d within = record {
  within = omega (arith, word_facts.2, word_facts.3, call_long);
  same = rw (word_facts.2, word_facts.3) words_there.1;
}
each_word (suc (suc k)) d within = absurd (omega (arith, within))

pub one_table : tables_of call_image ≡ record { at = 0xc000; size = 0xd0 } ∷ []
unfolding commands_end commands_of commands_from header_of reading le_at row_bytes le_bytes words8 words halves name16 entry calls_exit
    head_of_call fixups_of_call tables_of_call be_at be_bytes big_words signature_of_call call_image segments_of mapped_segments base_of
    libraries_of tables_of tries_of signatures_of symbol_tables_of string_tables_of entries_of_file
one_table = refl

-- the same table as rows of numbers
abbrev rows_of_exit : List ℕ
rows_of_exit = table_rows 0x100000000 fixups_in_call (fixup_segments placed_call) 1 ((1 ∷ 0 ∷ 0 ∷ 0 ∷ []) ∷ []) name_of_exit

pub entry_is_asked : map (entry_row calling) (import_entries_of calling) ≡ (1 ∷ 0 ∷ 0 ∷ 0 ∷ []) ∷ []
unfolding commands_end commands_of commands_from header_of reading le_at row_bytes le_bytes words8 words halves name16 entry calls_exit
    head_of_call fixups_of_call tables_of_call be_at be_bytes big_words signature_of_call call_image num_sections section_place
    section_at section_bytes symtab_of num_symbols symbol_place symbol_at strings_of symbol_name relocation_place relocation_at
    sections_of carried_of template_exponent placed_exponent symbols_of strong_of commons_of greatest_of libraries_with
    definition_of chosen_commons initializer_sections unwind_sections carried_relocations initializer_relocations personality_relocations
    imports_of libraries_needed target_of
    target_of_relocation slots_of stubs_of fields_of plain_entries all_entries entries_of other_segments segment_names_of
    output_keys_of own_entries import_entries_of entries_have_addends fixup_count names_text segments_of
    mapped_segments base_of libraries_of tables_of tries_of signatures_of symbol_tables_of string_tables_of
    entries_of_file
entry_is_asked = refl

rows_size : length rows_of_exit ≡ 110
unfolding table_rows image_rows segment_rows pages_of start_of row_bytes le_bytes
rows_size = refl

rows_there : slice_range call_image 0xc000 0xc06e ≡ rows_of_exit
unfolding commands_end commands_of commands_from header_of reading le_at row_bytes le_bytes words8 words halves name16 entry calls_exit
    head_of_call fixups_of_call tables_of_call be_at be_bytes big_words signature_of_call call_image num_sections section_place
    section_at section_bytes symtab_of num_symbols symbol_place symbol_at strings_of symbol_name relocation_place relocation_at
    sections_of carried_of template_exponent placed_exponent symbols_of strong_of commons_of greatest_of libraries_with
    definition_of chosen_commons initializer_sections unwind_sections carried_relocations initializer_relocations personality_relocations
    imports_of libraries_needed target_of
    target_of_relocation slots_of stubs_of fields_of plain_entries all_entries entries_of other_segments segment_names_of
    output_keys_of own_entries import_entries_of entries_have_addends fixup_count names_text segments_of
    mapped_segments base_of libraries_of tables_of tries_of signatures_of symbol_tables_of string_tables_of
    entries_of_file table_rows image_rows segment_rows pages_of start_of
rows_there = refl

pub rows_stand : Stands call_image (record {
  at = 0xc000;
  text =
      table_rows 0x100000000 fixups_in_call (fixup_segments placed_call) (import_format calling)
      (map (entry_row calling) (import_entries_of calling))
      (names_text calling);
})
rows_stand = rw (entry_is_asked, what_is_asked.0, what_is_asked.1) (record {
  within = omega (arith, rows_size, call_long);
  same = ap (λ n. slice_range call_image 0xc000 (0xc000 + n)) rows_size ∙ rows_there;
})

-- THE fixup table and the words of its chains
unfoldable pub call_fixups : FixupsSay calling call_image placed_call
call_fixups = record {
  fixups = fixups_in_call;
  fits = run_of_call;
  are = λ f. (
    (λ c. All-contains (IsFixupOf calling placed_call) fixups_in_call f
        (both (IsFixupOf calling placed_call) is_of_slot is_of_pointer) c),
    each_there f,
  );
  table = record { at = 0xc000; size = 0xd0 };
  one = one_table;
  text = rows_stand;
  words = words_stand (fixup_segments placed_call) fixups_in_call call_image (record { each = each_word });
}
