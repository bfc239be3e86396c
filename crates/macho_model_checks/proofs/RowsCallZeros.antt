-- Every byte of the image of a link with an import and a pointer that nothing stands in is 0.
--
-- The parts are computed from the link, the placement and the file. Between them are six gaps, and each is computed to be zeros:
-- behind the stub, behind the slot, behind the pointer, behind the fixup table, behind the exports trie, and the byte in front of the
-- signature.
use Rattle.std.proofs.Common.{◌≡◌, ℕ, ◌+◌, ◌-◌, ◌<◌, ◌≤◌, List, [], ◌∷◌, length, drop, get_or, replicate, refl, ap, sym, ◌∙◌, subst, arith, inl, inr}
use Rattle.std.specs.Prelude.{slice_index, slice_range}
use Rattle.std.specs.List.{All}
use Rattle.std.proofs.lemmas.List.{get_or-take, get_or-drop, get_or-replicate}
use Rattle.macho_model.specs.Zeros.{Span, contents_of, IsZeroElsewhere}
use Rattle.macho_model.specs.Addresses.{offset_in_file}
use Rattle.macho_model_checks.proofs.ExampleCall.{calls_exit, calling, placed_call, head_of_call, fixups_of_call, tables_of_call, big_words, signature_of_call, call_image}
use Rattle.macho_bytes.specs.Numbers.{le_at, le_bytes, be_at, be_bytes, row_bytes}
use Rattle.macho_bytes.specs.Layouts.{reading}
use Rattle.macho_model.specs.Commands.{header_of, commands_from, commands_of, commands_end}
use Rattle.macho_model.specs.Objects.{num_sections, section_place, section_at, section_bytes, symtab_of, num_symbols, symbol_place, symbol_at, strings_of, symbol_name, relocation_place, relocation_at}
use Rattle.macho_model.specs.ExportLists.{plain_entries, all_entries, entries_of}
use Rattle.macho_model.specs.Links.{sections_of, carried_of, template_exponent, placed_exponent}
use Rattle.macho_model.specs.Resolution.{symbols_of, strong_of, commons_of, greatest_of, libraries_with, definition_of, chosen_commons}
use Rattle.macho_model.specs.Needs.{initializer_sections, unwind_sections, imports_of, libraries_needed, carried_relocations, initializer_relocations, personality_relocations}
use Rattle.macho_model.specs.Targets.{target_of, target_of_relocation, slots_of, stubs_of}
use Rattle.macho_model.specs.Fields.{fields_of}
use Rattle.macho_model.specs.Segments.{other_segments, segment_names_of, output_keys_of}
use Rattle.macho_model.specs.Images.{segments_of, mapped_segments, base_of, libraries_of, tables_of, tries_of, signatures_of, symbol_tables_of, string_tables_of, entries_of_file}
use Rattle.macho_model.specs.Fixups.{own_entries, import_entries_of, entries_have_addends}
use Rattle.macho_model.specs.ImportTable.{fixup_count, names_text}
use Rattle.macho_model_checks.proofs.Examples.{words8, words, halves, name16}
use Rattle.macho_model_checks.proofs.ExampleLinks.{entry}
use Rattle.macho_model.specs.Spans.{IsOutsideSpan}
use Rattle.macho_model_checks.proofs.RowsCall.{call_long}

abbrev pub span : ℕ → ℕ → Span
span start size = record { start = start; size = size }

-- head, code, data, slot, stub, no initializers, no unwind information, fixup table, exports trie, symbols, strings, signature
abbrev pub contents_of_call : List Span
contents_of_call =
    span 0 920 ∷ span 920 8 ∷ span 32768 8 ∷ span 16384 8 ∷ span 928 12 ∷ span 928 0 ∷ span 928 0
    ∷ span 49152 110 ∷ span 49360 14 ∷ span 49384 16 ∷ span 49400 7 ∷ span 49408 540 ∷ []

pub contents_are : contents_of calling call_image placed_call 0 ≡ contents_of_call
unfolding commands_end commands_of commands_from header_of reading le_at row_bytes le_bytes words8 words halves name16 entry calls_exit
    head_of_call fixups_of_call tables_of_call be_at be_bytes big_words signature_of_call call_image num_sections section_place
    section_at section_bytes symtab_of num_symbols symbol_place symbol_at strings_of symbol_name relocation_place relocation_at
    sections_of carried_of template_exponent placed_exponent symbols_of strong_of commons_of greatest_of libraries_with
    definition_of chosen_commons initializer_sections unwind_sections carried_relocations initializer_relocations personality_relocations
    imports_of libraries_needed target_of
    target_of_relocation slots_of stubs_of fields_of plain_entries all_entries entries_of other_segments segment_names_of
    output_keys_of own_entries import_entries_of entries_have_addends fixup_count names_text segments_of
    mapped_segments base_of libraries_of tables_of tries_of signatures_of symbol_tables_of string_tables_of
    entries_of_file offset_in_file contents_of
contents_are = refl

gaps : (slice_range call_image 940 16384 ≡ replicate 15444 0)
    × (slice_range call_image 16392 32768 ≡ replicate 16376 0)
    × (slice_range call_image 32776 49152 ≡ replicate 16376 0)
    × (slice_range call_image 49262 49360 ≡ replicate 98 0)
    × (slice_range call_image 49374 49384 ≡ replicate 10 0)
    × (slice_range call_image 49407 49408 ≡ replicate 1 0)
unfolding commands_end commands_of commands_from header_of reading le_at row_bytes le_bytes words8 words halves name16 entry calls_exit
    head_of_call fixups_of_call tables_of_call be_at be_bytes big_words signature_of_call call_image segments_of mapped_segments base_of
    libraries_of tables_of tries_of signatures_of symbol_tables_of string_tables_of entries_of_file
gaps = (refl, refl, refl, refl, refl, refl)

in_gap : (b : List ℕ) (from to i : ℕ) → slice_range b from to ≡ replicate (to - from) 0 → from ≤ i → i < to → slice_index b i ≡ 0
in_gap b from to i zeros low high =
    let at : from + (i - from) ≡ i = omega (arith, low) in
    let less : i - from < to - from = omega (arith, low, high) in
    ap (λ k. get_or b k 0) (sym at) ∙ sym (get_or-drop from b (i - from) 0) ∙ sym (get_or-take (to - from) (drop from b) (i - from) 0 less)
    ∙ ap (λ (xs : List ℕ). get_or xs (i - from) 0) zeros ∙ get_or-replicate (to - from) (i - from) 0 0 less

-- a byte outside all parts stands in a gap
outside_parts : (i : ℕ) → i < 49948
    → IsOutsideSpan i (span 0 920)
    → IsOutsideSpan i (span 920 8)
    → IsOutsideSpan i (span 928 12)
    → IsOutsideSpan i (span 16384 8)
    → IsOutsideSpan i (span 32768 8)
    → IsOutsideSpan i (span 49152 110)
    → IsOutsideSpan i (span 49360 14)
    → IsOutsideSpan i (span 49384 16)
    → IsOutsideSpan i (span 49400 7)
    → IsOutsideSpan i (span 49408 540)
    → slice_index call_image i ≡ 0
outside_parts i within (inl head) code stub slot pointer table trie symbols strings sign =
    absurd (omega (arith, head))
outside_parts i within (inr head) (inl code) stub slot pointer table trie symbols strings sign =
    absurd (omega (arith, head, code))
outside_parts i within (inr head) (inr code) (inl stub) slot pointer table trie symbols strings sign =
    absurd (omega (arith, code, stub))
outside_parts i within (inr head) (inr code) (inr stub) (inl slot) pointer table trie symbols strings sign =
    in_gap call_image 940 16384 i gaps.0 (omega (arith, stub)) (omega (arith, slot))
outside_parts i within (inr head) (inr code) (inr stub) (inr slot) (inl pointer) table trie symbols strings sign =
    in_gap call_image 16392 32768 i gaps.1 (omega (arith, slot)) (omega (arith, pointer))
outside_parts i within (inr head) (inr code) (inr stub) (inr slot) (inr pointer) (inl table) trie symbols strings sign =
    in_gap call_image 32776 49152 i gaps.2 (omega (arith, pointer)) (omega (arith, table))
outside_parts i within (inr head) (inr code) (inr stub) (inr slot) (inr pointer) (inr table) (inl trie) symbols strings sign =
    in_gap call_image 49262 49360 i gaps.3 (omega (arith, table)) (omega (arith, trie))
outside_parts i within (inr head) (inr code) (inr stub) (inr slot) (inr pointer) (inr table) (inr trie) (inl symbols) strings sign =
    in_gap call_image 49374 49384 i gaps.4 (omega (arith, trie)) (omega (arith, symbols))
outside_parts i within (inr head) (inr code) (inr stub) (inr slot) (inr pointer) (inr table) (inr trie) (inr symbols) (inl strings) sign =
    absurd (omega (arith, symbols, strings))
outside_parts i within (inr head) (inr code) (inr stub) (inr slot) (inr pointer) (inr table) (inr trie) (inr symbols) (inr strings)
    (inl sign) =
    in_gap call_image 49407 49408 i gaps.5 (omega (arith, strings)) (omega (arith, sign))
outside_parts i within (inr head) (inr code) (inr stub) (inr slot) (inr pointer) (inr table) (inr trie) (inr symbols) (inr strings)
    (inr sign) =
    absurd (omega (arith, within, sign))

-- THE zeros
pub call_zeros : IsZeroElsewhere calling call_image placed_call 0
call_zeros i within out =
    let h : All (IsOutsideSpan i) contents_of_call = subst (λ (spans : List Span). All (IsOutsideSpan i) spans) contents_are out in
    outside_parts i (omega (arith, within, call_long))
    (h 0 (span 0 0) (omega arith))
    (h 1 (span 0 0) (omega arith))
    (h 4 (span 0 0) (omega arith))
    (h 3 (span 0 0) (omega arith))
    (h 2 (span 0 0) (omega arith))
    (h 7 (span 0 0) (omega arith))
    (h 8 (span 0 0) (omega arith))
    (h 9 (span 0 0) (omega arith))
    (h 10 (span 0 0) (omega arith))
    (h 11 (span 0 0) (omega arith))
