-- The chain of the image of a link with an import and a pointer is whole: the loader writes the slot and the pointer, and no other word.
--
-- The page starts of the file lead to the slot's word and to the pointer's, which lead on to none. Of the link's two fields the branch
-- needs no fixup and the pointer does, at that address; and its one slot stands at the other.
use Rattle.std.proofs.Common.{◌≡◌, ℕ, ◌+◌, ◌==◌, ◌||◌, ◌⊎◌, Bool, true, false, not, List, [], ◌∷◌, None, inl, inr, refl, sym, subst, arith}
use Rattle.std.specs.List.{list_all}
use Rattle.std.proofs.lemmas.Bool.Decides.{nat_tests}
use Rattle.macho_bytes.specs.Numbers.{le_at, le_bytes, be_at, be_bytes, row_bytes}
use Rattle.macho_bytes.specs.Layouts.{reading}
use Rattle.macho_records.specs.declared.constants.TheConstants.{ARM64_RELOC_UNSIGNED}
use Rattle.macho_model.specs.declared.placed.Slot.{Slot}
use Rattle.macho_model.specs.declared.placed.PlacedSection.{PlacedSection}
use Rattle.macho_model.specs.declared.targets.Target.TheVariants as target
use Rattle.macho_model.specs.Commands.{header_of, commands_from, commands_of, commands_end}
use Rattle.macho_model.specs.Objects.{num_sections, section_place, section_at, section_bytes, symtab_of, num_symbols, symbol_place, symbol_at, strings_of, symbol_name, relocation_place, relocation_at}
use Rattle.macho_model.specs.ExportLists.{plain_entries, all_entries, entries_of}
use Rattle.macho_model.specs.Links.{sections_of, carried_of, template_exponent, placed_exponent}
use Rattle.macho_model.specs.Resolution.{symbols_of, strong_of, commons_of, greatest_of, libraries_with, definition_of, chosen_commons}
use Rattle.macho_model.specs.Needs.{initializer_sections, unwind_sections, imports_of, libraries_needed, carried_relocations, initializer_relocations, personality_relocations}
use Rattle.macho_model.specs.Targets.{target_of, target_of_relocation, slots_of, stubs_of}
use Rattle.macho_model.specs.Fields.{Field, fields_of}
use Rattle.macho_model.specs.Segments.{other_segments, segment_names_of, output_keys_of}
use Rattle.macho_model.specs.Placement.{id_of}
use Rattle.macho_model.specs.Values.{needs_fixup}
use Rattle.macho_model.specs.Images.{segments_of, mapped_segments, base_of, libraries_of, tables_of, tries_of, signatures_of, symbol_tables_of, string_tables_of, entries_of_file}
use Rattle.macho_model.specs.Chain.{ChainSegment, chain_segments, OnChain, OnChainOf}
use Rattle.macho_model.specs.Chain as chain
use Rattle.macho_model.specs.Fixups.{IsFixupPlace, ChainIsWhole}
use Rattle.macho_model.specs.Fixups as fixups
use Rattle.macho_image_walks.proofs.ChainSets.{is_closed, among_passes, chain_within}
use Rattle.macho_model_checks.proofs.Examples.{words8, words, halves, name16}
use Rattle.macho_model_checks.proofs.ExampleLinks.{entry}
use Rattle.macho_model_checks.proofs.ExampleCall.{calls_exit, calling, slot_placed, data_placed, placed_call, head_of_call, fixups_of_call, tables_of_call, big_words, signature_of_call, call_image}
use Rattle.macho_bytes.proofs.Bools.{is_equal, or_else}
use Rattle.macho_bytes.proofs.Members.{one_passes}

abbrev pub constants_in_chain : ChainSegment
constants_in_chain = record { address = 0x100004000; file_offset = 0x4000; file_size = 0x4000; starts = 0 ∷ [] }

abbrev pub data_in_chain : ChainSegment
data_in_chain = record { address = 0x100008000; file_offset = 0x8000; file_size = 0x4000; starts = 0 ∷ [] }

abbrev pub segments_in_chain : List ChainSegment
segments_in_chain =
    record { address = 0; file_offset = 0; file_size = 0; starts = [] }
    ∷ record { address = 0x100000000; file_offset = 0; file_size = 0x4000; starts = [] } ∷ constants_in_chain ∷ data_in_chain
    ∷ record { address = 0x10000c000; file_offset = 0xc000; file_size = 796; starts = [] } ∷ []

-- the two words
abbrev pub words_in_chain : List ℕ
words_in_chain = 0x100004000 ∷ 0x100008000 ∷ []

pub call_segments : chain_segments call_image ≡ segments_in_chain
unfolding chain_segments commands_end commands_of commands_from header_of reading le_at row_bytes le_bytes words8 words halves name16
    entry calls_exit head_of_call fixups_of_call tables_of_call be_at be_bytes big_words signature_of_call call_image segments_of
    mapped_segments base_of libraries_of tables_of tries_of signatures_of symbol_tables_of string_tables_of entries_of_file
call_segments = refl

call_closed : is_closed segments_in_chain call_image words_in_chain ≡ true
unfolding commands_end commands_of commands_from header_of reading le_at row_bytes le_bytes words8 words halves name16 entry calls_exit
    head_of_call fixups_of_call tables_of_call be_at be_bytes big_words signature_of_call call_image
call_closed = refl

-- they are on the chain, and none other
pub slot_on : OnChainOf call_image 0x100004000
slot_on = rw call_segments (chain.OnChain.first constants_in_chain 0 (2, omega arith, refl) (omega arith) (λ same. omega (arith, same)))

pub pointer_on : OnChainOf call_image 0x100008000
pointer_on = rw call_segments (chain.OnChain.first data_in_chain 0 (3, omega arith, refl) (omega arith) (λ same. omega (arith, same)))

abbrev is_word : ℕ → Bool
is_word a = (a == 0x100004000) || (a == 0x100008000)

word_is : (a : ℕ) → is_word a ≡ true → (a ≡ 0x100004000) ⊎ (a ≡ 0x100008000)
word_is a h = grind (arith, nat_tests)

pub only_two_on : (a : ℕ) → OnChainOf call_image a → (a ≡ 0x100004000) ⊎ (a ≡ 0x100008000)
only_two_on a on =
    word_is a (among_passes is_word words_in_chain a refl
    (chain_within segments_in_chain call_image words_in_chain call_closed a
    (subst (λ segments. OnChain segments call_image a) call_segments on)))

-- the slot stands at the one; the pointer needs a fixup at the other, and the branch none
slots_there : list_all (λ (s : Slot). s.address == 0x100004000) placed_call.slots ≡ true
slots_there = refl

abbrev is_there : PlacedSection → Field → Bool
is_there q f = not (needs_fixup calling (id_of q) f) || (q.address + f.offset == 0x100008000)

fields_there : list_all (λ (q : PlacedSection). list_all (is_there q) (fields_of calling (id_of q))) placed_call.sections ≡ true
unfolding commands_end commands_of commands_from header_of reading le_at row_bytes le_bytes words8 words halves name16 entry calls_exit
    head_of_call fixups_of_call tables_of_call be_at be_bytes big_words signature_of_call call_image num_sections section_place
    section_at section_bytes symtab_of num_symbols symbol_place symbol_at strings_of symbol_name relocation_place relocation_at
    sections_of carried_of template_exponent placed_exponent symbols_of strong_of commons_of greatest_of libraries_with
    definition_of chosen_commons initializer_sections unwind_sections carried_relocations initializer_relocations personality_relocations
    imports_of libraries_needed target_of
    target_of_relocation slots_of stubs_of fields_of plain_entries all_entries entries_of other_segments segment_names_of
    output_keys_of
fields_there = refl

abbrev pub pointer_field : Field
pointer_field = record {
  relocation = 0;
  offset = 0;
  width = 8;
  type = ARM64_RELOC_UNSIGNED;
  target = target.Section 0 0 0;
  subtrahend = None;
  addend = 0;
}

pub data_fields : (fields_of calling (id_of data_placed) ≡ pointer_field ∷ [])
    × (needs_fixup calling (id_of data_placed) pointer_field ≡ true)
unfolding commands_end commands_of commands_from header_of reading le_at row_bytes le_bytes words8 words halves name16 entry calls_exit
    head_of_call fixups_of_call tables_of_call be_at be_bytes big_words signature_of_call call_image num_sections section_place
    section_at section_bytes symtab_of num_symbols symbol_place symbol_at strings_of symbol_name relocation_place relocation_at
    sections_of carried_of template_exponent placed_exponent symbols_of strong_of commons_of greatest_of libraries_with
    definition_of chosen_commons initializer_sections unwind_sections carried_relocations initializer_relocations personality_relocations
    imports_of libraries_needed target_of
    target_of_relocation slots_of stubs_of fields_of plain_entries all_entries entries_of other_segments segment_names_of
    output_keys_of
data_fields = (refl, refl)

place_is : (a : ℕ) → IsFixupPlace calling placed_call a → (a ≡ 0x100004000) ⊎ (a ≡ 0x100008000)
place_is _ (fixups.IsFixupPlace.slot s one) =
    inl (is_equal s.address 0x100004000 (one_passes (λ (x : Slot). x.address == 0x100004000) placed_call.slots s slots_there one))
place_is _ (fixups.IsFixupPlace.pointer q f one has needs) =
    let of_section = one_passes (λ (x : PlacedSection). list_all (is_there x) (fields_of calling (id_of x))) placed_call.sections q
    fields_there one in
    let of_field = one_passes (is_there q) (fields_of calling (id_of q)) f of_section has in
    inr (is_equal (q.address + f.offset) 0x100008000
    (or_else (needs_fixup calling (id_of q) f) (q.address + f.offset == 0x100008000) of_field needs))

pub pointer_is_asked : IsFixupPlace calling placed_call 0x100008000
pointer_is_asked =
    fixups.IsFixupPlace.pointer data_placed pointer_field (1, omega arith, refl) (rw data_fields.0 (0, omega arith, refl)) data_fields.1

-- THE chain is whole.
pub call_chain_is_whole : ChainIsWhole calling call_image placed_call
call_chain_is_whole a = (λ on. asked (only_two_on a on), λ place. on_chain (place_is a place))
  where
    asked : (a ≡ 0x100004000) ⊎ (a ≡ 0x100008000) → IsFixupPlace calling placed_call a
    asked (inl slot) = subst (λ (x : ℕ). IsFixupPlace calling placed_call x) (sym slot)
        (fixups.IsFixupPlace.slot slot_placed (0, omega arith, refl))
    asked (inr pointer) = subst (λ (x : ℕ). IsFixupPlace calling placed_call x) (sym pointer) pointer_is_asked

    on_chain : (a ≡ 0x100004000) ⊎ (a ≡ 0x100008000) → OnChainOf call_image a
    on_chain (inl slot) = subst (λ (x : ℕ). OnChainOf call_image x) (sym slot) slot_on
    on_chain (inr pointer) = subst (λ (x : ℕ). OnChainOf call_image x) (sym pointer) pointer_on
