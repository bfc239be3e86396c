-- Pairs of relocations, and addends of pointers, by computing from the bytes of small objects.
use Rattle.std.proofs.Common.{◌≡◌, ℕ, ◌-◌, ◌^◌, true, false, List, [], ◌∷◌, ◌++◌, refl, Some, None, map}
use Rattle.std.specs.Prelude.{codes}
use Rattle.macho_model.specs.declared.targets.Target.TheVariants as target
use Rattle.macho_bytes.specs.Numbers.{le_at, le_bytes, row_bytes}
use Rattle.macho_bytes.specs.Layouts.{reading}
use Rattle.macho_model.specs.Commands.{header_of, commands_from, commands_of, commands_end}
use Rattle.macho_model.specs.Objects.{num_sections, section_place, section_at, section_bytes, symtab_of, num_symbols, symbol_place, symbol_at, strings_of, symbol_name, relocation_place, relocation_at}
use Rattle.macho_model.specs.ExportLists.{plain_entries, all_entries, entries_of}
use Rattle.macho_model.specs.Links.{Link, Object, sections_of, carried_of, template_exponent, placed_exponent}
use Rattle.macho_model.specs.Resolution.{symbols_of, strong_of, commons_of, greatest_of, libraries_with, definition_of, chosen_commons}
use Rattle.macho_model.specs.Needs.{initializer_sections, unwind_sections, imports_of, libraries_needed, carried_relocations, initializer_relocations, personality_relocations}
use Rattle.macho_model.specs.Targets.{target_of, target_of_relocation, slots_of, stubs_of}
use Rattle.macho_model.specs.Fields.{fields_of}
use Rattle.macho_model.specs.Rows.{is_supported, are_pair}
use Rattle.macho_model_checks.proofs.Examples.{words8, words, halves, name16, changed}
use Rattle.macho_model_checks.proofs.ExampleLinks.{entry, text_object, executable_of, section, system}

-- a link of an object with a text, relocations, `_main` at its start and the name `_exit`
unfoldable pub of_text : List ℕ → List ℕ → List ℕ
of_text text relocations =
    text_object text (words relocations) (entry 1 0x0f 1 0 0 ++ entry 7 0x01 0 0 0 ++ entry 0 0x02 0 0 42 ++ entry 1 0x24 1 0 0)
    (0 ∷ codes "_main" ++ 0 ∷ codes "_exit" ++ 0 ∷ [])

abbrev pub alone : List ℕ → Link
alone object = executable_of (Object object ∷ system ∷ [])

-- A subtrahend at 0 and a pointer at 8 are no pair: the pointer is one by itself, with its content as addend, and the
-- subtrahend has no pointer behind it.
abbrev pub apart : Link
apart = alone (of_text (words8 (0 ∷ 5 ∷ [])) (0 ∷ 0x1e000000 ∷ 8 ∷ 0x0e000000 ∷ []))

pub no_difference : (fields_of apart (section 0 0) ≡
    record { relocation = 1; offset = 8; width = 8; type = 0; target = target.Section 0 0 0; subtrahend = None; addend = 5 } ∷ [])
    × (is_supported apart (section 0 0) 0 ≡ false) × (is_supported apart (section 0 0) 1 ≡ true)
    × (are_pair apart (section 0 0) 0 1 ≡ false)
unfolding header_of commands_from commands_of commands_end num_sections section_place section_at section_bytes symtab_of
    num_symbols symbol_place symbol_at strings_of symbol_name relocation_place relocation_at sections_of carried_of template_exponent
    placed_exponent symbols_of strong_of commons_of greatest_of libraries_with definition_of chosen_commons
    initializer_sections unwind_sections carried_relocations initializer_relocations personality_relocations imports_of libraries_needed
    target_of target_of_relocation slots_of stubs_of
    fields_of is_supported plain_entries all_entries entries_of le_at le_bytes row_bytes reading words8 words halves name16
    entry text_object of_text
no_difference = (refl, refl, refl, refl)

-- nor are a subtrahend of 8 bytes and a pointer of 4 at one place
abbrev pub uneven : Link
uneven = alone (of_text (words8 (0 ∷ 0 ∷ [])) (8 ∷ 0x1e000000 ∷ 8 ∷ 0x0c000000 ∷ []))

pub no_uneven_difference : (is_supported uneven (section 0 0) 0 ≡ false) × (is_supported uneven (section 0 0) 1 ≡ false)
    × (are_pair uneven (section 0 0) 0 1 ≡ false)
unfolding header_of commands_from commands_of commands_end num_sections section_place section_at section_bytes symtab_of
    num_symbols symbol_place symbol_at strings_of symbol_name relocation_place relocation_at sections_of carried_of template_exponent
    placed_exponent symbols_of strong_of commons_of greatest_of libraries_with definition_of chosen_commons
    initializer_sections unwind_sections carried_relocations initializer_relocations personality_relocations imports_of libraries_needed
    target_of target_of_relocation slots_of stubs_of
    fields_of is_supported plain_entries all_entries entries_of le_at le_bytes row_bytes reading words8 words halves name16
    entry text_object of_text
no_uneven_difference = (refl, refl, refl)

-- of 8 bytes both, at 8, they are a difference
abbrev pub together : Link
together = alone (of_text (words8 (0 ∷ 5 ∷ [])) (8 ∷ 0x1e000000 ∷ 8 ∷ 0x0e000000 ∷ []))

pub a_difference : (fields_of together (section 0 0) ≡
    record {
      relocation = 1;
      offset = 8;
      width = 8;
      type = 0;
      target = target.Section 0 0 0;
      subtrahend = Some (target.Section 0 0 0);
      addend = 5;
    } ∷ [])
    × (is_supported together (section 0 0) 0 ≡ true) × (is_supported together (section 0 0) 1 ≡ true)
    × (are_pair together (section 0 0) 0 1 ≡ true)
unfolding header_of commands_from commands_of commands_end num_sections section_place section_at section_bytes symtab_of
    num_symbols symbol_place symbol_at strings_of symbol_name relocation_place relocation_at sections_of carried_of template_exponent
    placed_exponent symbols_of strong_of commons_of greatest_of libraries_with definition_of chosen_commons
    initializer_sections unwind_sections carried_relocations initializer_relocations personality_relocations imports_of libraries_needed
    target_of target_of_relocation slots_of stubs_of
    fields_of is_supported plain_entries all_entries entries_of le_at le_bytes row_bytes reading words8 words halves name16
    entry text_object of_text
a_difference = (refl, refl, refl, refl)

-- an addend of 16 at 0 adds nothing to a page at 4
abbrev pub elsewhere : Link
elsewhere = alone (of_text (words (0 ∷ 0x90000000 ∷ [])) (0 ∷ 0xa4000010 ∷ 4 ∷ 0x3d000000 ∷ []))

pub no_addend : (fields_of elsewhere (section 0 0) ≡
    record { relocation = 1; offset = 4; width = 4; type = 3; target = target.Section 0 0 0; subtrahend = None; addend = 0 } ∷ [])
    × (is_supported elsewhere (section 0 0) 0 ≡ false) × (is_supported elsewhere (section 0 0) 1 ≡ true)
unfolding header_of commands_from commands_of commands_end num_sections section_place section_at section_bytes symtab_of
    num_symbols symbol_place symbol_at strings_of symbol_name relocation_place relocation_at sections_of carried_of template_exponent
    placed_exponent symbols_of strong_of commons_of greatest_of libraries_with definition_of chosen_commons
    initializer_sections unwind_sections carried_relocations initializer_relocations personality_relocations imports_of libraries_needed
    target_of target_of_relocation slots_of stubs_of
    fields_of is_supported plain_entries all_entries entries_of le_at le_bytes row_bytes reading words8 words halves name16
    entry text_object of_text
no_addend = (refl, refl, refl)

-- Pointers to a section by its number, of a section at 0x10 in the input: their contents 0x18 and 8 lead 8 bytes behind
-- its start and 8 bytes in front of it.
abbrev pub by_number : Link
by_number = alone (changed (of_text (words8 (0x18 ∷ 8 ∷ [])) (0 ∷ 0x06000001 ∷ 8 ∷ 0x06000001 ∷ [])) 136 (words8 (0x10 ∷ [])))

pub addends_by_number : (map (λ f. f.target) (fields_of by_number (section 0 0)) ≡ target.Section 0 0 0 ∷ target.Section 0 0 0 ∷ [])
    × (map (λ f. f.addend) (fields_of by_number (section 0 0)) ≡ 8 ∷ (2 ^ 64 - 8) ∷ [])
unfolding header_of commands_from commands_of commands_end num_sections section_place section_at section_bytes symtab_of
    num_symbols symbol_place symbol_at strings_of symbol_name relocation_place relocation_at sections_of carried_of template_exponent
    placed_exponent symbols_of strong_of commons_of greatest_of libraries_with definition_of chosen_commons
    initializer_sections unwind_sections carried_relocations initializer_relocations personality_relocations imports_of libraries_needed
    target_of target_of_relocation slots_of stubs_of
    fields_of is_supported plain_entries all_entries entries_of le_at le_bytes row_bytes reading words8 words halves name16
    entry text_object of_text changed
addends_by_number = (refl, refl)

-- A pointer to a slot needs one for any target, a load only for an import: the targets of `_main` by such a pointer, and of
-- `_exit` by a page.
abbrev pub with_slots : Link
with_slots = alone (of_text (words (0 ∷ 0x90000000 ∷ 0x90000000 ∷ [])) (0 ∷ 0x7d000000 ∷ 4 ∷ 0x5d000001 ∷ 8 ∷ 0x5d000000 ∷ []))

pub slots_needed : (slots_of with_slots ≡ target.Section 0 0 0 ∷ target.Import 0 ∷ []) × (stubs_of with_slots ≡ [])
unfolding header_of commands_from commands_of commands_end num_sections section_place section_at section_bytes symtab_of
    num_symbols symbol_place symbol_at strings_of symbol_name relocation_place relocation_at sections_of carried_of template_exponent
    placed_exponent symbols_of strong_of commons_of greatest_of libraries_with definition_of chosen_commons
    initializer_sections unwind_sections carried_relocations initializer_relocations personality_relocations imports_of libraries_needed
    target_of target_of_relocation slots_of stubs_of
    fields_of is_supported plain_entries all_entries entries_of le_at le_bytes row_bytes reading words8 words halves name16
    entry text_object of_text
slots_needed = (refl, refl)

-- a debugging entry leads nowhere, a value without a name to itself
pub other_targets : (target_of with_slots (record { file = 0; symbol = 3 }) ≡ target.None)
    × (target_of with_slots (record { file = 0; symbol = 2 }) ≡ target.Absolute 42)
unfolding header_of commands_from commands_of commands_end num_sections section_place section_at section_bytes symtab_of
    num_symbols symbol_place symbol_at strings_of symbol_name relocation_place relocation_at sections_of carried_of template_exponent
    placed_exponent symbols_of strong_of commons_of greatest_of libraries_with definition_of chosen_commons
    initializer_sections unwind_sections carried_relocations initializer_relocations personality_relocations imports_of libraries_needed
    target_of target_of_relocation slots_of stubs_of
    fields_of is_supported plain_entries all_entries entries_of le_at le_bytes row_bytes reading words8 words halves name16
    entry text_object of_text
other_targets = (refl, refl)

-- a name that a list holds needs its library, also where only needed ones are kept; without the list none is needed
abbrev pub listing : List (List ℕ) → Link
listing lists = record (alone (of_text (words (0xd65f03c0 ∷ [])) [])) { dead_strip_dylibs = true; export_lists = lists }

pub a_listed_name_needs_its_library : (libraries_needed (listing (codes "_exit" ∷ [])) ≡ codes "/usr/lib/libSystem.B.dylib" ∷ [])
    × (imports_of (listing (codes "_exit" ∷ [])) ≡ codes "_exit" ∷ []) × (libraries_needed (listing []) ≡ [])
unfolding header_of commands_from commands_of commands_end num_sections section_place section_at section_bytes symtab_of
    num_symbols symbol_place symbol_at strings_of symbol_name relocation_place relocation_at sections_of carried_of template_exponent
    placed_exponent symbols_of strong_of commons_of greatest_of libraries_with definition_of chosen_commons
    initializer_sections unwind_sections carried_relocations initializer_relocations personality_relocations imports_of libraries_needed
    target_of target_of_relocation slots_of stubs_of
    fields_of is_supported plain_entries all_entries entries_of le_at le_bytes row_bytes reading words8 words halves name16
    entry text_object of_text
a_listed_name_needs_its_library = (refl, refl, refl)
