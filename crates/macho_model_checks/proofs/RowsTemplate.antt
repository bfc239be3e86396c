-- At which alignment the sections of the thread-local template are placed, and as what a name is exported, by computing.
use Rattle.std.proofs.Common.{◌≡◌, ℕ, ◌+◌, true, false, [], ◌∷◌, map, refl, arith, Some}
use Rattle.std.specs.Prelude.{codes}
use Rattle.macho_bytes.specs.Numbers.{le_at, le_bytes, row_bytes}
use Rattle.macho_bytes.specs.Layouts.{reading}
use Rattle.macho_records.specs.Symbols.{is_hidden_of}
use Rattle.macho_model.specs.declared.targets.Target.TheVariants as target
use Rattle.macho_model.specs.Commands.{header_of, commands_from, commands_of, commands_end}
use Rattle.macho_model.specs.Objects.{num_sections, section_place, section_at, section_bytes, symtab_of, num_symbols, symbol_place, symbol_at, strings_of, symbol_name, relocation_place, relocation_at}
use Rattle.macho_model.specs.ExportLists.{plain_entries, all_entries, entries_of}
use Rattle.macho_model.specs.Links.{Link, Object, sections_of, carried_of, template_exponent, placed_exponent}
use Rattle.macho_model.specs.Resolution.{Symbol, symbols_of, strong_of, commons_of, greatest_of, libraries_with, definition_of, chosen_commons, entry_at}
use Rattle.macho_model.specs.Needs.{initializer_sections, unwind_sections, imports_of, libraries_needed, carried_relocations, initializer_relocations, personality_relocations}
use Rattle.macho_model.specs.Targets.{target_of, target_of_name, target_of_relocation, slots_of, stubs_of}
use Rattle.macho_model.specs.Exports.{is_listed, section_flag}
use Rattle.macho_trie.specs.Exports.{as_value}
use Rattle.macho_promise.specs.TrieSays.{ExportedAs, from_object}
use Rattle.macho_model_checks.proofs.Examples.{words8, words, halves, name16, object_a, object_b, changed, header_b}
use Rattle.macho_model_checks.proofs.ExampleLinks.{executable_of, section, symbol}
use Rattle.macho_model_checks.proofs.ExamplePlacement.{link_a, placed_a, section_a}
use Rattle.macho_model.specs.steps.Exports.{weak_flag}

-- the second example, and again with thread-local data aligned to 2 ^ 3 in place of 2 ^ 2
abbrev pub two_templates : Link
two_templates = executable_of (Object object_b ∷ Object (changed object_b (header_b 3 + 52) (words (3 ∷ []))) ∷ [])

-- both sections of the template are placed at the greater one; other sections at their own
pub template_is_aligned : (template_exponent two_templates ≡ 3)
    × (map (placed_exponent two_templates) (section 0 0 ∷ section 0 1 ∷ section 0 3 ∷ section 1 3 ∷ []) ≡ 2 ∷ 3 ∷ 3 ∷ 3 ∷ [])
unfolding header_of commands_from commands_of commands_end num_sections section_place section_at section_bytes symtab_of
    num_symbols symbol_place symbol_at strings_of symbol_name relocation_place relocation_at sections_of carried_of template_exponent
    placed_exponent symbols_of strong_of commons_of greatest_of libraries_with definition_of chosen_commons
    initializer_sections unwind_sections carried_relocations initializer_relocations personality_relocations imports_of libraries_needed
    target_of target_of_relocation slots_of stubs_of
    plain_entries all_entries entries_of le_at le_bytes row_bytes reading words8 words halves name16 object_b changed
template_is_aligned = (refl, refl)

-- descriptors of thread-local variables of exponent 0 are placed at 3, and any other section of exponent 0 at 0
abbrev pub with_descriptors : ℕ → Link
with_descriptors type = executable_of (Object (changed object_b (header_b 1 + 52) (words (0 ∷ 508 ∷ 3 ∷ type ∷ []))) ∷ [])

pub descriptors_are_aligned : (placed_exponent (with_descriptors 0x13) (section 0 1) ≡ 3)
    × (placed_exponent (with_descriptors 0) (section 0 1) ≡ 0)
unfolding header_of commands_from commands_of commands_end num_sections section_place section_at section_bytes symtab_of
    num_symbols symbol_place symbol_at strings_of symbol_name relocation_place relocation_at sections_of carried_of template_exponent
    placed_exponent symbols_of strong_of commons_of greatest_of libraries_with definition_of chosen_commons
    initializer_sections unwind_sections carried_relocations initializer_relocations personality_relocations imports_of libraries_needed
    target_of target_of_relocation slots_of stubs_of
    plain_entries all_entries entries_of le_at le_bytes row_bytes reading words8 words halves name16 object_b changed
descriptors_are_aligned = (refl, refl)

-- the smallest link's `_main` is exported as its offset from the base
what_main_is : (definition_of link_a (codes "_main") ≡ Some (Symbol (symbol 0 0))) × (is_hidden_of (entry_at link_a (symbol 0 0)) ≡ false)
    × (is_listed link_a (codes "_main") ≡ true) × (target_of_name link_a (codes "_main") ≡ target.Section 0 0 0)
    × (section_flag link_a 0 0 + weak_flag link_a (symbol 0 0) ≡ 0)
unfolding header_of commands_from commands_of commands_end num_sections section_place section_at section_bytes symtab_of
    num_symbols symbol_place symbol_at strings_of symbol_name relocation_place relocation_at sections_of carried_of template_exponent
    placed_exponent symbols_of strong_of commons_of greatest_of libraries_with definition_of chosen_commons
    initializer_sections unwind_sections carried_relocations initializer_relocations personality_relocations imports_of libraries_needed
    target_of target_of_relocation slots_of stubs_of
    plain_entries all_entries entries_of le_at le_bytes row_bytes reading words8 words halves name16 object_b changed object_a
what_main_is = (refl, refl, refl, refl, refl)

pub main_is_exported : ExportedAs link_a placed_a (codes "_main") (as_value 0 0x138)
main_is_exported =
    from_object (symbol 0 0) (as_value 0 0x138) (what_main_is.0, what_main_is.1, what_main_is.2)
    (rw what_main_is.3 (
      0x100000138,
      0x138,
      (section_a 0x100000138, (0, omega arith, refl), refl, refl, refl),
      refl,
      rw what_main_is.4
          refl,
    ))
