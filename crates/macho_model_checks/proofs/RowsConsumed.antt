-- Consumed sections, and what a dynamic library offers, by computing from the bytes of small inputs.
use Rattle.std.proofs.Common.{◌≡◌, ℕ, Bool, true, false, List, [], ◌∷◌, ◌++◌, refl, map}
use Rattle.std.specs.Prelude.{codes}
use Rattle.macho_records.specs.Sections.{should_exclude_of}
use Rattle.macho_records.specs.declared.header.SectionHeader.{SectionHeader}
use Rattle.macho_model.specs.declared.rules.UnwindRule.TheVariants.{U1, U2, U3, U4, U5, U6, U7, U8}
use Rattle.macho_model.specs.declared.targets.Target.TheVariants as target
use Rattle.macho_bytes.specs.Numbers.{le_at, le_bytes, row_bytes}
use Rattle.macho_bytes.specs.Layouts.{reading}
use Rattle.macho_model.specs.Commands.{header_of, commands_from, commands_of, commands_end}
use Rattle.macho_model.specs.Objects.{num_sections, section_place, section_at, section_bytes, symtab_of, num_symbols, symbol_place, symbol_at, strings_of, symbol_name, relocation_place, relocation_at, install_name_of}
use Rattle.macho_model.specs.ExportLists.{plain_entries, all_entries, entries_of}
use Rattle.macho_model.specs.Links.{Link, Dylib, sections_of, carried_of, template_exponent, placed_exponent, is_carried}
use Rattle.macho_model.specs.Resolution.{symbols_of, strong_of, commons_of, greatest_of, libraries_with, definition_of, chosen_commons, offers}
use Rattle.macho_model.specs.Needs.{initializer_sections, unwind_sections, imports_of, libraries_needed, carried_relocations, initializer_relocations, personality_relocations}
use Rattle.macho_model.specs.Targets.{target_of, target_of_relocation, slots_of, stubs_of}
use Rattle.macho_model.specs.Fields.{fields_of}
use Rattle.macho_model.specs.Rows.{is_supported}
use Rattle.macho_model.specs.Consumed.{keeps, entries_of_link, personality_targets}
use Rattle.macho_model_checks.proofs.Examples.{words8, words, halves, name16}
use Rattle.macho_model_checks.proofs.ExampleLinks.{entry, text_object, section}
use Rattle.macho_model_checks.proofs.RowsValid.{data_object, unwind_object, unwind_entry, link_of_object}

-- a section header of a name, a segment and flags
abbrev pub header_named : List ℕ → List ℕ → ℕ → SectionHeader
header_named name segment flags = record {
  sectname = name16 name;
  segname = name16 segment;
  addr = 0;
  size = 8;
  offset = 0;
  align = 3;
  reloff = 0;
  nreloc = 0;
  flags = flags;
  reserved1 = 0;
  reserved2 = 0;
  reserved3 = 0;
}

-- initializers in a segment of the linker's own are left out; unwind entries in any other segment are taken, also where they are marked as
-- debug information, but not carried
pub which_are_taken : (is_carried (header_named (codes "__mod_init_func") (codes "__LLVM") 9) ≡ false)
    × (should_exclude_of (header_named (codes "__mod_init_func") (codes "__LLVM") 9) ≡ true)
    × (should_exclude_of (header_named (codes "__mod_init_func") (codes "__DATA_CONST") 9) ≡ false)
    × (should_exclude_of (header_named (codes "__compact_unwind") (codes "__LD") 0x02000000) ≡ false)
    × (is_carried (header_named (codes "__compact_unwind") (codes "__LD") 0x02000000) ≡ false)
    × (should_exclude_of (header_named (codes "__compact_unwind") (codes "__LINKEDIT") 0) ≡ true)
unfolding name16
which_are_taken = (refl, refl, refl, refl, refl, refl)

-- which rules an entry keeps
abbrev pub kept_by : Link → ℕ → List Bool
kept_by l e = map (keeps l (section 0 1) e) (U1 ∷ U2 ∷ U3 ∷ U4 ∷ U5 ∷ U6 ∷ U7 ∷ U8 ∷ [])

-- An entry whose start's relocation names a symbol breaks the rule of starts alone: no section is looked at, so none is
-- missed.
abbrev pub by_symbol : Link
by_symbol = link_of_object (unwind_object (unwind_entry 8 0x02000000) (0 ∷ 0x0e000000 ∷ []))

pub a_start_by_symbol : kept_by by_symbol 0 ≡ true ∷ true ∷ true ∷ false ∷ true ∷ true ∷ true ∷ true ∷ []
unfolding header_of commands_from commands_of commands_end num_sections section_place section_at section_bytes symtab_of
    num_symbols symbol_place symbol_at strings_of symbol_name relocation_place relocation_at sections_of carried_of template_exponent
    placed_exponent symbols_of strong_of commons_of greatest_of libraries_with definition_of chosen_commons
    initializer_sections unwind_sections carried_relocations initializer_relocations personality_relocations imports_of libraries_needed
    target_of target_of_relocation slots_of stubs_of
    fields_of is_supported plain_entries all_entries entries_of personality_targets entries_of_link le_at le_bytes row_bytes
    reading words8 words halves name16 entry text_object data_object unwind_object unwind_entry
a_start_by_symbol = refl

-- two such entries don't have one start
abbrev pub two_by_symbol : Link
two_by_symbol = link_of_object (unwind_object (unwind_entry 8 0x02000000 ++ unwind_entry 8 0x02000000)
    (0 ∷ 0x0e000000 ∷ 32 ∷ 0x0e000000 ∷ []))

pub two_starts_by_symbol : kept_by two_by_symbol 1 ≡ true ∷ true ∷ true ∷ false ∷ true ∷ true ∷ true ∷ true ∷ []
unfolding header_of commands_from commands_of commands_end num_sections section_place section_at section_bytes symtab_of
    num_symbols symbol_place symbol_at strings_of symbol_name relocation_place relocation_at sections_of carried_of template_exponent
    placed_exponent symbols_of strong_of commons_of greatest_of libraries_with definition_of chosen_commons
    initializer_sections unwind_sections carried_relocations initializer_relocations personality_relocations imports_of libraries_needed
    target_of target_of_relocation slots_of stubs_of
    fields_of is_supported plain_entries all_entries entries_of personality_targets entries_of_link le_at le_bytes row_bytes
    reading words8 words halves name16 entry text_object data_object unwind_object unwind_entry
two_starts_by_symbol = refl

-- A start without a relocation, whose word is 4: the rule of starts is broken, and that of absent words.
abbrev pub no_start : Link
no_start = link_of_object (unwind_object (words8 (4 ∷ []) ++ words (4 ∷ 0x02000000 ∷ []) ++ words8 (0 ∷ 0 ∷ [])) [])

pub an_absent_start : kept_by no_start 0 ≡ true ∷ true ∷ true ∷ false ∷ true ∷ true ∷ true ∷ false ∷ []
unfolding header_of commands_from commands_of commands_end num_sections section_place section_at section_bytes symtab_of
    num_symbols symbol_place symbol_at strings_of symbol_name relocation_place relocation_at sections_of carried_of template_exponent
    placed_exponent symbols_of strong_of commons_of greatest_of libraries_with definition_of chosen_commons
    initializer_sections unwind_sections carried_relocations initializer_relocations personality_relocations imports_of libraries_needed
    target_of target_of_relocation slots_of stubs_of
    fields_of is_supported plain_entries all_entries entries_of personality_targets entries_of_link le_at le_bytes row_bytes
    reading words8 words halves name16 entry text_object data_object unwind_object unwind_entry
an_absent_start = refl

-- a personality needs a slot, whatever defines it
abbrev pub with_personality : Link
with_personality = link_of_object (unwind_object (unwind_entry 8 0x02000000) (0 ∷ 0x06000001 ∷ 16 ∷ 0x0e000000 ∷ []))

pub a_personality : (personality_targets with_personality ≡ target.Section 0 0 0 ∷ [])
    × (slots_of with_personality ≡ target.Section 0 0 0 ∷ [])
    × (kept_by with_personality 0 ≡ true ∷ true ∷ true ∷ true ∷ true ∷ true ∷ true ∷ true ∷ [])
unfolding header_of commands_from commands_of commands_end num_sections section_place section_at section_bytes symtab_of
    num_symbols symbol_place symbol_at strings_of symbol_name relocation_place relocation_at sections_of carried_of template_exponent
    placed_exponent symbols_of strong_of commons_of greatest_of libraries_with definition_of chosen_commons
    initializer_sections unwind_sections carried_relocations initializer_relocations personality_relocations imports_of libraries_needed
    target_of target_of_relocation slots_of stubs_of
    fields_of is_supported plain_entries all_entries entries_of personality_targets entries_of_link le_at le_bytes row_bytes
    reading words8 words halves name16 entry text_object data_object unwind_object unwind_entry
a_personality = (refl, refl, refl)

-- A dynamic library with symbols of all kinds: `_a` of a section, `_b` absolute, `_c` hidden, `_d` for its file alone, `_e`
-- undefined, `_f` an alias (`N_INDR`), `_g` a debugging entry.
unfoldable pub library : List ℕ
library =
    words (0xfeedfacf ∷ 0x0100000c ∷ 0 ∷ 6 ∷ 2 ∷ 56 ∷ 0 ∷ 0 ∷ []) ++ words (0xd ∷ 32 ∷ 24 ∷ 2 ∷ 0x10000 ∷ 0x10000 ∷ []) ++ codes "/a" ++ 0
    ∷ 0 ∷ 0 ∷ 0 ∷ 0 ∷ 0 ∷ []
    ++ words (2 ∷ 24 ∷ 88 ∷ 7 ∷ 200 ∷ 22 ∷ [])
    ++ entry 1 0x0f 1 0 0 ++ entry 4 0x03 0 0 1 ++ entry 7 0x1f 1 0 0 ++ entry 10 0x0e 1 0 0 ++ entry 13 0x01 0 0 0 ++ entry 16 0x0b 0 0 1
    ++ entry 19 0x2f 1 0 0
    ++ 0 ∷ codes "_a" ++ 0 ∷ codes "_b" ++ 0 ∷ codes "_c" ++ 0 ∷ codes "_d" ++ 0 ∷ codes "_e" ++ 0 ∷ codes "_f" ++ 0 ∷ codes "_g" ++ 0 ∷ []

pub what_it_offers : map (λ name. offers name (Dylib library)) (codes "_a" ∷ codes "_b" ∷ codes "_c" ∷ codes "_d" ∷ codes "_e"
    ∷ codes "_f" ∷ codes "_g" ∷ [])
    ≡ true ∷ true ∷ false ∷ false ∷ false ∷ false ∷ false ∷ []
unfolding header_of commands_from commands_of commands_end num_sections section_place section_at section_bytes symtab_of
    num_symbols symbol_place symbol_at strings_of symbol_name relocation_place relocation_at sections_of carried_of template_exponent
    placed_exponent symbols_of strong_of commons_of greatest_of libraries_with definition_of chosen_commons
    initializer_sections unwind_sections carried_relocations initializer_relocations personality_relocations imports_of libraries_needed
    target_of target_of_relocation slots_of stubs_of
    fields_of is_supported plain_entries all_entries entries_of install_name_of le_at le_bytes row_bytes reading words8 words
    halves name16 entry text_object library
what_it_offers = refl
