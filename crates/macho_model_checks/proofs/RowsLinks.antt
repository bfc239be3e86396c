-- What the definitions of links say of small links, by computing: which definition a name has, which sections are
-- carried, which fields relocations make, and what the walk over them needs.
use Rattle.std.proofs.Common.{◌≡◌, ℕ, ◌-◌, ◌^◌, true, false, List, [], ◌∷◌, refl, Some, None, map}
use Rattle.std.specs.Prelude.{codes, Option}
use Rattle.std.specs.List.{AllByRecursion}
use Rattle.macho_bytes.specs.Numbers.{le_at, le_bytes, row_bytes}
use Rattle.macho_bytes.specs.Layouts.{reading}
use Rattle.macho_model.specs.declared.targets.Target.TheVariants as target
use Rattle.macho_model.specs.Commands.{header_of, commands_from, commands_of, commands_end}
use Rattle.macho_model.specs.Objects.{num_sections, section_place, section_at, section_bytes, symtab_of, num_symbols, symbol_place, symbol_at, strings_of, symbol_name, relocation_place, relocation_at}
use Rattle.macho_model.specs.ExportLists.{plain_entries, all_entries, entries_of}
use Rattle.macho_model.specs.Links.{sections_of, carried_of, template_exponent, placed_exponent}
use Rattle.macho_model.specs.Resolution.{Definition, Symbol, Library, ImageBase, symbols_of, strong_of, commons_of, greatest_of, libraries_with, definition_of, chosen_commons}
use Rattle.macho_model.specs.Needs.{initializer_sections, unwind_sections, imports_of, libraries_needed, carried_relocations, initializer_relocations, personality_relocations}
use Rattle.macho_model.specs.Targets.{target_of, target_of_relocation, slots_of, stubs_of}
use Rattle.macho_model.specs.Fields.{fields_of}
use Rattle.macho_model.specs.Rows.{is_supported, share_byte, are_pair}
use Rattle.macho_model_checks.proofs.Examples.{words8, words, halves, name16, object_b}
use Rattle.macho_model_checks.proofs.ExampleLinks.{entry, text_object, asks, defines_strongly, defines_weakly, finds_addresses, asks_too_much, resolving, doubled, linked_b, finding, unsupported, section, symbol}

-- A name and its definition.
pub record Answer : Type 0 where
  pub name : List ℕ
  pub definition : Option Definition

-- the strong definition before a weak one and a library's, a weak one before a common, the first of two weak ones, the
-- first of the greatest commons, then a library, then the image for its handle
abbrev pub answers : List Answer
answers =
    record { name = codes "_f"; definition = Some (Symbol (symbol 1 0)) }
    ∷ record { name = codes "_g"; definition = Some (Symbol (symbol 1 1)) }
    ∷ record { name = codes "_h"; definition = Some (Symbol (symbol 1 3)) }
    ∷ record { name = codes "_c"; definition = Some (Symbol (symbol 1 2)) }
    ∷ record { name = codes "_exit"; definition = Some (Library 3) }
    ∷ record { name = codes "___dso_handle"; definition = Some ImageBase }
    ∷ record { name = codes "_nope"; definition = None }
    ∷ []

pub each_name_has_its_definition : AllByRecursion (λ a. definition_of resolving a.name ≡ a.definition) answers
unfolding header_of commands_from commands_of commands_end num_sections section_place section_at section_bytes symtab_of
    num_symbols symbol_place symbol_at strings_of symbol_name relocation_place relocation_at sections_of carried_of template_exponent
    placed_exponent symbols_of strong_of commons_of greatest_of libraries_with definition_of chosen_commons
    initializer_sections unwind_sections carried_relocations initializer_relocations personality_relocations imports_of libraries_needed
    target_of target_of_relocation slots_of stubs_of
    fields_of is_supported plain_entries all_entries entries_of le_at le_bytes row_bytes reading words8 words halves name16
    object_b entry text_object asks defines_strongly defines_weakly finds_addresses asks_too_much
each_name_has_its_definition = (refl, (refl, (refl, (refl, (refl, (refl, (refl, tt)))))))

-- the common of 8 bytes is the one chosen, and so has the number 0
pub one_common_is_chosen : chosen_commons resolving ≡ symbol 1 2 ∷ []
unfolding header_of commands_from commands_of commands_end num_sections section_place section_at section_bytes symtab_of
    num_symbols symbol_place symbol_at strings_of symbol_name relocation_place relocation_at sections_of carried_of template_exponent
    placed_exponent symbols_of strong_of commons_of greatest_of libraries_with definition_of chosen_commons
    initializer_sections unwind_sections carried_relocations initializer_relocations personality_relocations imports_of libraries_needed
    target_of target_of_relocation slots_of stubs_of
    fields_of is_supported plain_entries all_entries entries_of le_at le_bytes row_bytes reading words8 words halves name16
    object_b entry text_object asks defines_strongly defines_weakly finds_addresses asks_too_much
one_common_is_chosen = refl

-- a symbol leads where its name is defined: the function, the weak definition, the chosen common
pub symbols_lead_to : map (target_of resolving) (symbol 0 0 ∷ symbol 0 1 ∷ symbol 0 2 ∷ []) ≡ target.Section 1 0 4 ∷ target.Section 1 0 0
    ∷ target.Common 0 ∷ []
unfolding header_of commands_from commands_of commands_end num_sections section_place section_at section_bytes symtab_of
    num_symbols symbol_place symbol_at strings_of symbol_name relocation_place relocation_at sections_of carried_of template_exponent
    placed_exponent symbols_of strong_of commons_of greatest_of libraries_with definition_of chosen_commons
    initializer_sections unwind_sections carried_relocations initializer_relocations personality_relocations imports_of libraries_needed
    target_of target_of_relocation slots_of stubs_of
    fields_of is_supported plain_entries all_entries entries_of le_at le_bytes row_bytes reading words8 words halves name16
    object_b entry text_object asks defines_strongly defines_weakly finds_addresses asks_too_much
symbols_lead_to = refl

-- two strong definitions of one name
pub two_strong_ones : strong_of doubled (codes "_f") ≡ symbol 0 0 ∷ symbol 2 0 ∷ []
unfolding header_of commands_from commands_of commands_end num_sections section_place section_at section_bytes symtab_of
    num_symbols symbol_place symbol_at strings_of symbol_name relocation_place relocation_at sections_of carried_of template_exponent
    placed_exponent symbols_of strong_of commons_of greatest_of libraries_with definition_of chosen_commons
    initializer_sections unwind_sections carried_relocations initializer_relocations personality_relocations imports_of libraries_needed
    target_of target_of_relocation slots_of stubs_of
    fields_of is_supported plain_entries all_entries entries_of le_at le_bytes row_bytes reading words8 words halves name16
    object_b entry text_object asks defines_strongly defines_weakly finds_addresses asks_too_much
two_strong_ones = refl

-- all four sections are carried
pub carried_sections : carried_of linked_b ≡ section 0 0 ∷ section 0 1 ∷ section 0 2 ∷ section 0 3 ∷ []
unfolding header_of commands_from commands_of commands_end num_sections section_place section_at section_bytes symtab_of
    num_symbols symbol_place symbol_at strings_of symbol_name relocation_place relocation_at sections_of carried_of template_exponent
    placed_exponent symbols_of strong_of commons_of greatest_of libraries_with definition_of chosen_commons
    initializer_sections unwind_sections carried_relocations initializer_relocations personality_relocations imports_of libraries_needed
    target_of target_of_relocation slots_of stubs_of
    fields_of is_supported plain_entries all_entries entries_of le_at le_bytes row_bytes reading words8 words halves name16
    object_b entry text_object asks defines_strongly defines_weakly finds_addresses asks_too_much
carried_sections = refl

-- a difference of 4 bytes and its subtrahend are one field, with the content as a signed addend; a pointer is another
pub fields_of_data : fields_of linked_b (section 0 1) ≡
    record {
      relocation = 1;
      offset = 0;
      width = 4;
      type = 0;
      target = target.Section 0 1 0;
      subtrahend = Some (target.Section 0 0 0);
      addend = 2 ^ 64 - 4;
    }
    ∷ record { relocation = 2; offset = 8; width = 8; type = 0; target = target.Common 0; subtrahend = None; addend = 0 }
    ∷ []
unfolding header_of commands_from commands_of commands_end num_sections section_place section_at section_bytes symtab_of
    num_symbols symbol_place symbol_at strings_of symbol_name relocation_place relocation_at sections_of carried_of template_exponent
    placed_exponent symbols_of strong_of commons_of greatest_of libraries_with definition_of chosen_commons
    initializer_sections unwind_sections carried_relocations initializer_relocations personality_relocations imports_of libraries_needed
    target_of target_of_relocation slots_of stubs_of
    fields_of is_supported plain_entries all_entries entries_of le_at le_bytes row_bytes reading words8 words halves name16
    object_b entry text_object asks defines_strongly defines_weakly finds_addresses asks_too_much
fields_of_data = refl

-- a call of a library's function
pub fields_of_text : fields_of linked_b (section 0 0) ≡
    record { relocation = 0; offset = 0; width = 4; type = 2; target = target.Import 0; subtrahend = None; addend = 0 } ∷ []
unfolding header_of commands_from commands_of commands_end num_sections section_place section_at section_bytes symtab_of
    num_symbols symbol_place symbol_at strings_of symbol_name relocation_place relocation_at sections_of carried_of template_exponent
    placed_exponent symbols_of strong_of commons_of greatest_of libraries_with definition_of chosen_commons
    initializer_sections unwind_sections carried_relocations initializer_relocations personality_relocations imports_of libraries_needed
    target_of target_of_relocation slots_of stubs_of
    fields_of is_supported plain_entries all_entries entries_of le_at le_bytes row_bytes reading words8 words halves name16
    object_b entry text_object asks defines_strongly defines_weakly finds_addresses asks_too_much
fields_of_text = refl

-- it needs the import, a stub and a slot, and the library
pub needs_of_a_call : (imports_of linked_b ≡ codes "_exit" ∷ []) × (stubs_of linked_b ≡ target.Import 0 ∷ [])
    × (slots_of linked_b ≡ target.Import 0 ∷ [])
    × (libraries_needed linked_b ≡ codes "/usr/lib/libSystem.B.dylib" ∷ [])
unfolding header_of commands_from commands_of commands_end num_sections section_place section_at section_bytes symtab_of
    num_symbols symbol_place symbol_at strings_of symbol_name relocation_place relocation_at sections_of carried_of template_exponent
    placed_exponent symbols_of strong_of commons_of greatest_of libraries_with definition_of chosen_commons
    initializer_sections unwind_sections carried_relocations initializer_relocations personality_relocations imports_of libraries_needed
    target_of target_of_relocation slots_of stubs_of
    fields_of is_supported plain_entries all_entries entries_of le_at le_bytes row_bytes reading words8 words halves name16
    object_b entry text_object asks defines_strongly defines_weakly finds_addresses asks_too_much
needs_of_a_call = (refl, refl, refl, refl)

-- an addend in front of a page or an offset is part of its field
pub fields_with_addends : fields_of finding (section 0 0) ≡
    record { relocation = 1; offset = 0; width = 4; type = 3; target = target.Section 0 0 20; subtrahend = None; addend = 2 ^ 64 - 4 }
    ∷ record { relocation = 3; offset = 4; width = 4; type = 4; target = target.Section 0 0 20; subtrahend = None; addend = 16 }
    ∷ record { relocation = 4; offset = 8; width = 4; type = 5; target = target.Import 0; subtrahend = None; addend = 0 }
    ∷ record { relocation = 5; offset = 12; width = 4; type = 6; target = target.Import 0; subtrahend = None; addend = 0 }
    ∷ []
unfolding header_of commands_from commands_of commands_end num_sections section_place section_at section_bytes symtab_of
    num_symbols symbol_place symbol_at strings_of symbol_name relocation_place relocation_at sections_of carried_of template_exponent
    placed_exponent symbols_of strong_of commons_of greatest_of libraries_with definition_of chosen_commons
    initializer_sections unwind_sections carried_relocations initializer_relocations personality_relocations imports_of libraries_needed
    target_of target_of_relocation slots_of stubs_of
    fields_of is_supported plain_entries all_entries entries_of le_at le_bytes row_bytes reading words8 words halves name16
    object_b entry text_object asks defines_strongly defines_weakly finds_addresses asks_too_much
fields_with_addends = refl

-- a load of a slot needs no stub
pub needs_of_a_load : (slots_of finding ≡ target.Import 0 ∷ []) × (stubs_of finding ≡ [])
unfolding header_of commands_from commands_of commands_end num_sections section_place section_at section_bytes symtab_of
    num_symbols symbol_place symbol_at strings_of symbol_name relocation_place relocation_at sections_of carried_of template_exponent
    placed_exponent symbols_of strong_of commons_of greatest_of libraries_with definition_of chosen_commons
    initializer_sections unwind_sections carried_relocations initializer_relocations personality_relocations imports_of libraries_needed
    target_of target_of_relocation slots_of stubs_of
    fields_of is_supported plain_entries all_entries entries_of le_at le_bytes row_bytes reading words8 words halves name16
    object_b entry text_object asks defines_strongly defines_weakly finds_addresses asks_too_much
needs_of_a_load = (refl, refl)

-- all of them are supported, and an addend and what it stands in front of are a pair
pub supported_ones : map (is_supported finding (section 0 0)) (0 ∷ 1 ∷ 2 ∷ 3 ∷ 4 ∷ 5 ∷ []) ≡ true ∷ true ∷ true ∷ true ∷ true ∷ true ∷ []
unfolding header_of commands_from commands_of commands_end num_sections section_place section_at section_bytes symtab_of
    num_symbols symbol_place symbol_at strings_of symbol_name relocation_place relocation_at sections_of carried_of template_exponent
    placed_exponent symbols_of strong_of commons_of greatest_of libraries_with definition_of chosen_commons
    initializer_sections unwind_sections carried_relocations initializer_relocations personality_relocations imports_of libraries_needed
    target_of target_of_relocation slots_of stubs_of
    fields_of is_supported plain_entries all_entries entries_of le_at le_bytes row_bytes reading words8 words halves name16
    object_b entry text_object asks defines_strongly defines_weakly finds_addresses asks_too_much
supported_ones = refl

pub pairs : (share_byte finding (section 0 0) 0 1 ≡ true) × (are_pair finding (section 0 0) 0 1 ≡ true)
    × (share_byte finding (section 0 0) 1 2 ≡ false)
unfolding header_of commands_from commands_of commands_end num_sections section_place section_at section_bytes symtab_of
    num_symbols symbol_place symbol_at strings_of symbol_name relocation_place relocation_at sections_of carried_of template_exponent
    placed_exponent symbols_of strong_of commons_of greatest_of libraries_with definition_of chosen_commons
    initializer_sections unwind_sections carried_relocations initializer_relocations personality_relocations imports_of libraries_needed
    target_of target_of_relocation slots_of stubs_of
    fields_of is_supported plain_entries all_entries entries_of le_at le_bytes row_bytes reading words8 words halves name16
    object_b entry text_object asks defines_strongly defines_weakly finds_addresses asks_too_much
pairs = (refl, refl, refl)

-- A branch over an ADRP, an addend in front of a load of a slot, and a load into register 31 that would have to become
-- an ADD are not; a load behind the unfit addend, by itself, is.
pub unsupported_ones : map (is_supported unsupported (section 0 0)) (0 ∷ 1 ∷ 2 ∷ 3 ∷ []) ≡ false ∷ false ∷ true ∷ false ∷ []
unfolding header_of commands_from commands_of commands_end num_sections section_place section_at section_bytes symtab_of
    num_symbols symbol_place symbol_at strings_of symbol_name relocation_place relocation_at sections_of carried_of template_exponent
    placed_exponent symbols_of strong_of commons_of greatest_of libraries_with definition_of chosen_commons
    initializer_sections unwind_sections carried_relocations initializer_relocations personality_relocations imports_of libraries_needed
    target_of target_of_relocation slots_of stubs_of
    fields_of is_supported plain_entries all_entries entries_of le_at le_bytes row_bytes reading words8 words halves name16
    object_b entry text_object asks defines_strongly defines_weakly finds_addresses asks_too_much
unsupported_ones = refl

-- two fields that share bytes and are no pair
pub overlap : (share_byte unsupported (section 0 0) 3 4 ≡ true) × (are_pair unsupported (section 0 0) 3 4 ≡ false)
unfolding header_of commands_from commands_of commands_end num_sections section_place section_at section_bytes symtab_of
    num_symbols symbol_place symbol_at strings_of symbol_name relocation_place relocation_at sections_of carried_of template_exponent
    placed_exponent symbols_of strong_of commons_of greatest_of libraries_with definition_of chosen_commons
    initializer_sections unwind_sections carried_relocations initializer_relocations personality_relocations imports_of libraries_needed
    target_of target_of_relocation slots_of stubs_of
    fields_of is_supported plain_entries all_entries entries_of le_at le_bytes row_bytes reading words8 words halves name16
    object_b entry text_object asks defines_strongly defines_weakly finds_addresses asks_too_much
overlap = (refl, refl)
