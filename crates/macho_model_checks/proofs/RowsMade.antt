-- What a file says of two initializers and of thread-local initial values, and a change that breaks each. By computing.
use Rattle.std.proofs.Common.{◌≡◌, ℕ, suc, ◌+◌, ◌*◌, ◌-◌, ◌≤◌, List, [], ◌∷◌, ◌++◌, length, get_or, map, replicate, refl, ap, sym, ◌∙◌, arith, Some, None}
use Rattle.std.specs.Prelude.{codes}
use Rattle.std.specs.List.{range_with_len}
use Rattle.std.proofs.lemmas.List.Elements.{All-nil, All-cons}
use Rattle.macho_records.specs.declared.header.SectionHeader.{SectionHeader}
use Rattle.macho_model.specs.declared.placed.Range64.{Range64}
use Rattle.macho_model.specs.Placement.{Placed}
use Rattle.macho_model.specs.Lists.{IsNumber}
use Rattle.macho_model.specs.Addresses.{section_address, offset_in_file, address_of}
use Rattle.macho_model.specs.Agreement.{section_headers_of, section_headers_at}
use Rattle.macho_model.specs.Made.{initializers_of, FillTemplate, InitOffsetsSay, template_headers}
use Rattle.macho_model_checks.proofs.ExamplePlacement.{placed_with}
use Rattle.macho_model_checks.proofs.RowsValid.{data_object, initializers_object, link_of_object}
use Rattle.macho_bytes.specs.Numbers.{le_at, le_bytes, row_bytes}
use Rattle.macho_bytes.specs.Layouts.{reading}
use Rattle.macho_model.specs.Commands.{header_of, commands_from, commands_of, commands_end}
use Rattle.macho_model.specs.Objects.{num_sections, section_place, section_at, section_bytes, symtab_of, num_symbols, symbol_place, symbol_at, strings_of, symbol_name, relocation_place, relocation_at}
use Rattle.macho_model.specs.ExportLists.{plain_entries, all_entries, entries_of}
use Rattle.macho_model.specs.Links.{Link, sections_of, carried_of, template_exponent, placed_exponent}
use Rattle.macho_model.specs.Resolution.{symbols_of, strong_of, commons_of, greatest_of, libraries_with, definition_of, chosen_commons}
use Rattle.macho_model.specs.Needs.{initializer_sections, unwind_sections, imports_of, libraries_needed, carried_relocations, initializer_relocations, personality_relocations}
use Rattle.macho_model.specs.Targets.{target_of, target_of_relocation, slots_of, stubs_of}
use Rattle.macho_model.specs.Fields.{fields_of}
use Rattle.macho_model_checks.proofs.Examples.{words8, words, halves, name16}
use Rattle.macho_model_checks.proofs.ExampleLinks.{entry, text_object}
use Rattle.macho_model.specs.steps.Made.{TemplateHeaders}

-- two initializers, `_main` twice; its section stands at 16, the offsets at 24
abbrev pub two_initializers : Link
two_initializers = link_of_object (initializers_object 9 (0 ∷ 0 ∷ []) (0 ∷ 0x0e000000 ∷ 8 ∷ 0x0e000000 ∷ []))

abbrev pub placed_initializers : Placed
placed_initializers =
    record (placed_with 0x100000000 0x100000000 0x100000010 0x4000 None) {
      init_offsets = record
          { start = 0x100000018; end = 0x100000020 };
    }

unfoldable pub offsets_file : ℕ → List ℕ
offsets_file second = replicate 24 0 ++ words (16 ∷ second ∷ [])

pub offsets_are_said : InitOffsetsSay two_initializers (offsets_file 16) placed_initializers
unfolding header_of commands_from commands_of commands_end num_sections section_place section_at section_bytes symtab_of
    num_symbols symbol_place symbol_at strings_of symbol_name relocation_place relocation_at sections_of carried_of template_exponent
    placed_exponent symbols_of strong_of commons_of greatest_of libraries_with definition_of chosen_commons
    initializer_sections unwind_sections carried_relocations initializer_relocations personality_relocations imports_of libraries_needed
    target_of target_of_relocation slots_of stubs_of
    fields_of plain_entries all_entries entries_of le_at le_bytes row_bytes reading words8 words halves name16 entry
    text_object data_object initializers_object offset_in_file section_address initializers_of offsets_file
offsets_are_said = refl

offsets_there :
    (map (λ k. placed_initializers.base + le_at 4 (offsets_file 20)
    (offset_in_file placed_initializers (placed_initializers.init_offsets.start + 4 * k)))
    (range_with_len 0 (length (initializers_of two_initializers)))
    ≡ 0x100000010 ∷ 0x100000014 ∷ [])
    × (map (address_of placed_initializers) (initializers_of two_initializers) ≡ 0x100000010 ∷ 0x100000010 ∷ [])
unfolding header_of commands_from commands_of commands_end num_sections section_place section_at section_bytes symtab_of
    num_symbols symbol_place symbol_at strings_of symbol_name relocation_place relocation_at sections_of carried_of template_exponent
    placed_exponent symbols_of strong_of commons_of greatest_of libraries_with definition_of chosen_commons
    initializer_sections unwind_sections carried_relocations initializer_relocations personality_relocations imports_of libraries_needed
    target_of target_of_relocation slots_of stubs_of
    fields_of plain_entries all_entries entries_of le_at le_bytes row_bytes reading words8 words halves name16 entry
    text_object data_object initializers_object offset_in_file section_address initializers_of offsets_file
offsets_there = (refl, refl)

-- another offset is refused
pub offset_is_asked : InitOffsetsSay two_initializers (offsets_file 20) placed_initializers → ⊥
offset_is_asked says =
    let second : 0x100000014 ≡ 0x100000010 = ap (λ (ns : List ℕ). get_or ns 1 0) (sym offsets_there.0 ∙ says ∙ offsets_there.1) in
    absurd (omega (arith, second))

-- a file of one segment with data, initial values and zeros of thread-local variables
unfoldable pub template_file : List ℕ
template_file =
    words (0xfeedfacf ∷ 0x0100000c ∷ 0 ∷ 6 ∷ 1 ∷ 312 ∷ 0 ∷ 0 ∷ [])
    ++ words (0x19 ∷ 312 ∷ []) ++ name16 (codes "__DATA") ++ words8 (0x4000 ∷ 0x4000 ∷ 0x4000 ∷ 0x4000 ∷ []) ++ words (3 ∷ 3 ∷ 3 ∷ 0 ∷ [])
    ++ name16 (codes "__data") ++ name16 (codes "__DATA") ++ words8 (0x4000 ∷ 8 ∷ []) ++ words (0x4000 ∷ 3 ∷ 0 ∷ 0 ∷ 0 ∷ 0 ∷ 0 ∷ 0 ∷ [])
    ++ name16 (codes "__thread_data") ++ name16 (codes "__DATA") ++ words8 (0x4008 ∷ 4 ∷ [])
    ++ words (0x4008 ∷ 2 ∷ 0 ∷ 0 ∷ 0x11 ∷ 0 ∷ 0 ∷ 0 ∷ [])
    ++ name16 (codes "__thread_bss") ++ name16 (codes "__DATA") ++ words8 (0x400c ∷ 4 ∷ []) ++ words (0 ∷ 2 ∷ 0 ∷ 0 ∷ 0x12 ∷ 0 ∷ 0 ∷ 0 ∷ [])

abbrev pub values_header : SectionHeader
values_header = record {
  sectname = name16 (codes "__thread_data");
  segname = name16 (codes "__DATA");
  addr = 0x4008;
  size = 4;
  offset = 0x4008;
  align = 2;
  reloff = 0;
  nreloc = 0;
  flags = 0x11;
  reserved1 = 0;
  reserved2 = 0;
  reserved3 = 0;
}

abbrev pub zeros_header : SectionHeader
zeros_header = record values_header { sectname = name16 (codes "__thread_bss"); addr = 0x400c; offset = 0; flags = 0x12 }

abbrev pub told_template : ℕ → Placed
told_template start = placed_with 0 0 0 0x4000 (Some (record { start = start; end = 0x4010 }))

headers_there : template_headers template_file ≡ values_header ∷ zeros_header ∷ []
unfolding template_headers section_headers_of section_headers_at template_file commands_from commands_of header_of reading le_at le_bytes
    row_bytes words8 words name16
headers_there = refl

abbrev pub lies_inside : SectionHeader → Type 0
lies_inside h = (0x4008 ≤ h.addr) × (h.addr + h.size ≤ 0x4010)

pub template_is_filled : TemplateHeaders template_file (told_template 0x4008)
template_is_filled = record {
  within = rw headers_there (All-cons lies_inside values_header (zeros_header ∷ []) (omega arith, omega arith)
      (All-cons lies_inside zeros_header [] (omega arith, omega arith) (All-nil lies_inside)));
  begins = (values_header, rw headers_there (omega arith, refl), refl);
  ends = (zeros_header, rw headers_there (omega arith, refl), refl);
}

-- a template that is told from elsewhere on is refused
pub template_start_is_asked : TemplateHeaders template_file (told_template 0x4000) → ⊥
template_start_is_asked filled =
    let first : 0x4008 ≡ filled.begins.0.addr =
    ap (λ (hs : List SectionHeader). (get_or hs 0 filled.begins.0).addr) (sym headers_there)
    ∙ ap (λ (h : SectionHeader). h.addr) filled.begins.1.1 in
    absurd (omega (arith, first, filled.begins.2))

-- the first element of a list, and the last one, are where the list begins and ends
begins_with : {X : Type 0} (xs : List X) (x : X) → IsNumber xs 0 x → (behind : List X) × (xs ≡ x ∷ behind)
begins_with [] x at = absurd (omega (arith, at.0))
begins_with {X} (y ∷ xs) x at = (xs, ap (λ (z : X). z ∷ xs) at.1)

ends_with : {X : Type 0} (xs : List X) (x : X) → IsNumber xs (length xs - 1) x → (before : List X) × (xs ≡ before ++ x ∷ [])
ends_with [] x at = absurd (omega (arith, at.0))
ends_with {X} (y ∷ []) x at = ([], ap (λ (z : X). z ∷ []) at.1)
ends_with {X} (y ∷ z ∷ zs) x at =
    let number : length (y ∷ z ∷ zs) - 1 ≡ suc (length (z ∷ zs) - 1) = omega arith in
    let rest = ends_with (z ∷ zs) x (omega arith, ap (λ (n : ℕ). get_or (y ∷ z ∷ zs) n x) (sym number) ∙ at.1) in
    (y ∷ rest.0, ap (λ (ws : List X). y ∷ ws) rest.1)

-- so the headers of a template are one that begins the range and others behind it, and others and one that ends the range
pub filled_whole : (headers : List SectionHeader) (r : Range64) → FillTemplate headers r
    → ((first : SectionHeader) × (behind : List SectionHeader) × (headers ≡ first ∷ behind) × (first.addr ≡ r.start))
    × ((last : SectionHeader) × (before : List SectionHeader) × (headers ≡ before ++ last ∷ []) × (last.addr + last.size ≡ r.end))
filled_whole headers r filled =
    let front = begins_with headers filled.begins.0 filled.begins.1 in
    let back = ends_with headers filled.ends.0 filled.ends.1 in
    ((filled.begins.0, front.0, front.1, filled.begins.2), (filled.ends.0, back.0, back.1, filled.ends.2))
