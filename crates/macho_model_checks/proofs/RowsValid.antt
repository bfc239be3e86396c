-- Five small links are valid, and each part of that is broken by a link, or by sizes, that differ from one of them: alone, save
-- that a name without definition takes its relocation with it. By computing the tests of each part from the bytes.
use Rattle.std.proofs.Common.{◌≡◌, ℕ, ◌+◌, ◌^◌, ◌/◌, ◌||◌, false, arith, List, [], ◌∷◌, ◌++◌, length, refl}
use Rattle.std.specs.Prelude.{codes, All}
use Rattle.std.specs.List.{AllByRecursion}
use Rattle.std.proofs.lemmas.List.Elements.{All-weaker, All-from_recursion}
use Rattle.macho_bytes.specs.Numbers.{le_at, le_bytes, row_bytes}
use Rattle.macho_bytes.specs.Layouts.{reading}
use Rattle.macho_model.specs.declared.placed.Counts.{Counts}
use Rattle.macho_model.specs.Commands.{header_of, commands_from, commands_of, commands_end}
use Rattle.macho_model.specs.Objects.{num_sections, section_place, section_at, section_bytes, symtab_of, num_symbols, symbol_place, symbol_at, strings_of, symbol_name, relocation_place, relocation_at}
use Rattle.macho_model.specs.ExportLists.{plain_entries, all_entries, entries_of}
use Rattle.macho_model.specs.Links.{Link, Object, sections_of, carried_of, template_exponent, placed_exponent}
use Rattle.macho_model.specs.Resolution.{symbols_of, strong_of, commons_of, greatest_of, libraries_with, definition_of, chosen_commons}
use Rattle.macho_model.specs.Needs.{initializer_sections, unwind_sections, imports_of, libraries_needed, carried_relocations, initializer_relocations, personality_relocations}
use Rattle.macho_model.specs.Targets.{target_of, target_of_relocation, slots_of, stubs_of}
use Rattle.macho_model.specs.Fields.{fields_of}
use Rattle.macho_model.specs.Rows.{is_supported}
use Rattle.macho_model.specs.Segments.{other_segments, segment_rank, segment_names_of, output_keys_of, output_count}
use Rattle.macho_model.specs.WrittenSum.{content_sum, command_sum, unsigned_sum, written_sum_of}
use Rattle.macho_model.specs.Consumed.{personality_targets, entries_of_link}
use Rattle.macho_model.specs.Valid.{IsValid}
use Rattle.macho_model_checks.proofs.Examples.{words8, words, halves, name16, object_a}
use Rattle.macho_model_checks.proofs.ExampleLinks.{entry, text_object, executable_of}
use Rattle.macho_model_checks.proofs.ExamplePlacement.{link_a, counts_a}
use Rattle.macho_model_checks.specs.ValidParts.{ValidPart, Single, Used, Listed, Begun, Supported, NonOverlapping, Fitting, Initializers, Slots, AtSlots, Whole, Unwind, Limits, Sum, ValidKeeps}
use Rattle.macho_model_checks.proofs.ValidTests.{valid_verdict, verdict_but, is_part, valid_answer, shows_valid_test, is_valid_by_tests, ValidBreaksAlone, valid_breaks_alone}
use Rattle.macho_bytes.proofs.Bools.{true_or_false}

-- a global symbol at the start of the first section, and its name
abbrev pub main_entry : List ℕ
main_entry = entry 1 0x0f 1 0 0

abbrev pub main_name : List ℕ
main_name = 0 ∷ codes "_main" ++ 0 ∷ []

-- a call of `_f`, which nothing defines
unfoldable pub calls_nothing : List ℕ
calls_nothing =
    text_object (words (0x94000000 ∷ 0xd65f03c0 ∷ [])) (words (0 ∷ 0x2d000001 ∷ [])) (main_entry ++ entry 7 0x01 0 0 0)
    (main_name ++ codes "_f" ++ 0 ∷ [])

-- instructions and relocations of `_main` at a place
unfoldable pub calls_main : List ℕ → List ℕ → ℕ → List ℕ
calls_main instructions relocations place = text_object (words instructions) (words relocations) (entry 1 0x0f 1 0 place) main_name

-- An object with a second section, of a name, a segment, flags, content and relocations: header 32, segment 232, symbol table
-- 24, then from 288 on the text of 8 bytes, the content, relocations, one symbol and the strings.
unfoldable pub data_object : List ℕ → List ℕ → ℕ → List ℕ → List ℕ → List ℕ
data_object name segment flags content relocations =
    words (0xfeedfacf ∷ 0x0100000c ∷ 0 ∷ 1 ∷ 2 ∷ 256 ∷ 0x2000 ∷ 0 ∷ [])
    ++ words (0x19 ∷ 232 ∷ []) ++ name16 [] ++ words8 (0 ∷ (8 + length content) ∷ 288 ∷ (8 + length content) ∷ [])
    ++ words (7 ∷ 7 ∷ 2 ∷ 0 ∷ [])
    ++ name16 (codes "__text") ++ name16 (codes "__TEXT") ++ words8 (0 ∷ 8 ∷ []) ++ words (288 ∷ 2 ∷ 0 ∷ 0 ∷ 0x80000400 ∷ 0 ∷ 0 ∷ 0 ∷ [])
    ++ name16 name ++ name16 segment ++ words8 (8 ∷ length content ∷ [])
    ++ words (296 ∷ 3 ∷ (296 + length content) ∷ (length relocations / 8) ∷ flags ∷ 0 ∷ 0 ∷ 0 ∷ [])
    ++ words (2 ∷ 24 ∷ (296 + length content + length relocations) ∷ 1 ∷ (312 + length content + length relocations) ∷ 7 ∷ [])
    ++ words (0x52800000 ∷ 0xd65f03c0 ∷ []) ++ content ++ relocations ++ main_entry ++ main_name

-- a pointer in a segment, initializers, and unwind entries, by content and relocations
unfoldable pub data_pointer : List ℕ → List ℕ → List ℕ → List ℕ
data_pointer segment content relocations = data_object (codes "__data") segment 0 (words8 content) (words relocations)

unfoldable pub initializers_object : ℕ → List ℕ → List ℕ → List ℕ
initializers_object flags content relocations = data_object (codes "__mod_init_func") (codes "__DATA") flags (words8 content)
    (words relocations)

unfoldable pub unwind_object : List ℕ → List ℕ → List ℕ
unwind_object content relocations = data_object (codes "__compact_unwind") (codes "__LD") 0x02000000 content (words relocations)

-- an entry of a function at 0, by its length and encoding
unfoldable pub unwind_entry : ℕ → ℕ → List ℕ
unwind_entry size encoding = words8 (0 ∷ []) ++ words (size ∷ encoding ∷ []) ++ words8 (0 ∷ 0 ∷ [])

abbrev pub link_of_object : List ℕ → Link
link_of_object object = executable_of (Object object ∷ [])

-- THE links that are valid: the smallest one; a call; a pointer in `__DATA`; two initializers; an unwind entry.
abbrev pub valid_links : List Link
valid_links =
    link_a
    ∷ link_of_object (calls_main (0x94000000 ∷ 0xd65f03c0 ∷ []) (0 ∷ 0x2d000000 ∷ []) 0)
    ∷ link_of_object (data_pointer (codes "__DATA") (0 ∷ 0 ∷ []) (0 ∷ 0x0e000000 ∷ []))
    ∷ link_of_object (initializers_object 9 (0 ∷ 0 ∷ []) (0 ∷ 0x0e000000 ∷ 8 ∷ 0x0e000000 ∷ []))
    ∷ link_of_object (unwind_object (unwind_entry 8 0x02000000) (0 ∷ 0x06000001 ∷ []))
    ∷ []

valid_link_verdicts : AllByRecursion (λ l. valid_verdict l counts_a ≡ verdict_but (λ q. false)) valid_links
unfolding valid_verdict header_of commands_from commands_of commands_end num_sections section_place section_at section_bytes
    symtab_of num_symbols symbol_place symbol_at strings_of symbol_name relocation_place relocation_at sections_of carried_of
    template_exponent placed_exponent symbols_of strong_of commons_of greatest_of libraries_with definition_of chosen_commons
    initializer_sections unwind_sections carried_relocations initializer_relocations personality_relocations imports_of libraries_needed
    target_of target_of_relocation slots_of stubs_of
    fields_of is_supported plain_entries all_entries entries_of other_segments segment_rank segment_names_of output_keys_of
    output_count content_sum command_sum unsigned_sum written_sum_of personality_targets entries_of_link le_at le_bytes
    row_bytes reading words8 words halves name16 object_a entry text_object data_object calls_nothing calls_main
    data_pointer initializers_object unwind_object unwind_entry
valid_link_verdicts = (refl, (refl, (refl, (refl, (refl, tt)))))

pub each_link_is_valid : All (λ l. IsValid l counts_a) valid_links
each_link_is_valid =
    All-weaker (λ l. valid_verdict l counts_a ≡ verdict_but (λ q. false)) (λ l. IsValid l counts_a)
    (λ l is. is_valid_by_tests l counts_a is) valid_links
    (All-from_recursion (λ l. valid_verdict l counts_a ≡ verdict_but (λ q. false)) valid_links valid_link_verdicts)

pub a_is_valid : IsValid link_a counts_a
a_is_valid = each_link_is_valid 0 link_a (omega arith)

-- A link and sizes that differ from valid ones, and the part that they break.
pub record ValidChange : Type 0 where
  pub part : ValidPart
  pub link : Link
  pub counts : Counts

-- an executable of one object
abbrev pub alone : ValidPart → List ℕ → ValidChange
alone part object = record { part = part; link = link_of_object object; counts = counts_a }

abbrev pub valid_changes : List ValidChange
valid_changes =
    -- of the smallest link: `_main` strong in two objects; an exported name, and an entry, without a definition
    record { part = Single; link = executable_of (Object object_a ∷ Object object_a ∷ []); counts = counts_a }
    ∷ record { part = Listed; link = record link_a { export_lists = codes "_nope" ∷ [] }; counts = counts_a }
    ∷ record { part = Begun; link = record link_a { entry = codes "_x" }; counts = counts_a }
    -- of its sizes: one byte of imported names too many; padding of 1 GiB
    ∷ record { part = Limits; link = link_a; counts = record counts_a { name_bytes = 2 ^ 23 + 1 } }
    ∷ record { part = Sum; link = link_a; counts = record counts_a { padding = 2 ^ 30 } }
    -- of the call: over a `ret`; two at one branch
    ∷ alone Supported (calls_main (0xd65f03c0 ∷ 0xd65f03c0 ∷ []) (0 ∷ 0x2d000000 ∷ []) 0)
    ∷ alone NonOverlapping (calls_main (0x94000000 ∷ 0xd65f03c0 ∷ []) (0 ∷ 0x2d000000 ∷ 0 ∷ 0x2d000000 ∷ []) 0)
    -- at 2; to 2; with an addend of -2 ^ 23; an offset in a page that is no multiple of its scale
    ∷ alone Fitting (calls_main (0 ∷ 0x00009400 ∷ []) (2 ∷ 0x2d000000 ∷ []) 0)
    ∷ alone Fitting (calls_main (0x94000000 ∷ 0xd65f03c0 ∷ []) (0 ∷ 0x2d000000 ∷ []) 2)
    ∷ alone Fitting (calls_main (0x94000000 ∷ 0xd65f03c0 ∷ []) (0 ∷ 0xa4800000 ∷ 0 ∷ 0x2d000000 ∷ []) 0)
    ∷ alone Fitting (calls_main (0xf9400000 ∷ 0xd65f03c0 ∷ []) (0 ∷ 0x4c000000 ∷ []) 4)
    -- of the pointer: in `__TEXT`, where the loader may not write; at 4; past the end of its section
    ∷ alone Fitting (data_pointer (codes "__TEXT") (0 ∷ 0 ∷ []) (0 ∷ 0x0e000000 ∷ []))
    ∷ alone Fitting (data_pointer (codes "__DATA") (0 ∷ 0 ∷ []) (4 ∷ 0x0e000000 ∷ []))
    ∷ alone Fitting (data_pointer (codes "__DATA") (9 ∷ 0 ∷ []) (0 ∷ 0x0e000000 ∷ []))
    -- of the initializers: in a section of another type; one that isn't 0 before; a relocation between them
    ∷ alone Initializers (initializers_object 0 (0 ∷ 0 ∷ []) (0 ∷ 0x0e000000 ∷ 8 ∷ 0x0e000000 ∷ []))
    ∷ alone Slots (initializers_object 9 (1 ∷ 0 ∷ []) (0 ∷ 0x0e000000 ∷ 8 ∷ 0x0e000000 ∷ []))
    ∷ alone AtSlots (initializers_object 9 (0 ∷ 0 ∷ []) (0 ∷ 0x0e000000 ∷ 8 ∷ 0x0e000000 ∷ 4 ∷ 0x0e000000 ∷ []))
    -- of the unwind entry: half of it; a relocation of its length; two of its start; none; a function past its section; the entry
    -- twice; language data by a symbol; a personality's bit
    ∷ alone Whole (unwind_object (words8 (0 ∷ 8 ∷ [])) [])
    ∷ alone Unwind (unwind_object (unwind_entry 8 0x02000000) (0 ∷ 0x06000001 ∷ 8 ∷ 0x06000001 ∷ []))
    ∷ alone Unwind (unwind_object (unwind_entry 8 0x02000000) (0 ∷ 0x06000001 ∷ 0 ∷ 0x06000001 ∷ []))
    ∷ alone Unwind (unwind_object (unwind_entry 8 0x02000000) [])
    ∷ alone Unwind (unwind_object (unwind_entry 9 0x02000000) (0 ∷ 0x06000001 ∷ []))
    ∷ alone Unwind (unwind_object (unwind_entry 8 0x02000000 ++ unwind_entry 8 0x02000000) (0 ∷ 0x06000001 ∷ 32 ∷ 0x06000001 ∷ []))
    ∷ alone Unwind (unwind_object (unwind_entry 8 0x02000000) (0 ∷ 0x06000001 ∷ 24 ∷ 0x0e000000 ∷ []))
    ∷ alone Unwind (unwind_object (unwind_entry 8 0x12000000) (0 ∷ 0x06000001 ∷ []))
    ∷ []

-- what the tests say of each change
valid_verdicts : AllByRecursion (λ c. valid_verdict c.link c.counts ≡ verdict_but (is_part c.part)) valid_changes
unfolding valid_verdict header_of commands_from commands_of commands_end num_sections section_place section_at section_bytes
    symtab_of num_symbols symbol_place symbol_at strings_of symbol_name relocation_place relocation_at sections_of carried_of
    template_exponent placed_exponent symbols_of strong_of commons_of greatest_of libraries_with definition_of chosen_commons
    initializer_sections unwind_sections carried_relocations initializer_relocations personality_relocations imports_of libraries_needed
    target_of target_of_relocation slots_of stubs_of
    fields_of is_supported plain_entries all_entries entries_of other_segments segment_rank segment_names_of output_keys_of
    output_count content_sum command_sum unsigned_sum written_sum_of personality_targets entries_of_link le_at le_bytes
    row_bytes reading words8 words halves name16 object_a entry text_object data_object calls_nothing calls_main
    data_pointer initializers_object unwind_object unwind_entry
valid_verdicts = (
  refl,
  (
    refl,
    (
      refl,
      (
        refl,
        (
          refl,
          (
            refl,
            (
              refl,
              (
                refl,
                (
                  refl,
                  (
                    refl,
                    (
                      refl,
                      (
                        refl,
                        (refl, (refl, (refl, (refl, (refl, (refl, (refl, (refl, (refl, (refl, (refl, (refl, (refl, tt))))))))))))),
                      ),
                    ),
                  ),
                ),
              ),
            ),
          ),
        ),
      ),
    ),
  ),
)

-- Each change breaks its part of validity, and no other one.
pub each_valid_change_breaks_its_part : All (λ c. ValidBreaksAlone c.link c.counts c.part) valid_changes
each_valid_change_breaks_its_part =
    All-weaker (λ c. valid_verdict c.link c.counts ≡ verdict_but (is_part c.part)) (λ c. ValidBreaksAlone c.link c.counts c.part)
    (λ c is. valid_breaks_alone c.link c.counts c.part is) valid_changes
    (All-from_recursion (λ c. valid_verdict c.link c.counts ≡ verdict_but (is_part c.part)) valid_changes valid_verdicts)

-- A call of a function that no input has breaks two parts: its name isn't defined, and so the call isn't supported.
abbrev pub undefined : Link
undefined = executable_of (Object calls_nothing ∷ [])

undefined_verdict : valid_verdict undefined counts_a ≡ verdict_but (λ q. is_part Used q || is_part Supported q)
unfolding valid_verdict header_of commands_from commands_of commands_end num_sections section_place section_at section_bytes
    symtab_of num_symbols symbol_place symbol_at strings_of symbol_name relocation_place relocation_at sections_of carried_of
    template_exponent placed_exponent symbols_of strong_of commons_of greatest_of libraries_with definition_of chosen_commons
    initializer_sections unwind_sections carried_relocations initializer_relocations personality_relocations imports_of libraries_needed
    target_of target_of_relocation slots_of stubs_of
    fields_of is_supported plain_entries all_entries entries_of other_segments segment_rank segment_names_of output_keys_of
    output_count content_sum command_sum unsigned_sum written_sum_of personality_targets entries_of_link le_at le_bytes
    row_bytes reading words8 words halves name16 object_a entry text_object data_object calls_nothing calls_main
    data_pointer initializers_object unwind_object unwind_entry
undefined_verdict = refl

pub undefined_is_not_used : ValidKeeps undefined counts_a Used → ⊥
undefined_is_not_used kept =
    true_or_false _ (shows_valid_test undefined counts_a Used kept) (valid_answer undefined counts_a
    (λ q. is_part Used q || is_part Supported q) undefined_verdict Used)
