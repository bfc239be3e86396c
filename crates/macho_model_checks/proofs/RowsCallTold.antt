-- What is told beside the image of a link with a call and a pointer, and its sizes; and that each of these is asked for.
--
-- Told are the library, the one import, and that the loader writes two words. Another number of words, no import, and no exported name
-- don't fit the link. Nor do other sizes fit it, with one symbol more; nor does the file fit a placement whose commands have eight bytes
-- more, or whose section headers have another number in a field that nothing uses. A fixup table whose header counts an import more isn't
-- the link's: the byte of that number stands at the same place whatever the fixups are, since each number in front of it has a fixed width.
use Rattle.std.proofs.Common.{◌≡◌, ℕ, ◌+◌, ◌%◌, ◌<◌, false, List, [], ◌∷◌, ◌++◌, length, map, get_or, drop, refl, sym, ap, ◌∙◌, arith}
use Rattle.std.specs.Prelude.{codes}
use Rattle.macho_bytes.proofs.Numbers.{drop-stands}
use Rattle.macho_bytes.specs.Numbers.{le_at, le_bytes, be_at, be_bytes, row_bytes}
use Rattle.macho_bytes.specs.Layouts.{reading}
use Rattle.macho_records.specs.declared.header.SectionHeader.{SectionHeader}
use Rattle.macho_model.specs.declared.placed.Counts.{Counts}
use Rattle.macho_model.specs.Commands.{header_of, commands_from, commands_of, commands_end}
use Rattle.macho_model.specs.Objects.{num_sections, section_place, section_at, section_bytes, symtab_of, num_symbols, symbol_place, symbol_at, strings_of, symbol_name, relocation_place, relocation_at}
use Rattle.macho_model.specs.ExportLists.{plain_entries, all_entries, entries_of}
use Rattle.macho_model.specs.Links.{sections_of, carried_of, template_exponent, placed_exponent}
use Rattle.macho_model.specs.Resolution.{symbols_of, strong_of, commons_of, greatest_of, libraries_with, definition_of, chosen_commons}
use Rattle.macho_model.specs.Needs.{initializer_sections, unwind_sections, imports_of, libraries_needed, carried_relocations, initializer_relocations, personality_relocations}
use Rattle.macho_model.specs.Targets.{target_of, target_of_relocation, slots_of, stubs_of}
use Rattle.macho_model.specs.Fields.{fields_of}
use Rattle.macho_model.specs.Segments.{other_segments, segment_names_of, output_keys_of}
use Rattle.macho_model.specs.Placement.{Placed}
use Rattle.macho_model.specs.Images.{segments_of, mapped_segments, base_of, libraries_of, tables_of, tries_of, signatures_of, symbol_tables_of, string_tables_of, entries_of_file, Table}
use Rattle.macho_model.specs.Fixups.{import_entries_of, own_entries, entries_have_addends, import_format}
use Rattle.macho_model.specs.ImportTable.{fixup_count, names_text}
use Rattle.macho_model.specs.Told.{ToldImport, imports_told, IsTold, ExportsAreTold}
use Rattle.macho_model.specs.Agreement.{CommandsAgree}
use Rattle.macho_fixups.specs.declared.run.Fixup.{Fixup}
use Rattle.macho_fixups.specs.declared.run.FixupSegment.{FixupSegment}
use Rattle.macho_fixups.specs.Rows.{table_rows}
use Rattle.macho_promise.specs.Sizes.{AreCounts}
use Rattle.macho_promise.specs.FixupsSay.{FixupsSay, fixup_segments, entry_row}
use Rattle.macho_model_checks.proofs.Examples.{words8, words, halves, name16, changed}
use Rattle.macho_model_checks.proofs.ExampleLinks.{entry}
use Rattle.macho_model_checks.proofs.ExampleCall.{calls_exit, calling, counts_of_call, placed_call, head_of_call, fixups_of_call, tables_of_call, big_words, signature_of_call, call_image}
use Rattle.macho_model_checks.proofs.RowsCall.{call_agrees}
use Rattle.macho_model_checks.proofs.RowsCallCounts.{main_is_told, sizes_of_call}
use Rattle.macho_model_checks.proofs.RowsCallFixups.{entry_is_asked}

-- THE library, the import and the number of words that are told
call_facts : (libraries_needed calling ≡ codes "/usr/lib/libSystem.B.dylib" ∷ [])
    × (imports_told calling ≡ record { library = 1; name = codes "_exit" } ∷ []) × (fixup_count calling ≡ 2)
unfolding commands_end commands_of commands_from header_of reading le_at row_bytes le_bytes words8 words halves name16 entry calls_exit
    head_of_call fixups_of_call tables_of_call be_at be_bytes big_words signature_of_call call_image num_sections section_place
    section_at section_bytes symtab_of num_symbols symbol_place symbol_at strings_of symbol_name relocation_place relocation_at
    sections_of carried_of template_exponent placed_exponent symbols_of strong_of commons_of greatest_of libraries_with
    definition_of chosen_commons initializer_sections unwind_sections carried_relocations initializer_relocations personality_relocations
    imports_of libraries_needed target_of
    target_of_relocation slots_of stubs_of fields_of plain_entries all_entries entries_of other_segments segment_names_of
    output_keys_of own_entries import_entries_of entries_have_addends fixup_count names_text imports_told
call_facts = (refl, refl, refl)

pub call_told : IsTold calling (codes "/usr/lib/libSystem.B.dylib" ∷ []) (record { library = 1; name = codes "_exit" } ∷ []) 2
call_told = record { libraries_are = sym call_facts.0; imports_are = sym call_facts.1; fixups_are = sym call_facts.2 }

-- another number of words,
pub number_is_asked : (libraries : List (List ℕ)) (imports : List ToldImport) → IsTold calling libraries imports 3 → ⊥
number_is_asked libraries imports told =
    let count : 3 ≡ 2 = told.fixups_are ∙ call_facts.2 in absurd (omega (arith, count))

-- no import,
pub import_is_asked : (libraries : List (List ℕ)) (fixups : ℕ) → IsTold calling libraries [] fixups → ⊥
import_is_asked libraries fixups told =
    let count : 0 ≡ 1 = ap (λ (is : List ToldImport). length is) (told.imports_are ∙ call_facts.1) in absurd (omega (arith, count))

-- and no exported name break what is told
pub name_is_asked : ExportsAreTold calling [] → ⊥
name_is_asked told =
    let there = told.all (codes "_main") false main_is_told in
    let within : there.0 < 0 = there.1 in absurd (omega (arith, within))

-- a symbol more than there is
pub symbols_are_asked : AreCounts calling (record counts_of_call { symbols = 2 }) → ⊥
symbols_are_asked sizes =
    let count : 2 ≡ 1 = ap (λ (c : Counts). c.symbols) (sizes.are ∙ sym sizes_of_call) in absurd (omega (arith, count))

-- eight bytes of commands more than the file has
pub end_is_asked : CommandsAgree calling (record counts_of_call { commands = 216 }) call_image placed_call → ⊥
end_is_asked agrees =
    let end : 920 ≡ 928 = sym call_agrees.1 ∙ agrees.head in absurd (omega (arith, end))

-- section headers that differ from the file's in a number that nothing uses
abbrev other_headers : Placed
other_headers = record placed_call {
  output_sections = map (λ (h : SectionHeader). record h { reserved3 = 1 }) placed_call.output_sections;
}

pub headers_are_asked : CommandsAgree calling counts_of_call call_image other_headers → ⊥
headers_are_asked agrees =
    let numbers : 0 ∷ 0 ∷ 0 ∷ 0 ∷ [] ≡ 1 ∷ 1 ∷ 1 ∷ 1 ∷ [] =
    ap (λ (hs : List SectionHeader). map (λ (h : SectionHeader). h.reserved3) hs) (sym call_agrees.2 ∙ agrees.headers) in
    let number : 0 ≡ 1 = ap (λ (ns : List ℕ). get_or ns 0 0) numbers in absurd (omega (arith, number))

-- a fixup table whose header counts two imports
unfoldable pub with_another_count : List ℕ
with_another_count = changed call_image 0xc010 (words (2 ∷ []))

count_facts : (tables_of with_another_count ≡ record { at = 0xc000; size = 0xd0 } ∷ []) × (get_or (drop 0xc000 with_another_count) 16 0 ≡ 2)
unfolding changed with_another_count commands_end commands_of commands_from header_of reading le_at row_bytes le_bytes words8 words halves
    name16 entry calls_exit head_of_call fixups_of_call tables_of_call be_at be_bytes big_words signature_of_call call_image segments_of
    mapped_segments base_of libraries_of tables_of tries_of signatures_of symbol_tables_of string_tables_of entries_of_file
count_facts = (refl, refl)

count_spelled : (base : ℕ) (fixups : List Fixup) (segments : List FixupSegment) (format : ℕ) (entries : List (List ℕ)) (names rest : List ℕ)
    → get_or (table_rows base fixups segments format entries names ++ rest) 16 0 ≡ length entries % 256
unfolding table_rows row_bytes le_bytes
count_spelled base fixups segments format entries names rest = refl

pub count_is_asked : FixupsSay calling with_another_count placed_call → ⊥
count_is_asked says =
    let table : record { at = 0xc000; size = 0xd0 } ≡ says.table =
    ap (λ (ts : List Table). get_or ts 0 says.table) (sym count_facts.0 ∙ says.one) in
    let found : 2 ≡ get_or (drop says.table.at with_another_count) 16 0 =
    sym count_facts.1 ∙ ap (λ (t : Table). get_or (drop t.at with_another_count) 16 0) table in
    let entries : List (List ℕ) = map (entry_row calling) (import_entries_of calling) in
    let text : List ℕ =
    table_rows placed_call.base says.fixups (fixup_segments placed_call) (import_format calling) entries (names_text calling) in
    let told : get_or (drop says.table.at with_another_count) 16 0 ≡ length entries % 256 =
    ap (λ (bytes : List ℕ). get_or bytes 16 0) (drop-stands with_another_count (record { at = says.table.at; text = text }) says.text)
    ∙ count_spelled placed_call.base says.fixups (fixup_segments placed_call) (import_format calling) entries (names_text calling) _ in
    let count : 2 ≡ 1 = found ∙ told ∙ ap (λ (es : List (List ℕ)). length es % 256) entry_is_asked in
    absurd (omega (arith, count))
