-- More changes of the image of a link with a call and a pointer, and of its placement, each of which breaks a piece of the promise.
--
-- `RowsCall` changes flags, UUID, symbols, imports, libraries and tables; here exports, signature, entry, unwind range and section headers.
use Rattle.std.proofs.Common.{◌≡◌, ℕ, ◌+◌, List, [], ◌∷◌, refl, sym, subst, arith, zero, suc, length, get_or, map, ap, ◌∙◌, take, Some}
use Rattle.macho_bytes.specs.Numbers.{le_at, le_bytes, be_at, be_bytes, row_bytes}
use Rattle.macho_bytes.specs.Layouts.{reading}
use Rattle.macho_model.specs.declared.placed.PlacedSection.{PlacedSection}
use Rattle.macho_model.specs.Commands.{header_of, commands_from, commands_of, commands_end}
use Rattle.macho_model.specs.Objects.{num_sections, section_place, section_at, section_bytes, symtab_of, num_symbols, symbol_place, symbol_at, strings_of, symbol_name, relocation_place, relocation_at}
use Rattle.macho_model.specs.ExportLists.{plain_entries, all_entries, entries_of}
use Rattle.macho_model.specs.Links.{sections_of, carried_of, template_exponent, placed_exponent}
use Rattle.macho_model.specs.Resolution.{symbols_of, strong_of, commons_of, greatest_of, libraries_with, definition_of, chosen_commons}
use Rattle.macho_model.specs.steps.Resolved.{weak_of}
use Rattle.macho_model.specs.Needs.{initializer_sections, unwind_sections, imports_of, libraries_needed, carried_relocations, initializer_relocations, personality_relocations}
use Rattle.macho_model.specs.Targets.{target_of, target_of_relocation, slots_of, stubs_of, target_of_name}
use Rattle.macho_model.specs.Fields.{fields_of}
use Rattle.macho_model.specs.Segments.{other_segments, segment_names_of, output_keys_of, segments_for}
use Rattle.macho_model.specs.Placement.{Placed}
use Rattle.macho_model.specs.Images.{segments_of, mapped_segments, base_of, libraries_of, tables_of, tries_of, signatures_of, symbol_tables_of, string_tables_of, entries_of_file, Table}
use Rattle.macho_model.specs.Fixups.{own_entries, import_entries_of, entries_have_addends}
use Rattle.macho_model_checks.proofs.Examples.{words8, words, halves, name16, changed}
use Rattle.macho_model_checks.proofs.ExampleLinks.{entry}
use Rattle.macho_model_checks.proofs.ExampleCall.{calls_exit, calling, data_placed, placed_call, head_of_call, fixups_of_call, tables_of_call, big_words, signature_of_call, call_image, counts_of_call, code_placed, range}
use Rattle.std.specs.Prelude.{codes}
use Rattle.std.specs.FinMap.{empty}
use Rattle.macho_model.specs.steps.Outputs.{output_sections_of, output_sections_for, pieces_of}
use Rattle.macho_model.specs.Agreement.{EntryAgrees}
use Rattle.macho_model.specs.Signature.{IsSigned}
use Rattle.macho_model.specs.SymbolTable.{table_symbols}
use Rattle.macho_model.specs.ImportTable.{fixup_count, names_text}
use Rattle.macho_bytes.specs.Uleb.{uleb_at}
use Rattle.macho_model.specs.declared.targets.Target.{Target}
use Rattle.macho_trie.specs.Exports.{Exported, as_value, as_reexport}
use Rattle.macho_trie.specs.Nodes.{Node, node_at, terminal_at, terminal_between, export_in, edges_at, edge_at, ended_name}
use Rattle.macho_trie.specs.Lookup.{Finds, trie_finds}
use Rattle.macho_promise.specs.TrieSays.{table_bytes, TrieSays}
use Rattle.macho_model.specs.Order.{HaveRoom}
use Rattle.macho_records.specs.declared.header.SectionHeader.{SectionHeader}
use Rattle.macho_model.specs.Stands.{IsAt}
use Rattle.macho_promise.specs.Promise.{IsLaidOut}
use Rattle.macho_model_checks.proofs.RowsCallTrie.{trie_table, first_node, edge_main, exported_is}
use Rattle.macho_model.specs.declared.targets.Target.TheVariants as target
use Rattle.macho_trie.specs.Lookup as lookup
use Rattle.macho_model.proofs.Outputs.{headers_same}

-- of the exports trie the value: `_main` is found four bytes behind its place
unfoldable pub with_another_export : List ℕ
with_another_export = changed call_image 0xc0db (0x9c ∷ [])

unfoldable pub other_trie : List ℕ
other_trie = 0x00 ∷ 0x01 ∷ 0x5f ∷ 0x6d ∷ 0x61 ∷ 0x69 ∷ 0x6e ∷ 0x00 ∷ 0x09 ∷ 0x03 ∷ 0x00 ∷ 0x9c ∷ 0x07 ∷ 0x00 ∷ []

other_trie_there : (tries_of with_another_export ≡ trie_table ∷ []) × (table_bytes with_another_export trie_table ≡ other_trie)
unfolding changed with_another_export other_trie commands_end commands_of commands_from header_of reading le_at row_bytes le_bytes words8
    words halves name16 entry calls_exit head_of_call fixups_of_call tables_of_call be_at be_bytes big_words signature_of_call call_image
    segments_of mapped_segments base_of libraries_of tables_of tries_of signatures_of symbol_tables_of string_tables_of entries_of_file
other_trie_there = (refl, refl)

abbrev other_last : Node
other_last = record { export = Some (as_value 0 0x39c); edges = [] }

other_nodes : (node_at other_trie 0 ≡ Some first_node) × (node_at other_trie 9 ≡ Some other_last)
unfolding other_trie node_at terminal_at terminal_between export_in edges_at edge_at ended_name uleb_at
other_nodes = (refl, refl)

finds_other : trie_finds other_trie (codes "_main") (as_value 0 0x39c)
finds_other = lookup.Finds.along 0 (codes "_main") first_node edge_main other_nodes.0 refl
    (lookup.Finds.here 9 [] other_last other_nodes.1 refl refl)

value_in : Exported → ℕ
value_in (as_value flags address) = address
value_in (as_reexport flags ordinal name) = 0

pub export_is_asked : TrieSays calling with_another_export placed_call → ⊥
unfolding value_in
export_is_asked says =
    let table : trie_table ≡ says.table = ap (λ (ts : List Table). get_or ts 0 says.table) (sym other_trie_there.0 ∙ says.one) in
    let bytes : table_bytes with_another_export says.table ≡ other_trie =
    ap (table_bytes with_another_export) (sym table) ∙ other_trie_there.1 in
    let exported = (says.finds (codes "_main") (as_value 0 0x39c)).0
    (subst (λ (ns : List ℕ). trie_finds ns (codes "_main") (as_value 0 0x39c)) (sym bytes) finds_other) in
    let value : 0x39c ≡ 0x398 = ap value_in (exported_is (codes "_main") (as_value 0 0x39c) exported).1 in
    absurd (omega (arith, value))

-- of the signature its last byte
unfoldable pub without_last : List ℕ
without_last = take 49947 call_image

without_last_facts : (signatures_of without_last ≡ record { at = 0xc100; size = 0x21c } ∷ []) × (length without_last ≡ 49947)
unfolding without_last commands_end commands_of commands_from header_of reading le_at row_bytes le_bytes words8 words halves name16 entry
    calls_exit head_of_call fixups_of_call tables_of_call be_at be_bytes big_words signature_of_call call_image segments_of
    mapped_segments base_of libraries_of tables_of tries_of signatures_of symbol_tables_of string_tables_of entries_of_file
without_last_facts = (refl, refl)

pub end_is_asked : IsSigned calling without_last → ⊥
end_is_asked signed =
    let same : record { at = 0xc100; size = 0x21c } ≡ record { at = signed.limit; size = signed.size } =
    ap (λ (ts : List Table). get_or ts 0 (record { at = signed.limit; size = signed.size })) (sym without_last_facts.0 ∙ signed.one) in
    let limit : 0xc100 ≡ signed.limit = ap (λ (t : Table). t.at) same in
    let size : 0x21c ≡ signed.size = ap (λ (t : Table). t.size) same in
    absurd (omega (arith, limit, size, signed.ends, without_last_facts.1))

-- of the load commands the entry, which is told an instruction behind
unfoldable pub with_another_entry : List ℕ
with_another_entry = changed call_image 720 (words (0x39c ∷ []))

entry_facts : (entries_of_file with_another_entry ≡ 0x39c ∷ []) × (base_of with_another_entry ≡ 0x100000000)
    × (target_of_name calling calling.entry ≡ target.Section 0 0 0)
unfolding changed with_another_entry commands_end commands_of commands_from header_of reading le_at row_bytes le_bytes words8 words halves
    name16 entry calls_exit head_of_call fixups_of_call tables_of_call be_at be_bytes big_words signature_of_call call_image segments_of
    mapped_segments base_of libraries_of tables_of tries_of signatures_of symbol_tables_of string_tables_of entries_of_file
    num_sections section_place section_at section_bytes symtab_of num_symbols symbol_place symbol_at strings_of symbol_name
    relocation_place relocation_at sections_of carried_of template_exponent placed_exponent symbols_of strong_of weak_of
    commons_of greatest_of libraries_with definition_of chosen_commons initializer_sections unwind_sections carried_relocations
    initializer_relocations personality_relocations
    imports_of libraries_needed target_of target_of_relocation slots_of stubs_of fields_of plain_entries all_entries
    entries_of other_segments segment_names_of output_keys_of own_entries import_entries_of entries_have_addends
    fixup_count names_text
entry_facts = (refl, refl, refl)

pub code_is_at : (x : ℕ) → IsAt calling placed_call 0 empty (target.Section 0 0 0) x → x ≡ 0x100000398
code_is_at x (address, (q, (zero, within, is), file, number, at), sum) =
    let place : 0x100000398 ≡ address = ap (λ (r : PlacedSection). r.address) is ∙ at in omega (arith, place, sum)
code_is_at x (address, (q, (suc zero, within, is), file, number, at), sum) =
    absurd (let no : 1 ≡ 0 = ap (λ (r : PlacedSection). r.section) is ∙ number in omega (arith, no))
code_is_at x (address, (q, (suc (suc k), within, is), file, number, at), sum) = absurd (omega (arith, within))

pub entry_is_asked : EntryAgrees calling with_another_entry placed_call → ⊥
entry_is_asked agrees =
    let enters = agrees.executable refl in
    let offset : 0x39c ≡ enters.0 = ap (λ (ns : List ℕ). get_or ns 0 enters.0) (sym entry_facts.0 ∙ enters.1) in
    let there : IsAt calling placed_call 0 empty (target.Section 0 0 0) (base_of with_another_entry + enters.0 + 0) =
    subst (λ (t : Target). IsAt calling placed_call 0 empty t (base_of with_another_entry + enters.0 + 0)) entry_facts.2
    (enters.2 0 empty) in
    let place = code_is_at (base_of with_another_entry + enters.0 + 0) there in
    absurd (omega (arith, offset, place, entry_facts.1))

-- of the placement the range of unwind information: without entries it has no room
abbrev pub with_range : Placed
with_range = record placed_call { unwind = range 0x1000003ac 0x1000003b0 }

pub range_is_asked : HaveRoom counts_of_call with_range → ⊥
range_is_asked rooms = omega (arith, rooms.unwind)

-- of the placement the place of the data, which its section header tells otherwise
abbrev pub data_higher : Placed
data_higher = record placed_call { sections = code_placed ∷ record data_placed { address = 0x100008008 } ∷ [] }

header_there : map (λ (h : SectionHeader). h.addr) (output_sections_for calling counts_of_call data_higher)
    ≡ 0x100000398 ∷ 0x1000003a0 ∷ 0x100004000 ∷ 0x100008008 ∷ []
unfolding commands_end commands_of commands_from header_of reading le_at row_bytes le_bytes words8 words halves name16 entry calls_exit
    head_of_call fixups_of_call tables_of_call be_at be_bytes big_words signature_of_call call_image num_sections section_place
    section_at section_bytes symtab_of num_symbols symbol_place symbol_at strings_of symbol_name relocation_place relocation_at
    sections_of carried_of template_exponent placed_exponent symbols_of strong_of commons_of greatest_of libraries_with
    definition_of chosen_commons initializer_sections unwind_sections carried_relocations initializer_relocations personality_relocations
    imports_of libraries_needed target_of
    target_of_relocation slots_of stubs_of fields_of plain_entries all_entries entries_of other_segments segment_names_of
    output_keys_of table_symbols output_sections_of output_sections_for pieces_of
    segments_for
header_there = refl

pub header_is_asked : IsLaidOut calling counts_of_call data_higher → ⊥
header_is_asked laid =
    let addresses =
    ap (λ (hs : List SectionHeader). map (λ (h : SectionHeader). h.addr) hs)
    (laid.sections ∙ headers_same calling counts_of_call data_higher) ∙ header_there in
    let address : 0x100008000 ≡ 0x100008008 = ap (λ (ns : List ℕ). get_or ns 3 0) addresses in
    absurd (omega (arith, address))
