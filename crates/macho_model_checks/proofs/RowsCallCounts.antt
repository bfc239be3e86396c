-- The sizes of the link with a call and a pointer are those written out: what a placement is made with.
--
-- All but the exports trie's are computed from the link. The trie's is that of a trie in which `_main` has the greatest address: its
-- node has a flag and ten bytes of address behind the size, so 22 bytes in all; and `_main` is the one name that is exported.
use Rattle.std.proofs.Common.{◌≡◌, ℕ, ◌-◌, ◌^◌, Bool, true, false, List, [], ◌∷◌, length, None, refl, sym, subst, arith, inr}
use Rattle.std.specs.Prelude.{codes, Contains}
use Rattle.std.proofs.lemmas.List.Elements.{All-nil, All-cons}
use Rattle.macho_bytes.specs.Uleb.{groups_of, uleb_of}
use Rattle.macho_records.specs.Symbols.{is_weak_of}
use Rattle.macho_model.specs.declared.targets.Target.TheVariants as target
use Rattle.macho_model.specs.Resolution.{entry_at, symbols_of, strong_of, commons_of, greatest_of, libraries_with, definition_of, chosen_commons}
use Rattle.macho_model.specs.Targets.{target_of_name, target_of, target_of_relocation, slots_of, stubs_of}
use Rattle.macho_model.specs.Told.{ToldExport, IsToldExport, ExportsAreTold}
use Rattle.macho_model.specs.Told as told
use Rattle.macho_trie.specs.Exports.{Exported, as_value}
use Rattle.macho_trie.specs.Encoding.{says_of, tree_bytes, place_of, terminal_size}
use Rattle.macho_promise.specs.TrieSays.{IsTrieText}
use Rattle.macho_promise.specs.Sizes.{AreCounts, counts_with, commands_size}
use Rattle.macho_model_checks.proofs.Examples.{words8, words, halves, name16}
use Rattle.macho_model_checks.proofs.ExampleLinks.{entry}
use Rattle.macho_model_checks.proofs.ExampleCall.{calls_exit, calling, counts_of_call}
use Rattle.macho_model_checks.proofs.RowsCallTrie.{main_symbol, main_is_exported, named_main, main_facts, main_tree, main_edges, main_radix, main_with, one_byte, names_one, one_named, least_widths}
use Rattle.macho_bytes.specs.Numbers.{le_at, le_bytes, row_bytes}
use Rattle.macho_bytes.specs.Layouts.{reading}
use Rattle.macho_model.specs.Commands.{header_of, commands_from, commands_of, commands_end}
use Rattle.macho_model.specs.Objects.{num_sections, section_place, section_at, section_bytes, symtab_of, num_symbols, symbol_place, symbol_at, strings_of, symbol_name, relocation_place, relocation_at}
use Rattle.macho_model.specs.ExportLists.{plain_entries, all_entries, entries_of}
use Rattle.macho_model.specs.Links.{sections_of, carried_of, template_exponent, placed_exponent}
use Rattle.macho_model.specs.Needs.{initializer_sections, unwind_sections, imports_of, libraries_needed, carried_relocations, initializer_relocations, personality_relocations}
use Rattle.macho_model.specs.Fields.{fields_of}
use Rattle.macho_model.specs.Rows.{is_supported}
use Rattle.macho_model.specs.Signature.{uuid_written}
use Rattle.macho_model.specs.Segments.{other_segments, segment_rank, segment_names_of, segments_for, output_keys_of, output_count}
use Rattle.macho_model.specs.OutputSections.{output_sections_of}
use Rattle.macho_model.specs.Consumed.{entries_of_link}
use Rattle.macho_model.specs.Fixups.{import_entries_of, own_entries, entries_have_addends}
use Rattle.macho_model.specs.Made.{initializers_of}
use Rattle.macho_model.specs.SymbolTable.{table_symbols}

-- the exported names: `_main`
abbrev pub told_main : ToldExport
told_main = record { name = codes "_main"; target = target.Section 0 0 0; weak = false }

main_is_strong : is_weak_of (entry_at calling main_symbol) ≡ false
unfolding header_of commands_from commands_of commands_end num_sections section_place section_at section_bytes symtab_of
    num_symbols symbol_place symbol_at strings_of symbol_name relocation_place relocation_at sections_of carried_of template_exponent
    placed_exponent symbols_of strong_of commons_of greatest_of libraries_with definition_of chosen_commons
    initializer_sections unwind_sections carried_relocations initializer_relocations personality_relocations imports_of libraries_needed
    target_of target_of_relocation slots_of stubs_of
    fields_of is_supported plain_entries all_entries entries_of other_segments segment_rank segment_names_of output_keys_of
    output_count le_at le_bytes row_bytes reading words8 words halves name16 entry counts_with commands_size uuid_written
    initializers_of import_entries_of own_entries entries_have_addends table_symbols entries_of_link
    output_sections_of segments_for calls_exit
main_is_strong = refl

pub main_is_told : IsToldExport calling (codes "_main") false
main_is_told =
    subst (λ (weak : Bool). IsToldExport calling (codes "_main") weak) main_is_strong
    (told.IsToldExport.from_object main_symbol main_is_exported)

only_main_told : (name : List ℕ) (weak : Bool) → IsToldExport calling name weak → Contains (codes "_main" ∷ []) name
only_main_told name _ (told.IsToldExport.from_object s exported) = (0, omega arith, sym (named_main name s exported.0).0)
only_main_told name _ (told.IsToldExport.from_library (imported, lists, listed)) = absurd (let no : false ≡ true = lists in cc)

pub exports_of_call : ExportsAreTold calling (told_main ∷ [])
exports_of_call = record {
  rising = λ i j d before within. absurd (omega (arith, before, within));
  each = All-cons (λ (e : ToldExport). IsToldExport calling e.name e.weak × (e.target ≡ target_of_name calling e.name)) told_main []
      (main_is_told, sym main_facts.0) (All-nil _);
  all = only_main_told;
}

-- the trie that keeps their room
abbrev pub kept_main : Exported
kept_main = as_value 0 (2 ^ 64 - 1)

unfoldable pub kept_trie : List ℕ
kept_trie =
    0x00 ∷ 0x01 ∷ 0x5f ∷ 0x6d ∷ 0x61 ∷ 0x69 ∷ 0x6e ∷ 0x00 ∷ 0x09
    ∷ 0x0b ∷ 0x00 ∷ 0xff ∷ 0xff ∷ 0xff ∷ 0xff ∷ 0xff ∷ 0xff ∷ 0xff ∷ 0xff ∷ 0xff ∷ 0x01 ∷ 0x00 ∷ []

kept_there : kept_trie
    ≡ tree_bytes (says_of (main_with kept_main)) (place_of (terminal_size (says_of (main_with kept_main))) one_byte main_tree) 0 main_tree
unfolding kept_trie place_of uleb_of groups_of
kept_there = refl

kept_long : length kept_trie ≡ 22
unfolding kept_trie
kept_long = refl

kept_text : IsTrieText (main_with kept_main) kept_trie
kept_text = inr (
  omega arith,
  record {
    symbol = None;
    below = main_edges;
    radix = main_radix;
    names = λ name s. (names_one kept_main name s, one_named kept_main name s);
    width = one_byte;
    least = least_widths kept_main;
    text = kept_there;
  },
)

pub sizes_of_call : counts_of_call ≡ counts_with calling 22
unfolding header_of commands_from commands_of commands_end num_sections section_place section_at section_bytes symtab_of
    num_symbols symbol_place symbol_at strings_of symbol_name relocation_place relocation_at sections_of carried_of template_exponent
    placed_exponent symbols_of strong_of commons_of greatest_of libraries_with definition_of chosen_commons
    initializer_sections unwind_sections carried_relocations initializer_relocations personality_relocations imports_of libraries_needed
    target_of target_of_relocation slots_of stubs_of
    fields_of is_supported plain_entries all_entries entries_of other_segments segment_rank segment_names_of output_keys_of
    output_count le_at le_bytes row_bytes reading words8 words halves name16 entry counts_with commands_size uuid_written
    initializers_of import_entries_of own_entries entries_have_addends table_symbols entries_of_link
    output_sections_of segments_for calls_exit
sizes_of_call = refl

-- THE sizes
pub call_counts : AreCounts calling counts_of_call
call_counts = record {
  trie = record { exports = told_main ∷ []; told = exports_of_call; bytes = kept_trie; trie = kept_text; long = kept_long };
  are = sizes_of_call;
}
