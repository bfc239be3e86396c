-- A link that is owed an image, written out: one object, two functions that other files don't see, the first of which calls the
-- second.
--
-- What defines a name is a symbol of some object. Both symbols are hidden, so the link exports no name, and its trie has no bytes. Its
-- sizes are then computed, and with them the tests of each part of a valid link.
use Rattle.std.proofs.Common.{◌≡◌, ℕ, ◌&&◌, Bool, true, false, List, [], ◌∷◌, ◌++◌, map, refl, sym, ap, subst, ◌∙◌, arith, inl, All, Option, Some, None}
use Rattle.std.specs.Prelude.{codes, nat_eq, drop, if◌then◌else◌}
use Rattle.std.specs.List.{starts_with}
use Rattle.std.specs.Str.{bytes_eq}
use Rattle.std.proofs.lemmas.List.Elements.{All-nil, All-cons, All-filter}
use Rattle.macho_bytes.specs.Numbers.{le_at, le_bytes, row_bytes}
use Rattle.macho_bytes.specs.Layouts.{reading}
use Rattle.macho_records.specs.Symbols.{is_hidden_of, is_common_of}
use Rattle.macho_args.specs.Settings.{fresh}
use Rattle.macho_model.specs.declared.placed.Counts.{Counts}
use Rattle.macho_model.specs.Grammar.{IsObject}
use Rattle.macho_model.specs.Commands.{header_of, commands_from, commands_of, commands_end}
use Rattle.macho_model.specs.Objects.{num_sections, section_place, section_at, section_bytes, symtab_of, num_symbols, symbol_place, symbol_at, strings_of, symbol_name, relocation_place, relocation_at}
use Rattle.macho_model.specs.ExportLists.{plain_entries, all_entries, entries_of}
use Rattle.macho_model.specs.Links.{Link, Object, sections_of, carried_of, template_exponent, placed_exponent}
use Rattle.macho_model.specs.Resolution.{SymbolId, Definition, Symbol, Library, ImageBase, entry_at, has_name, symbols_of, strong_of, commons_of, greatest_of, libraries_with, definition_of, chosen_commons}
use Rattle.macho_model.specs.steps.Resolved.{DSO_HANDLE, first_or, is_strong, is_weak, weak_of, first_definition}
use Rattle.macho_model.specs.Needs.{initializer_sections, unwind_sections, imports_of, libraries_needed, carried_relocations, initializer_relocations, personality_relocations}
use Rattle.macho_model.specs.Targets.{target_of, target_of_relocation, slots_of, stubs_of}
use Rattle.macho_model.specs.Fields.{fields_of}
use Rattle.macho_model.specs.Rows.{is_supported}
use Rattle.macho_model.specs.Signature.{uuid_written}
use Rattle.macho_model.specs.Segments.{other_segments, segment_rank, segment_names_of, output_keys_of, output_count}
use Rattle.macho_model.specs.WrittenSum.{content_sum, command_sum, unsigned_sum, written_sum_of}
use Rattle.macho_model.specs.Consumed.{personality_targets, entries_of_link}
use Rattle.macho_model.specs.Fixups.{import_entries_of, own_entries, entries_have_addends}
use Rattle.macho_model.specs.Made.{initializers_of}
use Rattle.macho_model.specs.SymbolTable.{table_symbols}
use Rattle.macho_model.specs.Exports.{has_lists}
use Rattle.macho_model.specs.Told.{IsToldExport, ExportsAreTold}
use Rattle.macho_model.specs.Told as told
use Rattle.macho_promise.specs.Sizes.{counts_with, commands_size, AreCounts}
use Rattle.macho_model_checks.proofs.Examples.{words8, words, halves, name16}
use Rattle.macho_model_checks.proofs.ExampleLinks.{entry, text_object, symbol}
use Rattle.macho_model_checks.proofs.ObjectTests.{verdict, is_object}
use Rattle.macho_model_checks.proofs.ValidTests.{valid_verdict, verdict_but, is_valid_by_tests}
use Rattle.wild_macho.specs.Linkers.{link_of}
use Rattle.wild_macho.specs.Runs.{IsOwed}
use Rattle.macho_model.proofs.Resolved.{definition_is_first}
use Rattle.macho_model.proofs.Definitions.{no_symbol_behind}

-- `_main` at 0, a BL to `_f`; `_f` at 8; both are hidden (`mach-o/nlist.h`, `N_PEXT`)
unfoldable pub calls : List ℕ
calls =
    text_object (words (0x94000000 ∷ 0xd65f03c0 ∷ 0xd65f03c0 ∷ [])) (words (0 ∷ 0x2d000001 ∷ [])) (entry 1 0x1f 1 0 0 ++ entry 7 0x1f 1 0 8)
    (0 ∷ codes "_main" ++ 0 ∷ codes "_f" ++ 0 ∷ [])

-- its link by the arguments of no option
abbrev pub calling : Link
calling = record (link_of fresh) { inputs = Object calls ∷ [] }

pub calls_is_object : IsObject calls
unfolding verdict header_of commands_from commands_of commands_end num_sections section_place section_at section_bytes symtab_of num_symbols
    symbol_place symbol_at strings_of symbol_name relocation_place relocation_at sections_of carried_of template_exponent placed_exponent
    symbols_of strong_of weak_of commons_of greatest_of libraries_with definition_of chosen_commons initializer_sections unwind_sections
    carried_relocations initializer_relocations personality_relocations imports_of libraries_needed target_of target_of_relocation slots_of
    stubs_of fields_of is_supported plain_entries all_entries entries_of other_segments segment_rank segment_names_of output_keys_of
    output_count content_sum command_sum unsigned_sum written_sum_of le_at le_bytes row_bytes reading words8 words halves name16 entry
    text_object calls
calls_is_object = is_object calls refl

-- how its bytes begin, and what they say at 12: an object
pub begins_as_file : starts_with nat_eq calls (0xcf ∷ 0xfa ∷ 0xed ∷ 0xfe ∷ []) ≡ true
unfolding calls text_object entry words8 words halves name16 le_bytes row_bytes
begins_as_file = refl

pub is_object_type : starts_with nat_eq (drop 12 calls) (1 ∷ 0 ∷ 0 ∷ 0 ∷ []) ≡ true
unfolding calls text_object entry words8 words halves name16 le_bytes row_bytes
is_object_type = refl

-- a symbol is hidden
abbrev IsHidden : Link → SymbolId → Type 0
IsHidden l s = is_hidden_of (entry_at l s) ≡ true

-- the definition that comes first, of symbols that are hidden
from_symbols : (l : Link) (xs : List SymbolId) (other : Option Definition) (s : SymbolId) → All (IsHidden l) xs
    → (other ≡ Some (Symbol s) → IsHidden l s) → first_or (map Symbol xs) other ≡ Some (Symbol s) → IsHidden l s
from_symbols l [] other s all rest is = rest is
from_symbols l (x ∷ xs) other s all rest is =
    let same : x ≡ s = ap (symbol_in x) is in
    subst (IsHidden l) same (all 0 x (omega arith))
  where
    symbol_in : SymbolId → Option Definition → SymbolId
    symbol_in d None = d
    symbol_in d (Some (Symbol t)) = t
    symbol_in d (Some (Library file)) = d
    symbol_in d (Some ImageBase) = d

-- a library and the image are no symbol
abbrev in_object : Option Definition → Bool
in_object None = false
in_object (Some (Symbol s)) = true
in_object (Some (Library file)) = false
in_object (Some ImageBase) = false

-- where all symbols are hidden, so is what defines a name
defined_hidden : (l : Link) (name : List ℕ) (s : SymbolId) → All (IsHidden l) (symbols_of l) → definition_of l name ≡ Some (Symbol s)
    → IsHidden l s
unfolding first_definition strong_of weak_of commons_of greatest_of
defined_hidden l name s all is =
    from_symbols l (strong_of l name) _ s (All-filter (λ t. is_strong l t && has_name l name t) (IsHidden l) (symbols_of l) all)
    (λ weak. from_symbols l (weak_of l name) _ s (All-filter (λ t. is_weak l t && has_name l name t) (IsHidden l) (symbols_of l) all)
    (λ common. from_symbols l (greatest_of l name) _ s (All-filter _ (IsHidden l) (commons_of l name)
    (All-filter (λ t. is_common_of (entry_at l t) && has_name l name t) (IsHidden l) (symbols_of l) all))
    (λ library. absurd (no_symbol_behind (libraries_with l name) (bytes_eq name DSO_HANDLE) s library)) common) weak)
    (sym (definition_is_first l name) ∙ is)

-- a link whose symbols are all hidden, and that has no export lists, exports nothing
exports_nothing : (l : Link) → All (IsHidden l) (symbols_of l) → has_lists l ≡ false → (name : List ℕ) (weak : Bool)
    → IsToldExport l name weak → ⊥
exports_nothing l all none name _ (told.from_object s exported) =
    let no : true ≡ false = sym (defined_hidden l name s all exported.0) ∙ exported.1 in cc
exports_nothing l all none name _ (told.from_library reexported) = let no : false ≡ true = sym none ∙ reexported.1 in cc

-- the two symbols of the object
symbols_are : symbols_of calling ≡ symbol 0 0 ∷ symbol 0 1 ∷ []
unfolding header_of commands_from commands_of commands_end num_sections section_place section_at section_bytes symtab_of num_symbols
    symbol_place symbol_at strings_of symbol_name relocation_place relocation_at sections_of carried_of template_exponent placed_exponent
    symbols_of strong_of weak_of commons_of greatest_of libraries_with definition_of chosen_commons initializer_sections unwind_sections
    carried_relocations initializer_relocations personality_relocations imports_of libraries_needed target_of target_of_relocation slots_of
    stubs_of fields_of is_supported plain_entries all_entries entries_of other_segments segment_rank segment_names_of output_keys_of
    output_count content_sum command_sum unsigned_sum written_sum_of le_at le_bytes row_bytes reading words8 words halves name16 entry
    text_object calls
symbols_are = refl

hidden_are : IsHidden calling (symbol 0 0) × IsHidden calling (symbol 0 1)
unfolding header_of commands_from commands_of commands_end num_sections section_place section_at section_bytes symtab_of num_symbols
    symbol_place symbol_at strings_of symbol_name relocation_place relocation_at sections_of carried_of template_exponent placed_exponent
    symbols_of strong_of weak_of commons_of greatest_of libraries_with definition_of chosen_commons initializer_sections unwind_sections
    carried_relocations initializer_relocations personality_relocations imports_of libraries_needed target_of target_of_relocation slots_of
    stubs_of fields_of is_supported plain_entries all_entries entries_of other_segments segment_rank segment_names_of output_keys_of
    output_count content_sum command_sum unsigned_sum written_sum_of le_at le_bytes row_bytes reading words8 words halves name16 entry
    text_object calls
hidden_are = (refl, refl)

all_hidden : All (IsHidden calling) (symbols_of calling)
all_hidden =
    rw symbols_are (All-cons (IsHidden calling) (symbol 0 0) (symbol 0 1 ∷ []) hidden_are.0
    (All-cons (IsHidden calling) (symbol 0 1) [] hidden_are.1 (All-nil (IsHidden calling))))

nothing_told : ExportsAreTold calling []
nothing_told = record {
  rising = λ i j d before within. absurd (omega (arith, within));
  each = All-nil _;
  all = λ name weak is. absurd (exports_nothing calling all_hidden refl name weak is);
}

-- its sizes
abbrev pub sizes : Counts
sizes = counts_with calling 0

are_sizes : AreCounts calling sizes
unfolding counts_with
are_sizes = record {
  trie = record { exports = []; told = nothing_told; bytes = []; trie = inl (refl, refl); long = refl };
  are = refl;
}

-- each part of a valid link, by its test
each_part : valid_verdict calling sizes ≡ verdict_but (λ q. false)
unfolding valid_verdict header_of commands_from commands_of commands_end num_sections section_place section_at section_bytes symtab_of
    num_symbols symbol_place symbol_at strings_of symbol_name relocation_place relocation_at sections_of carried_of template_exponent
    placed_exponent symbols_of strong_of weak_of commons_of greatest_of libraries_with definition_of chosen_commons initializer_sections
    unwind_sections carried_relocations initializer_relocations personality_relocations imports_of libraries_needed target_of
    target_of_relocation slots_of stubs_of fields_of is_supported plain_entries all_entries entries_of other_segments segment_rank
    segment_names_of output_keys_of output_count content_sum command_sum unsigned_sum written_sum_of personality_targets entries_of_link
    le_at le_bytes row_bytes reading words8 words halves name16 entry text_object counts_with commands_size uuid_written initializers_of
    import_entries_of own_entries entries_have_addends table_symbols calls
each_part = refl

-- THE link is owed an image.
pub calling_is_owed : IsOwed calling
calling_is_owed = record { named = refl; counts = sizes; counted = are_sizes; valid = is_valid_by_tests calling sizes each_part }
