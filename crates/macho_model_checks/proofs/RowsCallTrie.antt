-- The exports trie in the image of a link with an import: look-up finds `_main`, and no other name.
--
-- Of the link: a name with a definition in an object is `_main`, since the object has no other definition, and there are no export
-- lists. Of the bytes: the first node has one edge, `_main`, to a node that exports the value 0x398 and has no edge. And the
-- fourteen bytes are the trie of that one name: its radix tree has one edge, and the place of its child one byte.
use Rattle.std.proofs.Common.{◌≡◌, ℕ, zero, suc, ◌+◌, ◌<◌, ◌≤◌, Bool, true, false, if◌then◌else◌, List, [], ◌∷◌, ◌++◌, length, take, drop, map, refl, ap, sym, ◌∙◌, subst, arith, inl, inr, Option, Some, None}
use Rattle.std.specs.Prelude.{codes, slice_index, slice_index_or, nat_eq, unwrap_or}
use Rattle.std.specs.List.{find, starts_with}
use Rattle.std.specs.Str.{bytes_eq}
use Rattle.std.proofs.lemmas.Slice.Eq.{bytes_eq-Decides}
use Rattle.std.proofs.lemmas.List.Elements.{All-nil, All-cons}
use Rattle.macho_bytes.specs.Uleb.{groups_of, uleb_of, uleb_at}
use Rattle.macho_bytes.proofs.Ulebs.{length-uleb_of}
use Rattle.std.proofs.lemmas.List.{take-append-drop}
use Rattle.macho_model.specs.declared.placed.PlacedSection.{PlacedSection}
use Rattle.macho_model.specs.declared.targets.Target.{Target}
use Rattle.macho_model.specs.declared.targets.Target.TheVariants as target
use Rattle.macho_model.specs.Exports.{IsExported, section_flag}
use Rattle.macho_trie.specs.Exports.{Exported, as_value}
use Rattle.macho_trie.specs.Nodes.{Edge, Node, node_at, terminal_at, terminal_between, export_in, edges_at, edge_at, ended_name}
use Rattle.macho_trie.specs.Trees.{Edges, no_edge, edge, LeadsTo, node_count, AreRadix}
use Rattle.macho_trie.specs.Encoding.{says_of, tree_bytes, place_of, terminal_size, AreLeast}
use Rattle.macho_trie.specs.Lookup.{Finds, trie_finds, leads}
use Rattle.macho_trie.specs.Lookup as lookup
use Rattle.macho_promise.specs.TrieSays.{ExportedAs, from_object, from_library, ValueOf, table_bytes, IsTrieText, TrieSays}
use Rattle.macho_model_checks.proofs.ExamplePlacement.{section_a}
use Rattle.macho_model_checks.proofs.ExampleCall.{calls_exit, calling, placed_call, head_of_call, fixups_of_call, tables_of_call, big_words, signature_of_call, call_image}
use Rattle.macho_bytes.specs.Numbers.{le_at, le_bytes, be_at, be_bytes, row_bytes}
use Rattle.macho_bytes.specs.Layouts.{reading}
use Rattle.macho_model.specs.Commands.{header_of, commands_from, commands_of, commands_end}
use Rattle.macho_model.specs.Objects.{num_sections, section_place, section_at, section_bytes, symtab_of, num_symbols, symbol_place, symbol_at, strings_of, symbol_name, relocation_place, relocation_at}
use Rattle.macho_model.specs.ExportLists.{plain_entries, all_entries, entries_of}
use Rattle.macho_model.specs.Links.{sections_of, carried_of, template_exponent, placed_exponent}
use Rattle.macho_model.specs.Resolution.{SymbolId, Definition, Symbol, Library, ImageBase, symbols_of, strong_of, commons_of, greatest_of, libraries_with, definition_of, chosen_commons}
use Rattle.macho_model.specs.steps.Resolved.{DSO_HANDLE, first_or, first_definition, weak_of}
use Rattle.macho_model.specs.Needs.{initializer_sections, unwind_sections, imports_of, libraries_needed, carried_relocations, initializer_relocations, personality_relocations}
use Rattle.macho_model.specs.Targets.{target_of_name, target_of, target_of_relocation, slots_of, stubs_of}
use Rattle.macho_model.specs.Fields.{fields_of}
use Rattle.macho_model.specs.Segments.{other_segments, segment_names_of, output_keys_of}
use Rattle.macho_model.specs.Images.{Table, segments_of, mapped_segments, base_of, libraries_of, tables_of, tries_of, signatures_of, symbol_tables_of, string_tables_of, entries_of_file}
use Rattle.macho_model.specs.Fixups.{own_entries, import_entries_of, entries_have_addends}
use Rattle.macho_model.specs.ImportTable.{fixup_count, names_text}
use Rattle.macho_model_checks.proofs.Examples.{words8, words, halves, name16}
use Rattle.macho_model_checks.proofs.ExampleLinks.{entry}
use Rattle.macho_model.specs.steps.Exports.{weak_flag}
use Rattle.macho_model.proofs.Resolved.{definition_is_first}

unfoldable pub trie_of_call : List ℕ
trie_of_call = 0x00 ∷ 0x01 ∷ 0x5f ∷ 0x6d ∷ 0x61 ∷ 0x69 ∷ 0x6e ∷ 0x00 ∷ 0x09 ∷ 0x03 ∷ 0x00 ∷ 0x98 ∷ 0x07 ∷ 0x00 ∷ []

abbrev pub trie_table : Table
trie_table = record { at = 0xc0d0; size = 14 }

trie_there : (tries_of call_image ≡ trie_table ∷ []) × (table_bytes call_image trie_table ≡ trie_of_call)
unfolding commands_end commands_of commands_from header_of reading le_at row_bytes le_bytes words8 words halves name16 entry calls_exit
    head_of_call fixups_of_call tables_of_call be_at be_bytes big_words signature_of_call call_image segments_of mapped_segments base_of
    libraries_of tables_of tries_of signatures_of symbol_tables_of string_tables_of entries_of_file trie_of_call
trie_there = (refl, refl)

-- the symbol of `_main`, and what it is exported as
abbrev pub main_symbol : SymbolId
main_symbol = record { file = 0; symbol = 0 }

-- a definition of an object comes from the strong ones where there are no weak ones and no commons
abbrev pub symbol_in : SymbolId → Option Definition → SymbolId
symbol_in m None = m
symbol_in m (Some (Symbol s)) = s
symbol_in m (Some (Library file)) = m
symbol_in m (Some ImageBase) = m

abbrev pub is_in_object : Option Definition → Bool
is_in_object None = false
is_in_object (Some (Symbol s)) = true
is_in_object (Some (Library file)) = false
is_in_object (Some ImageBase) = false

from_strong : (t : Bool) (m s : SymbolId) (libraries : List ℕ) (d : Bool)
    → first_or (map Symbol (if t then m ∷ [] else [])) (first_or (map Library libraries) (if d then Some ImageBase else None))
    ≡ Some (Symbol s)
    → (t ≡ true) × (s ≡ m)
from_strong true m s libraries d h = (refl, sym (ap (symbol_in m) h))
from_strong false m s (n ∷ libraries) d h = absurd (let no : false ≡ true = ap is_in_object h in cc)
from_strong false m s [] true h = absurd (let no : false ≡ true = ap is_in_object h in cc)
from_strong false m s [] false h = absurd (let no : false ≡ true = ap is_in_object h in cc)

definition_here : (name : List ℕ) → definition_of calling name
    ≡ first_or (map Symbol (if bytes_eq (codes "_main") name then main_symbol ∷ [] else []))
    (first_or (map Library (libraries_with calling name)) (if bytes_eq name DSO_HANDLE then Some ImageBase else None))
unfolding commands_end commands_of commands_from header_of reading le_at row_bytes le_bytes words8 words halves name16 entry calls_exit
    head_of_call fixups_of_call tables_of_call be_at be_bytes big_words signature_of_call call_image num_sections section_place
    section_at section_bytes symtab_of num_symbols symbol_place symbol_at strings_of symbol_name relocation_place relocation_at
    sections_of carried_of template_exponent placed_exponent symbols_of strong_of weak_of commons_of greatest_of definition_of
    first_definition
    chosen_commons initializer_sections unwind_sections carried_relocations initializer_relocations personality_relocations imports_of
    libraries_needed target_of target_of_relocation
    slots_of stubs_of fields_of plain_entries all_entries entries_of other_segments segment_names_of output_keys_of
    own_entries import_entries_of entries_have_addends fixup_count names_text
definition_here name = definition_is_first calling name

pub named_main : (name : List ℕ) (s : SymbolId) → definition_of calling name ≡ Some (Symbol s) → (name ≡ codes "_main") × (s ≡ main_symbol)
named_main name s h =
    let found =
    from_strong (bytes_eq (codes "_main") name) main_symbol s (libraries_with calling name) (bytes_eq name DSO_HANDLE)
    (sym (definition_here name) ∙ h) in
    (sym ((bytes_eq-Decides (codes "_main") name).0 found.0), found.1)

pub main_facts : (target_of_name calling (codes "_main") ≡ target.Section 0 0 0) × (weak_flag calling main_symbol ≡ 0)
    × (section_flag calling 0 0 ≡ 0)
unfolding commands_end commands_of commands_from header_of reading le_at row_bytes le_bytes words8 words halves name16 entry calls_exit
    head_of_call fixups_of_call tables_of_call be_at be_bytes big_words signature_of_call call_image num_sections section_place
    section_at section_bytes symtab_of num_symbols symbol_place symbol_at strings_of symbol_name relocation_place relocation_at
    sections_of carried_of template_exponent placed_exponent symbols_of strong_of weak_of commons_of greatest_of libraries_with
    definition_of chosen_commons initializer_sections unwind_sections carried_relocations initializer_relocations personality_relocations
    imports_of libraries_needed target_of
    target_of_relocation slots_of stubs_of fields_of plain_entries all_entries entries_of other_segments segment_names_of
    output_keys_of own_entries import_entries_of entries_have_addends fixup_count names_text
main_facts = (refl, refl, refl)

value_is : (e : Exported) → ValueOf calling placed_call 0 (target.Section 0 0 0) e → e ≡ as_value 0 0x398
value_is e (address, value, (q, (zero, within, is), file, section, at), sum, same) =
    let place : 0x100000398 ≡ address = ap (λ (x : PlacedSection). x.address) is ∙ at in
    same ∙ ap (λ f. as_value (f + 0) value) main_facts.2 ∙ ap (as_value 0) (omega (arith, place, sum))
value_is e (address, value, (q, (suc zero, within, is), file, section, at), sum, same) =
    absurd (let no : 1 ≡ 0 = ap (λ (x : PlacedSection). x.section) is ∙ section in omega (arith, no))
value_is e (address, value, (q, (suc (suc k), within, is), file, section, at), sum, same) = absurd (omega (arith, within))

pub exported_is : (name : List ℕ) (e : Exported) → ExportedAs calling placed_call name e → (name ≡ codes "_main") × (e ≡ as_value 0 0x398)
exported_is name _ (from_object s e exported value) =
    let who = named_main name s exported.0 in
    let here : ValueOf calling placed_call (weak_flag calling main_symbol) (target_of_name calling (codes "_main")) e =
    subst (λ n. ValueOf calling placed_call (weak_flag calling main_symbol) (target_of_name calling n) e) who.0
    (subst (λ (m : SymbolId). ValueOf calling placed_call (weak_flag calling m) (target_of_name calling name) e) who.1 value) in
    let there : ValueOf calling placed_call 0 (target.Section 0 0 0) e =
    subst (λ (u : Target). ValueOf calling placed_call 0 u e) main_facts.0
    (subst (λ w. ValueOf calling placed_call w (target_of_name calling (codes "_main")) e) main_facts.1 here) in
    (who.0, value_is e there)
exported_is name _ (from_library on) = absurd (let no : false ≡ true = on.1 in cc)

pub main_is_exported : IsExported calling (codes "_main") main_symbol
unfolding commands_end commands_of commands_from header_of reading le_at row_bytes le_bytes words8 words halves name16 entry calls_exit
    head_of_call fixups_of_call tables_of_call be_at be_bytes big_words signature_of_call call_image num_sections section_place
    section_at section_bytes symtab_of num_symbols symbol_place symbol_at strings_of symbol_name relocation_place relocation_at
    sections_of carried_of template_exponent placed_exponent symbols_of strong_of weak_of commons_of greatest_of libraries_with
    definition_of chosen_commons initializer_sections unwind_sections carried_relocations initializer_relocations personality_relocations
    imports_of libraries_needed target_of
    target_of_relocation slots_of stubs_of fields_of plain_entries all_entries entries_of other_segments segment_names_of
    output_keys_of own_entries import_entries_of entries_have_addends fixup_count names_text
main_is_exported = (refl, refl, refl)

main_exported : ExportedAs calling placed_call (codes "_main") (as_value 0 0x398)
unfolding commands_end commands_of commands_from header_of reading le_at row_bytes le_bytes words8 words halves name16 entry calls_exit
    head_of_call fixups_of_call tables_of_call be_at be_bytes big_words signature_of_call call_image num_sections section_place
    section_at section_bytes symtab_of num_symbols symbol_place symbol_at strings_of symbol_name relocation_place relocation_at
    sections_of carried_of template_exponent placed_exponent symbols_of strong_of weak_of commons_of greatest_of libraries_with
    definition_of chosen_commons initializer_sections unwind_sections carried_relocations initializer_relocations personality_relocations
    imports_of libraries_needed target_of
    target_of_relocation slots_of stubs_of fields_of plain_entries all_entries entries_of other_segments segment_names_of
    output_keys_of own_entries import_entries_of entries_have_addends fixup_count names_text
main_exported = from_object main_symbol (as_value 0 0x398) main_is_exported
    (0x100000398, 0x398, (section_a 0x100000398, (0, omega arith, refl), refl, refl, refl), refl, refl)

-- the two nodes
abbrev pub edge_main : Edge
edge_main = record { label = codes "_main"; child = 9 }

abbrev pub first_node : Node
first_node = record { export = None; edges = edge_main ∷ [] }

abbrev pub last_node : Node
last_node = record { export = Some (as_value 0 0x398); edges = [] }

nodes : (node_at trie_of_call 0 ≡ Some first_node) × (node_at trie_of_call 9 ≡ Some last_node)
unfolding trie_of_call node_at terminal_at terminal_between export_in edges_at edge_at ended_name uleb_at
nodes = (refl, refl)

finds_main : trie_finds trie_of_call (codes "_main") (as_value 0 0x398)
finds_main = lookup.Finds.along 0 (codes "_main") first_node edge_main nodes.0 refl (lookup.Finds.here 9 [] last_node nodes.1 refl refl)

abbrev pub node_in : Option Node → Node
node_in None = first_node
node_in (Some n) = n

abbrev pub export_of : Option Exported → Exported
export_of None = as_value 0 0
export_of (Some x) = x

abbrev pub is_there : {X : Type 0} → Option X → Bool
is_there None = false
is_there (Some x) = true

abbrev pub edge_in : Option Edge → Edge
edge_in None = edge_main
edge_in (Some e) = e

the_node : (at : ℕ) (node known : Node) → node_at trie_of_call at ≡ Some node → node_at trie_of_call at ≡ Some known → node ≡ known
the_node at node known h k = ap node_in (sym h ∙ k)

one_found : (test : Edge → Bool) (e : Edge) → find test (edge_main ∷ []) ≡ Some e → (test edge_main ≡ true) × (e ≡ edge_main)
one_found test e h = by (test edge_main) refl
  where
    by : (t : Bool) → test edge_main ≡ t → (test edge_main ≡ true) × (e ≡ edge_main)
    by true is = (is, sym (ap edge_in (sym (ap (λ b. if b then Some edge_main else None) is) ∙ h)))
    by false is = absurd (let no : false ≡ true = ap is_there (sym (ap (λ b. if b then Some edge_main else None) is) ∙ h) in cc)

at_last : (at : ℕ) (rest : List ℕ) (x : Exported) → at ≡ 9 → Finds trie_of_call x at rest → (rest ≡ []) × (x ≡ as_value 0 0x398)
at_last _ _ x nine (lookup.Finds.here at rest node is none export) =
    let node_is = the_node at node last_node is (ap (node_at trie_of_call) nine ∙ nodes.1) in
    (none, ap export_of (sym export ∙ ap (λ (n : Node). n.export) node_is))
at_last _ _ x nine (lookup.Finds.along at rest node e is taken finds) =
    let node_is = the_node at node last_node is (ap (node_at trie_of_call) nine ∙ nodes.1) in
    absurd (let no : false ≡ true = ap is_there (sym (ap (λ (n : Node). find (leads rest) n.edges) node_is) ∙ taken) in cc)

only_main : (at : ℕ) (rest : List ℕ) (x : Exported) → at ≡ 0 → Finds trie_of_call x at rest
    → (rest ≡ codes "_main") × (x ≡ as_value 0 0x398)
only_main _ _ x start (lookup.Finds.here at rest node is none export) =
    let node_is = the_node at node first_node is (ap (node_at trie_of_call) start ∙ nodes.0) in
    absurd (let no : false ≡ true = ap is_there (sym (ap (λ (n : Node). n.export) node_is) ∙ export) in cc)
only_main _ _ x start (lookup.Finds.along at rest node e is taken finds) =
    let node_is = the_node at node first_node is (ap (node_at trie_of_call) start ∙ nodes.0) in
    let one = one_found (leads rest) e (sym (ap (λ (n : Node). find (leads rest) n.edges) node_is) ∙ taken) in
    let begins : starts_with nat_eq rest (codes "_main") ≡ true = one.0 in
    let cut : codes "_main" ≡ take 5 rest = (bytes_eq-Decides (codes "_main") (take 5 rest)).0 begins in
    let last = at_last e.child (drop (length e.label) rest) x (ap (λ (g : Edge). g.child) one.1) finds in
    let none : drop 5 rest ≡ [] = ap (λ (g : Edge). drop (length g.label) rest) (sym one.1) ∙ last.0 in
    (sym (take-append-drop 5 rest) ∙ ap (λ (ys : List ℕ). take 5 rest ++ ys) none ∙ ap (λ (ys : List ℕ). ys ++ []) (sym cut), last.1)

-- the radix tree of the one name
abbrev pub main_edges : Edges
main_edges = edge (codes "_main") (Some 0) no_edge no_edge

abbrev pub main_tree : Edges
main_tree = edge [] None main_edges no_edge

abbrev pub main_with : Exported → List (List ℕ × Exported)
main_with x = (codes "_main", x) ∷ []

abbrev pub main_says : List (List ℕ × Exported)
main_says = main_with (as_value 0 0x398)

abbrev pub one_byte : ℕ → ℕ
one_byte k = 1

plain_main : (k : ℕ) → k < 5 → (1 ≤ slice_index (codes "_main") k) × (slice_index (codes "_main") k < 256)
plain_main zero within = (omega arith, omega arith)
plain_main (suc zero) within = (omega arith, omega arith)
plain_main (suc (suc zero)) within = (omega arith, omega arith)
plain_main (suc (suc (suc zero))) within = (omega arith, omega arith)
plain_main (suc (suc (suc (suc zero)))) within = (omega arith, omega arith)
plain_main (suc (suc (suc (suc (suc k))))) within = absurd (omega (arith, within))

pub main_radix : AreRadix main_edges
main_radix = (record { some = omega arith; plain = plain_main }, inl refl, tt, tt, tt)

pub names_one : (x : Exported) (name : List ℕ) (s : ℕ) → LeadsTo main_tree name s
    → (s < length (main_with x)) × ((slice_index_or (main_with x) s ([], as_value 0 0)).0 ≡ name)
names_one x name s (inl (left, is, inl (none, some))) = absurd (let no : false ≡ true = ap is_there some in cc)
names_one x name s (inl (left, is, inr (inl (rest, cut, inl (none, some))))) =
    let zeroth : 0 ≡ s = ap (λ (o : Option ℕ). unwrap_or o 0) some in
    subst (λ n. (n < length (main_with x)) × ((slice_index_or (main_with x) n ([], as_value 0 0)).0 ≡ name)) zeroth
    (omega arith, sym (is ∙ cut ∙ ap (λ (ys : List ℕ). codes "_main" ++ ys) none))
names_one x name s (inl (left, is, inr (inl (rest, cut, inr below)))) = absurd below
names_one x name s (inl (left, is, inr (inr other))) = absurd other
names_one x name s (inr other) = absurd other

pub one_named : (x : Exported) (name : List ℕ) (s : ℕ)
    → (s < length (main_with x)) × ((slice_index_or (main_with x) s ([], as_value 0 0)).0 ≡ name) → LeadsTo main_tree name s
one_named x name zero (within, is) = inl (name, refl, inr (inl ([], sym is, inl (refl, refl))))
one_named x name (suc k) (within, is) = absurd (omega (arith, within))

-- the child stands at 9, which one byte spells; no spelling is shorter
child_place : (x : Exported) → length (uleb_of (place_of (terminal_size (says_of (main_with x))) one_byte main_tree 1)) ≡ 1
unfolding place_of uleb_of groups_of
child_place x = refl

consistent : (x : Exported) (k : ℕ) → 1 ≤ k → k < node_count main_tree
    → one_byte k ≡ length (uleb_of (place_of (terminal_size (says_of (main_with x))) one_byte main_tree k))
consistent x zero from below = absurd (omega (arith, from))
consistent x (suc zero) from below = sym (child_place x)
consistent x (suc (suc k)) from below = absurd (omega (arith, below))

pub least_widths : (x : Exported) → AreLeast (terminal_size (says_of (main_with x))) one_byte main_tree
least_widths x = record {
  consistent = consistent x;
  least = λ other wide k from below.
      omega (arith, wide k from below, (length-uleb_of (place_of (terminal_size (says_of (main_with x))) other main_tree k)).0);
}

text_there : trie_of_call ≡ tree_bytes (says_of main_says) (place_of (terminal_size (says_of main_says)) one_byte main_tree) 0 main_tree
unfolding trie_of_call place_of uleb_of groups_of
text_there = refl

exact_trie : IsTrieText main_says trie_of_call
exact_trie = inr (
  omega arith,
  record {
    symbol = None;
    below = main_edges;
    radix = main_radix;
    names = λ name s. (names_one (as_value 0 0x398) name s, one_named (as_value 0 0x398) name s);
    width = one_byte;
    least = least_widths (as_value 0 0x398);
    text = text_there;
  },
)

-- THE exports trie
found_in : (name : List ℕ) (x : Exported) → ExportedAs calling placed_call name x → trie_finds trie_of_call name x
found_in name x exported =
    let is = exported_is name x exported in
    subst (λ (n : List ℕ). trie_finds trie_of_call n x) (sym is.0)
    (subst (λ (y : Exported). trie_finds trie_of_call (codes "_main") y) (sym is.1) finds_main)

only_in : (name : List ℕ) (x : Exported) → trie_finds trie_of_call name x → ExportedAs calling placed_call name x
only_in name x finds =
    let is = only_main 0 name x refl finds in
    subst (λ (n : List ℕ). ExportedAs calling placed_call n x) (sym is.0)
    (subst (λ (y : Exported). ExportedAs calling placed_call (codes "_main") y) (sym is.1) main_exported)

pub call_trie : TrieSays calling call_image placed_call
call_trie = record {
  table = trie_table;
  one = trie_there.0;
  finds = λ name x. (
    λ finds. only_in name x (subst (λ (bytes : List ℕ). trie_finds bytes name x) trie_there.1 finds),
    λ exported. rw trie_there.1 (found_in name x exported),
  );
  symbols = main_says;
  sound = All-cons (λ (s : List ℕ × Exported). ExportedAs calling placed_call s.0 s.1) (codes "_main", as_value 0 0x398) []
      main_exported (All-nil _);
  exact = rw trie_there.1 exact_trie;
}
