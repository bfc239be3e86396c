-- Rows of look-up, computed: nodes from bytes written out, and a name that leads to its answer.
use Rattle.std.proofs.Common.{◌≡◌, ℕ, List, [], ◌∷◌, codes, Some, None, refl}
use Rattle.macho_bytes.specs.Uleb.{uleb_at}
use Rattle.macho_trie.specs.Exports.{as_value, as_reexport}
use Rattle.macho_trie.specs.Nodes.{Edge, ended_name, export_in, terminal_between, terminal_at, edge_at, edges_at, node_at}
use Rattle.macho_trie.specs.Lookup.{here, along, trie_finds}

-- the trie of `_main` at 0x1234
abbrev main_trie : List ℕ
main_trie = 0 ∷ 1 ∷ 0x5f ∷ 0x6d ∷ 0x61 ∷ 0x69 ∷ 0x6e ∷ 0 ∷ 9 ∷ 3 ∷ 0 ∷ 0xb4 ∷ 0x24 ∷ 0 ∷ []

abbrev main_edge : Edge
main_edge = record { label = codes "_main"; child = 9 }

main_root : node_at main_trie 0 ≡ Some (record { export = None; edges = main_edge ∷ [] })
unfolding node_at terminal_at terminal_between edges_at edge_at ended_name uleb_at
main_root = refl

main_leaf : node_at main_trie 9 ≡ Some (record { export = Some (as_value 0 0x1234); edges = [] })
unfolding node_at terminal_at terminal_between export_in edges_at uleb_at
main_leaf = refl

main_found : trie_finds main_trie (codes "_main") (as_value 0 0x1234)
main_found = along 0 (codes "_main") (record { export = None; edges = main_edge ∷ [] }) main_edge main_root refl
    (here 9 [] (record { export = Some (as_value 0 0x1234); edges = [] }) main_leaf refl refl)

-- a reexport of library 1 under the same name
reexport : node_at (3 ∷ 8 ∷ 1 ∷ 0 ∷ 0 ∷ []) 0 ≡ Some (record { export = Some (as_reexport 8 1 []); edges = [] })
unfolding node_at terminal_at terminal_between export_in edges_at ended_name uleb_at
reexport = refl

-- no node: a terminal part past the end, a number outside the terminal part, no NUL in it, an edge that isn't whole
part_past_end : node_at (3 ∷ 0 ∷ 1 ∷ []) 0 ≡ None
unfolding node_at terminal_at uleb_at
part_past_end = refl

number_past_part : node_at (1 ∷ 0 ∷ 0 ∷ 0 ∷ []) 0 ≡ None
unfolding node_at terminal_at terminal_between export_in uleb_at
number_past_part = refl

name_past_part : node_at (2 ∷ 8 ∷ 1 ∷ 0 ∷ []) 0 ≡ None
unfolding node_at terminal_at terminal_between export_in ended_name uleb_at
name_past_part = refl

edge_past_end : node_at (0 ∷ 1 ∷ 0x61 ∷ 0 ∷ []) 0 ≡ None
unfolding node_at terminal_at terminal_between edges_at edge_at ended_name uleb_at
edge_past_end = refl
