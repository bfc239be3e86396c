-- Rows of the encoding, computed: the trie of `_foobar` 1, `_foo` 2 and `_fop` 3, and that of a value and a reexport.
use Rattle.std.proofs.Common.{◌≡◌, ℕ, List, [], ◌∷◌, codes, get_or, Some, None, refl}
use Rattle.macho_bytes.specs.Uleb.{uleb_of, groups_of}
use Rattle.macho_trie.specs.Exports.{Exported, as_value, as_reexport}
use Rattle.macho_trie.specs.Trees.{Edges, no_edge, edge}
use Rattle.macho_trie.specs.Encoding.{says_of, tree_bytes, terminal_size, place_of, total_of}

abbrev three_symbols : List (List ℕ × Exported)
three_symbols = (codes "_foobar", as_value 0 1) ∷ (codes "_foo", as_value 0 2) ∷ (codes "_fop", as_value 0 3) ∷ []

abbrev three_tree : Edges
three_tree =
    edge [] None (edge (codes "_fo") None
    (edge (codes "o") (Some 1) (edge (codes "bar") (Some 0) no_edge no_edge) (edge (codes "p") (Some 2) no_edge no_edge)) no_edge) no_edge

abbrev three_places : ℕ → ℕ
three_places k = get_or (0 ∷ 7 ∷ 15 ∷ 24 ∷ 28 ∷ []) k 0

three_bytes : tree_bytes (says_of three_symbols) three_places 0 three_tree
    ≡ 0 ∷ 1 ∷ 0x5f ∷ 0x66 ∷ 0x6f ∷ 0 ∷ 7 ∷ 0 ∷ 2 ∷ 0x6f ∷ 0 ∷ 0xf ∷ 0x70 ∷ 0 ∷ 0x1c ∷ 2 ∷ 0 ∷ 2 ∷ 1 ∷ 0x62 ∷ 0x61 ∷ 0x72 ∷ 0 ∷ 0x18
    ∷ 2 ∷ 0 ∷ 1 ∷ 0 ∷ 2 ∷ 0 ∷ 3 ∷ 0 ∷ []
unfolding uleb_of groups_of
three_bytes = refl

-- with widths of one byte, the places are those
three_last : place_of (terminal_size (says_of three_symbols)) (λ k. 1) three_tree 4 ≡ 28
unfolding place_of uleb_of groups_of
three_last = refl

three_total : total_of (terminal_size (says_of three_symbols)) (λ k. 1) three_tree ≡ 32
unfolding total_of uleb_of groups_of
three_total = refl

abbrev reexport_symbols : List (List ℕ × Exported)
reexport_symbols = (codes "_main", as_value 0 0x218) ∷ (codes "_exit", as_reexport 8 1 []) ∷ []

reexport_bytes : tree_bytes (says_of reexport_symbols) (λ k. get_or (0 ∷ 5 ∷ 19 ∷ 24 ∷ []) k 0) 0
    (edge [] None (edge (codes "_") None (edge (codes "exit") (Some 1) no_edge (edge (codes "main") (Some 0) no_edge no_edge)) no_edge)
    no_edge)
    ≡ 0 ∷ 1 ∷ 0x5f ∷ 0 ∷ 5 ∷ 0 ∷ 2 ∷ 0x65 ∷ 0x78 ∷ 0x69 ∷ 0x74 ∷ 0 ∷ 0x13 ∷ 0x6d ∷ 0x61 ∷ 0x69 ∷ 0x6e ∷ 0 ∷ 0x18 ∷ 3 ∷ 8 ∷ 1 ∷ 0 ∷ 0
    ∷ 3 ∷ 0 ∷ 0x98 ∷ 4 ∷ 0 ∷ []
unfolding uleb_of groups_of
reexport_bytes = refl
