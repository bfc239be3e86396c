-- Some symbols have one exports trie.
--
-- The tree of their names is one, and its least widths are the same, as each are at most the other; so are the places of
-- nodes, and the bytes.
use Rattle.std.proofs.Common.{◌≡◌, ℕ, List, [], length, sym, ap, ◌∙◌, subst, arith, inl, inr}
use Rattle.std.specs.Prelude.{Option}
use Rattle.macho_trie.specs.Exports.{Exported}
use Rattle.macho_trie.specs.Trees.{Edges, no_edge, edge}
use Rattle.macho_trie.specs.Encoding.{says_of, terminal_size, place_of, tree_bytes, AreLeast, IsExportsTrie}
use Rattle.macho_trie.proofs.Widths.{place-grows, least-grows}
use Rattle.macho_promise.specs.TrieSays.{IsTrieText}
use Rattle.macho_size_laws.proofs.Trees.{same_roots}

pub one_trie : (symbols : List (List ℕ × Exported)) (bytes others : List ℕ) → IsExportsTrie symbols bytes → IsExportsTrie symbols others
    → bytes ≡ others
one_trie symbols bytes others a b =
    a.text ∙ ap (λ (place : ℕ → ℕ). tree_bytes (says_of symbols) place 0 tree) places
    ∙ ap (λ (t : Edges). tree_bytes (says_of symbols) (place_of size b.width t) 0 t) trees ∙ sym b.text
  where
    size : Option ℕ → ℕ
    size = terminal_size (says_of symbols)

    tree : Edges
    tree = edge [] a.symbol a.below no_edge

    trees : tree ≡ edge [] b.symbol b.below no_edge
    trees = same_roots a.symbol b.symbol a.below b.below a.radix b.radix (λ name s on. (b.names name s).1 ((a.names name s).0 on))
        (λ name s on. (a.names name s).1 ((b.names name s).0 on))

    least : AreLeast size b.width tree
    least = subst (λ (t : Edges). AreLeast size b.width t) (sym trees) b.least

    place : (k : ℕ) → place_of size a.width tree k ≡ place_of size b.width tree k
    place k =
        omega (
          arith,
          place-grows size size a.width b.width tree k (λ m. omega arith) (least-grows size size a.width b.width tree
              (λ m. omega arith) a.least least),
          place-grows size size b.width a.width tree k (λ m. omega arith) (least-grows size size b.width a.width tree
              (λ m. omega arith) least a.least),
        )

    places : place_of size a.width tree ≡ place_of size b.width tree
    places = λ i. λ k. place k i

pub one_text : (symbols : List (List ℕ × Exported)) (bytes others : List ℕ) → IsTrieText symbols bytes → IsTrieText symbols others
    → bytes ≡ others
one_text symbols bytes others (inl a) (inl b) = a.1 ∙ sym b.1
one_text symbols bytes others (inl a) (inr b) = absurd (omega (arith, ap length a.0, b.0))
one_text symbols bytes others (inr a) (inl b) = absurd (omega (arith, ap length b.0, a.0))
one_text symbols bytes others (inr a) (inr b) = one_trie symbols bytes others a.1 b.1
