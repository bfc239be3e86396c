-- A law of sizes: the contract of a function of `src/laws.rt`.
use Rattle.std.specs.Prelude.{◌≡◌, ℕ, List}
use Rattle.macho_trie.specs.Exports.{Exported}
use Rattle.macho_trie.specs.Tries.{IsSizeOf}
use Rattle.macho_trie.specs.declared.trie.Trie.{Trie}

-- a trie has one size for some symbols
abbrev pub SizesAreOne : Type 0
SizesAreOne =
    (trie : Trie) (names : List (List ℕ)) (symbols : List (List ℕ × Exported)) (m n : ℕ)
    → IsSizeOf trie names symbols m → IsSizeOf trie names symbols n → m ≡ n
