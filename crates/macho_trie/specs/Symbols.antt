-- The register of exported names: each with what stands for it, in the order in which they were pushed.
use Rattle.std.specs.Prelude.{ℕ, List, [], ◌∷◌, ◌++◌, map}
use Rattle.macho_trie.specs.Exports.{Exported}
use Rattle.macho_trie.specs.Says.{symbol_of}
use Rattle.macho_trie.specs.declared.symbols.Symbols.{Symbols}

abbrev pub symbols_of : Symbols → List (List ℕ × Exported)
symbols_of s = map symbol_of s.items.items

-- the symbols with one more at their end
abbrev pub with_symbol : List (List ℕ × Exported) → List ℕ → Exported → List (List ℕ × Exported)
with_symbol symbols name x = symbols ++ (name, x) ∷ []

-- the names alone
abbrev pub names_of : Symbols → List (List ℕ)
names_of s = map (λ i. i.name.now) s.items.items

-- the names with one more at their end
abbrev pub with_name : List (List ℕ) → List ℕ → List (List ℕ)
with_name names name = names ++ name ∷ []
