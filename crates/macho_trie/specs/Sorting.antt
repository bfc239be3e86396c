-- The names in rising order of their bytes, each with the number of its symbol.
use Rattle.std.specs.Prelude.{◌≢◌, ℕ, ◌<◌, List, length}
use Rattle.std.specs.List.{AllPairs}
use Rattle.macho_trie.specs.Exports.{HasNoNul}
use Rattle.macho_trie.specs.Tables.{name_at}

-- no two names are equal
abbrev pub AreDistinct : List (List ℕ) → Type 0
AreDistinct names = AllPairs (λ x y. x ≢ y) names

-- no name has a NUL
abbrev pub HaveNoNul : List (List ℕ) → Type 0
HaveNoNul names = (k : ℕ) → k < length names → HasNoNul (name_at names k)
