use Rattle.std.proofs.Common.{◌≡◌, ℕ, List, map}
use Rattle.std.specs.List.{range_with_len}
use Rattle.macho_trie.specs.Symbols.{names_of}
use Rattle.macho_trie.specs.Tables.{name_at}
use Rattle.macho_trie.proofs.sort.sorted_names.Given as goal

-- the names so far, each with its number
abbrev pub invariant-loop-symbol : goal.invariant-loop-symbol
invariant-loop-symbol l =
    map (λ p. (p.0.now, p.1)) l.names.items ≡ map (λ (k : ℕ). (let p : List ℕ × ℕ = (name_at (names_of l.symbols) k, k) in p))
    (range_with_len 0 l.symbol)
