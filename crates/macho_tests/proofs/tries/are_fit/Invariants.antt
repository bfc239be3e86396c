use Rattle.std.proofs.Common.{◌≢◌, ◌<◌, ℕ}
use Rattle.macho_trie.specs.Symbols.{names_of}
use Rattle.macho_trie.specs.Exports.{HasNoNul}
use Rattle.macho_trie.specs.Tables.{name_at}
use Rattle.macho_tests.proofs.tries.are_fit.Given as goal

abbrev pub invariant-loop-later : goal.invariant-loop-later
invariant-loop-later l = record {
  distinct : (i j : ℕ) → i < j → j < l.later → name_at (names_of l.symbols) i ≢ name_at (names_of l.symbols) j;
  plain : (k : ℕ) → k < l.later → HasNoNul (name_at (names_of l.symbols) k);
}

abbrev pub invariant-loop-earlier : goal.invariant-loop-earlier
invariant-loop-earlier l = (i : ℕ) → i < l.earlier → name_at (names_of l.symbols) i ≢ name_at (names_of l.symbols) l.later
