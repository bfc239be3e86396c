-- The register has the names given; what is computed of it is kept.
use Rattle.std.proofs.Common.{List, ℕ, sym, subst}
use Rattle.macho_trie.specs.Exports.{Exported}
use Rattle.macho_trie.specs.Symbols.{symbols_of}
use Rattle.macho_trie.specs.Sorting.{AreDistinct, HaveNoNul}
use Rattle.macho_trie.specs.Tries.{IsTrieOf, IsLengthOfTrie, IsReservedFor}
use Rattle.macho_linkedit.specs.Tries.{names_in}
use Rattle.macho_linkedit.proofs.Reserving.{kept_names}
use Rattle.macho_linkedit.proofs.exports.reserve_trie.Goals as goal

pub new-requires-clause-distinct : goal.new-requires-clause-distinct
new-requires-clause-distinct c = subst AreDistinct
    (sym (kept_names c.in_ok-symbols.symbols c.args.exports.now c.in_ok-symbols.ensures)) c.requires.distinct

pub new-requires-clause-plain : goal.new-requires-clause-plain
new-requires-clause-plain c = subst HaveNoNul
    (sym (kept_names c.in_ok-symbols.symbols c.args.exports.now c.in_ok-symbols.ensures)) c.requires.plain

pub returns-clause-reserved : goal.returns-clause-reserved
returns-clause-reserved c = let names = kept_names c.in_ok-symbols.symbols c.args.exports.now c.in_ok-symbols.ensures in record {
  names = subst (λ (ns : List (List ℕ)). IsTrieOf c.in_ok-trie.trie ns) names c.in_ok-trie.ensures;
  room =
      subst (λ (xs : List (List ℕ × Exported)). IsReservedFor c.in_ok-trie.trie
      (names_in c.args.exports.now) xs c.in_ok-size.size) c.in_ok-symbols.ensures
      (subst (λ (ns : List (List ℕ)). IsReservedFor c.in_ok-trie.trie ns
      (symbols_of c.in_ok-symbols.symbols) c.in_ok-size.size) names c.in_ok-size.ensures.reserves);
}

pub returns-clause-exact : goal.returns-clause-exact
returns-clause-exact c =
    subst (λ (xs : List (List ℕ × Exported)). IsLengthOfTrie xs c.in_ok-size.size) c.in_ok-symbols.ensures c.in_ok-size.ensures.exact
