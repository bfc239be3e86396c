use Rattle.std.proofs.Common.{◌≡◌, ◌<◌, length, map}
use Rattle.macho_trie.specs.Symbols.{names_of}
use Rattle.macho_trie.specs.steps.Building.{names_in, rows_in, open_in}
use Rattle.macho_trie.proofs.Sorting.{seen}
use Rattle.macho_trie.proofs.Stepping.{AreBuilt}
use Rattle.macho_trie.proofs.build.table_of.Given as goal

abbrev pub invariant-loop-left : goal.invariant-loop-left
invariant-loop-left l = record {
  within : l.left < length l.sorted;
  names : names_in l.builder ≡ names_of l.fn.symbols;
  built : AreBuilt (names_of l.fn.symbols) (map seen l.sorted) l.left (rows_in l.builder) (open_in l.builder);
}

abbrev pub decreases-loop-left : goal.decreases-loop-left
decreases-loop-left l = l.left
