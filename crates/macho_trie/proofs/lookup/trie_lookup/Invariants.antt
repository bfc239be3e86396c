use Rattle.std.proofs.Common.{length}
use Rattle.macho_trie.specs.Exports.{Exported}
use Rattle.macho_trie.specs.Lookup.{Finds}
use Rattle.macho_trie.proofs.lookup.trie_lookup.Given as goal

-- what is found from here on is what is found of the whole name
abbrev pub invariant-nodes : goal.invariant-nodes
invariant-nodes l = record {
  back : (x : Exported) → Finds l.bytes x l.at l.rest → Finds l.bytes x 0 l.name;
  on : (x : Exported) → Finds l.bytes x 0 l.name → Finds l.bytes x l.at l.rest;
}

abbrev pub decreases-nodes : goal.decreases-nodes
decreases-nodes l = length l.rest
