use Rattle.std.proofs.Common.{◌≡◌, map, take}
use Rattle.macho_trie.specs.Symbols.{symbols_of}
use Rattle.macho_linkedit.specs.Tries.{said}
use Rattle.macho_linkedit.specs.steps.Values.{AreSmall}
use Rattle.macho_linkedit.proofs.exports.said_symbols.Given as goal

-- the register has the names so far, and their values have 64 bits
abbrev pub invariant-loop-export : goal.invariant-loop-export
invariant-loop-export l = record {
  are : symbols_of l.symbols ≡ map said (take l.export-index l.exports);
  small : AreSmall l.exports l.export-index;
}
