use Rattle.std.proofs.Common.{◌≡◌, map, take}
use Rattle.macho_trie.specs.Symbols.{symbols_of}
use Rattle.macho_linkedit.specs.Tries.{kept}
use Rattle.macho_linkedit.proofs.exports.kept_symbols.Given as goal

-- the register has the names so far
abbrev pub invariant-loop-export : goal.invariant-loop-export
invariant-loop-export l = symbols_of l.symbols ≡ map kept (take l.export-index l.exports)
