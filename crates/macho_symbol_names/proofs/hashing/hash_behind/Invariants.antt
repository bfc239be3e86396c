use Rattle.std.proofs.Common.{◌≡◌}
use Rattle.macho_symbol_names.specs.Hashing.{hash_words}
use Rattle.macho_symbol_names.proofs.hashing.hash_behind.Given as goal

abbrev pub invariant-loop-word : goal.invariant-loop-word
invariant-loop-word l = l.hash ≡ hash_words l.start l.bytes l.word
