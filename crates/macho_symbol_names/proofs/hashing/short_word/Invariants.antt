use Rattle.std.proofs.Common.{◌≡◌, take}
use Rattle.std.specs.List.{fold}
use Rattle.macho_symbol_names.specs.Hashing.{word_step}
use Rattle.macho_symbol_names.proofs.hashing.short_word.Given as goal

abbrev pub invariant-loop-byte : goal.invariant-loop-byte
invariant-loop-byte l = l.word ≡ fold word_step 0 (take l.byte-index l.bytes)
