-- The texts so far are added.
use Rattle.std.proofs.Common.{◌≡◌, ◌++◌, map, take}
use Rattle.std.specs.String.{string_bytes}
use Rattle.ld64_words.proofs.adding.add_texts.Given as goal

abbrev pub invariant-loop-text : goal.invariant-loop-text
invariant-loop-text l =
    map string_bytes l.texts.items ≡ map string_bytes l.fn.texts.items ++ map string_bytes (take l.text-index l.more)
