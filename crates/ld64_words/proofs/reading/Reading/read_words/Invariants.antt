-- What is left of the words, read from what is read so far, is what all words ask for.
use Rattle.std.proofs.Common.{◌≡◌, map, drop}
use Rattle.std.specs.String.{string_bytes}
use Rattle.ld64_words.specs.Words.{read_from}
use Rattle.ld64_words.specs.steps.Words.{asked_of}
use Rattle.ld64_words.proofs.reading.Reading.read_words.Given as goal

abbrev pub invariant-loop-i : goal.invariant-loop-i
invariant-loop-i l =
    read_from l.passed l.i (map string_bytes (drop l.i l.words)) (asked_of l.self)
    ≡ read_from 0 0 (map string_bytes l.words) (asked_of l.fn.self)
