-- After the last word nothing is left to read.
use Rattle.std.proofs.Common.{sym, ◌∙◌}
use Rattle.std.proofs.Math.ListN.{drop_of_length-le}
use Rattle.ld64_words.specs.steps.Words.{asked_of}
use Rattle.ld64_words.proofs.Turns.{read-nothing}
use Rattle.ld64_words.proofs.reading.Reading.read_words.Goals as goal

pub returns-clause-done : goal.returns-clause-done
returns-clause-done c =
    sym c.loop-i.invariant
    ∙ rw (drop_of_length-le c.args.words.now c.loop-i-test.false) (read-nothing c.loop-i.passed c.loop-i.i (asked_of c.loop-i.self))
