-- An operand is passed over, and another word is read: one turn of the fold.
use Rattle.std.proofs.Common.{◌+◌}
use Rattle.std.proofs.lemmas.List.{take_rest}
use Rattle.ld64_words.proofs.Turns.{turn-operand, turn-done, turn-why}
use Rattle.ld64_words.proofs.reading.Reading.read_next.Goals as goal

pub returns-then-passed-gt0-clause-done : goal.returns-then-passed-gt0-clause-done
returns-then-passed-gt0-clause-done c = turn-operand c.args.words.now c.args.place c.args.passed _ c.if-passed-gt0.true

pub returns-clause-done : goal.returns-clause-done
returns-clause-done c =
    turn-done c.args.words.now c.args.place c.args.passed c.index-words-place.result c.as_str.result.now _ _ _
    c.if-passed-gt0.false c.requires.within c.index-words-place.is
    c.as_str.ensures.value (take_rest c.args.words.now (c.args.place + 1)) _ c.read_word.ensures.done

pub returns-clause-why : goal.returns-clause-why
returns-clause-why c =
    turn-why c.args.words.now c.args.place c.args.passed c.index-words-place.result c.as_str.result.now _ _ _
    c.if-passed-gt0.false c.requires.within c.index-words-place.is
    c.as_str.ensures.value (take_rest c.args.words.now (c.args.place + 1)) c.read_word.ensures.why
