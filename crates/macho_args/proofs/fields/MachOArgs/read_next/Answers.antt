-- A value is passed over, and another word is read: one turn of the fold.
use Rattle.std.proofs.Common.{◌+◌}
use Rattle.std.proofs.lemmas.List.{take_rest}
use Rattle.macho_args.specs.steps.KeptRoot.{keep_root}
use Rattle.macho_args.proofs.Reading.{turn-value, turn-done, turn-why}
use Rattle.macho_args.proofs.fields.MachOArgs.read_next.Goals as goal

pub returns-then-values-gt0-clause-done : goal.returns-then-values-gt0-clause-done
returns-then-values-gt0-clause-done c = turn-value keep_root c.args.words.now c.args.place c.args.values _ c.if-values-gt0.true

pub returns-clause-done : goal.returns-clause-done
returns-clause-done c =
    turn-done keep_root c.args.words.now c.args.place c.args.values c.index-words-place.result c.as_str.result.now _ _ _
    c.if-values-gt0.false c.requires.within c.index-words-place.is
    c.as_str.ensures.value (take_rest c.args.words.now (c.args.place + 1)) _ c.read_word.ensures.done

pub returns-clause-why : goal.returns-clause-why
returns-clause-why c =
    turn-why keep_root c.args.words.now c.args.place c.args.values c.index-words-place.result c.as_str.result.now _ _ _
    c.if-values-gt0.false c.requires.within c.index-words-place.is
    c.as_str.ensures.value (take_rest c.args.words.now (c.args.place + 1)) c.read_word.ensures.why
