-- The operands are all there, and the row adds what its effect adds.
use Rattle.std.proofs.Common.{arith, refl, take}
use Rattle.std.proofs.lemmas.Result.{err_from_is_err_and}
use Rattle.ld64_words.specs.Rows.{row_said}
use Rattle.ld64_words.specs.steps.Words.{asked_of}
use Rattle.ld64_words.proofs.Readings.{row-added, row-refused}
use Rattle.ld64_words.proofs.reading.Reading.read_word.Goals as goal

pub returns-in_err-add-clause-why : goal.returns-in_err-add-clause-why
returns-in_err-add-clause-why c =
    let e = err_from_is_err_and c.from_residual.result c.from_residual.ensures.1 in
    rw (e.1, e.2)
    (row-refused (row_said c.row_for-row.result) _ c.args.place c.count-count.result c.args.word.now c.operand-text.result.now
    c.args.behind.now (take c.count-count.result c.args.behind.now) (asked_of c.args.self.now) c.row_for-row.ensures c.count-count.ensures
    (omega arith) c.operand-text.ensures refl _ c.in_err-add.ensures.why)

pub returns-clause-done : goal.returns-clause-done
returns-clause-done c =
    row-added (row_said c.row_for-row.result) _ c.args.place c.count-count.result c.args.word.now c.operand-text.result.now
    c.args.behind.now (take c.count-count.result c.args.behind.now) (asked_of c.args.self.now) c.row_for-row.ensures c.count-count.ensures
    (omega arith) c.operand-text.ensures refl _ c.in_ok-add.ensures.done
