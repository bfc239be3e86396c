-- Where all are UTF-8, so is this one.
use Rattle.std.proofs.lemmas.Result.{err_from_is_err_and}
use Rattle.ld64_words.proofs.Bytes.{utf8-at}
use Rattle.ld64_words.proofs.files.all_texts.Goals as goal

pub returns-in_err-text_of-clause-only : goal.returns-in_err-text_of-clause-only
returns-in_err-text_of-clause-only c = λ all.
    let e = err_from_is_err_and c.from_residual.result c.from_residual.ensures.1 in
    let here = utf8-at c.args.texts.now c.loop-text.text-index c.text-item.result c.deref.result.now
    c.loop-text-test.true c.text-item.is c.deref.ensures.value all in
    rw (e.1, e.2) (c.in_err-text_of.ensures.only here)
