-- Where all are UTF-8, so is this one.
use Rattle.std.proofs.lemmas.Result.{err_from_is_err_and}
use Rattle.ld64_words.proofs.Bytes.{utf8-at}
use Rattle.ld64_words.proofs.files.all_inputs.Goals as goal

pub returns-in_err-input_of-clause-only : goal.returns-in_err-input_of-clause-only
returns-in_err-input_of-clause-only c = λ all.
    let e = err_from_is_err_and c.from_residual.result c.from_residual.ensures.1 in
    let here = utf8-at c.args.paths.now c.loop-path.path-index c.path-item.result c.deref.result.now
    c.loop-path-test.true c.path-item.is c.deref.ensures.value all in
    rw (e.1, e.2) (c.in_err-input_of.ensures.only here)
