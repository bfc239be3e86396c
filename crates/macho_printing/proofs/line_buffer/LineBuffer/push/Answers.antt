-- What was held is printed, or refused; then the text is pushed behind nothing.
use Rattle.std.proofs.lemmas.Result.{err_from_is_err_and}
use Rattle.macho_printing.proofs.Pushes.{flush-refused, flushed-pushed}
use Rattle.macho_printing.proofs.line_buffer.LineBuffer.push.Goals as goal

pub returns-in_err-flush-in-Err : goal.returns-in_err-flush-in-Err
returns-in_err-flush-in-Err g c =
    let p = err_from_is_err_and c.from_residual.result c.from_residual.ensures.1 in
    flush-refused _ _ _ _ _ c.from_residual.result p.0 p.1 (rw c.in-Err.ensures.err at c.in_err-flush-in-Err.ensures.printed.left)
    c.in_err-flush-in-Err.ensures.printed.why c.in_err-flush-in-Err.ensures.printed.counted

pub returns-in_ok-flush-in-Err : goal.returns-in_ok-flush-in-Err
returns-in_ok-flush-in-Err g c =
    flushed-pushed _ _ _ _ _ _ c.push_first.result (rw c.in-Err.ensures.err at c.in_ok-flush-in-Err.ensures.printed.done)
    c.in_ok-flush-in-Err.ensures.printed.counted c.push_first.ensures
