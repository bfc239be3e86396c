-- The lines before are pushed, and this one is, or a front of it is taken.
use Rattle.std.proofs.lemmas.Result.{err_from_is_err_and}
use Rattle.macho_devices.proofs.Counts.{counts-since}
use Rattle.macho_inspect.specs.Lines.{line_text}
use Rattle.macho_inspect.proofs.Texts.{item-pushed, item-refused}
use Rattle.macho_inspect.proofs.lines.push_lines.Goals as goal

pub returns-in_err-push : goal.returns-in_err-push
returns-in_err-push g c =
    let p = err_from_is_err_and c.from_residual.result c.from_residual.ensures.1 in
    item-refused (λ x. line_text (g.T.Line.pieces x)) c.args.items.now c.loop-index.index c.index-items-index.result _ _ _ _ _ _
    c.from_residual.result p.0 p.1 c.loop-index-test.true c.index-items-index.is c.loop-index.invariant.0 c.in_err-push.ensures.left
    c.loop-index.invariant.1 c.in_err-push.ensures.counted c.in_err-push.ensures.why

pub loop-index-preserved : goal.loop-index-preserved
loop-index-preserved g c = (
  item-pushed (λ x. line_text (g.T.Line.pieces x)) c.args.items.now c.loop-index.index c.index-items-index.result _ _ _ _ _ _
      c.loop-index-test.true c.index-items-index.is c.loop-index.invariant.0 c.in_ok-push.ensures.done,
  counts-since _ _ _ c.loop-index.invariant.1 c.in_ok-push.ensures.counted,
)
