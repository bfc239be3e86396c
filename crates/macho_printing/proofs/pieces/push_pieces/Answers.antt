-- The pieces before are pushed, and this one is, or a front of it is taken.
use Rattle.std.proofs.lemmas.Result.{err_from_is_err_and}
use Rattle.macho_printing.specs.Printing.{piece_text}
use Rattle.macho_devices.proofs.Counts.{counts-since}
use Rattle.macho_printing.proofs.Pushes.{piece-pushed, piece-refused}
use Rattle.macho_printing.proofs.pieces.push_pieces.Goals as goal

pub returns-in_err-push_piece : goal.returns-in_err-push_piece
returns-in_err-push_piece g c =
    let p = err_from_is_err_and c.from_residual.result c.from_residual.ensures.1 in
    piece-refused piece_text c.args.pieces.now c.loop-index.index _ _ _ _ _ _ _ c.from_residual.result p.0 p.1 c.loop-index-test.true
    c.loop-index.invariant.0 c.in_err-push_piece.ensures.left c.loop-index.invariant.1 c.in_err-push_piece.ensures.counted
    c.in_err-push_piece.ensures.why

pub loop-index-preserved : goal.loop-index-preserved
loop-index-preserved g c = (
  piece-pushed piece_text c.args.pieces.now c.loop-index.index _ _ _ _ _ _ _ c.loop-index-test.true c.loop-index.invariant.0
      c.in_ok-push_piece.ensures.done,
  counts-since _ _ _ c.loop-index.invariant.1 c.in_ok-push_piece.ensures.counted,
)
