use Rattle.std.proofs.Common.{arith}
use Rattle.macho_fields.proofs.Through.{stubs_more}
use Rattle.macho_fields.proofs.stubs.put_stubs.Goals as goal
use Rattle.macho_bytes.proofs.Comparing.{read_alike}

pub loop-index-preserved : goal.loop-index-preserved
loop-index-preserved g c =
    stubs_more
    (g.P.Places.look c.args.places.now) c.args.stubs.now c.loop-index.index _ c.in_ok-text.text c.loop-index.out c.put_text.new.out
    c.loop-index.invariant
    c.loop-index-test.true (read_alike c.args.stubs.now c.loop-index.index _ _ c.loop-index-test.true) c.in_ok-text.ensures.done
    (omega (arith, c.requires.room, c.loop-index.auto.out)) c.put_text.ensures
