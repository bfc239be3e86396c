-- One stub more is added at the end.
use Rattle.std.proofs.Common.{refl}
use Rattle.macho_layout.proofs.Numbered.{numbered_more}
use Rattle.macho_layout.proofs.places.placed_stubs.Goals as goal

pub loop-number-preserved : goal.loop-number-preserved
loop-number-preserved c =
    rw (c.in_ok-push.ensures.items, c.behind.ensures)
    (numbered_more _ c.args.specs.now c.loop-number.number _ c.loop-number.stubs.items _ c.loop-number-test.true refl
    c.loop-number.invariant)
