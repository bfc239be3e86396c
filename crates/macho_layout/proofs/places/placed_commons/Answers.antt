-- One common more is added at the end.
use Rattle.std.proofs.Common.{refl}
use Rattle.macho_layout.proofs.Numbered.{numbered_more}
use Rattle.macho_layout.proofs.places.placed_commons.Goals as goal

pub loop-number-preserved : goal.loop-number-preserved
loop-number-preserved c =
    rw (c.in_ok-push.ensures.items, c.address_at.ensures)
    (numbered_more _ c.args.commons.now c.loop-number.number _ c.loop-number.placed.items _ c.loop-number-test.true refl
    c.loop-number.invariant)
