-- One section more is added at the end.
use Rattle.std.proofs.Common.{refl}
use Rattle.macho_layout.proofs.Numbered.{numbered_more}
use Rattle.macho_layout.proofs.places.placed_sections.Goals as goal

pub loop-number-preserved : goal.loop-number-preserved
loop-number-preserved c =
    rw (c.in_ok-push.ensures.items, c.placed_section.ensures, c.address_at-address.ensures)
    (numbered_more _ c.args.sections.now c.loop-number.number _ c.loop-number.placed.items _ c.loop-number-test.true refl
    c.loop-number.invariant)
