-- The starts of cells.
--
-- The start of the next cell is written at its number. The cells before it have other numbers, where no two have one number, so their
-- starts stay.
use Rattle.macho_stack.proofs.Starting.{starts_more}
use Rattle.macho_stack.proofs.place.starts.Goals as goal

pub loop-one-preserved : goal.loop-one-preserved
loop-one-preserved c =
    starts_more c.args.count c.args.placed.now c.loop-one.starts.items c.loop-one.one-index _ c.loop-one-test.true c.requires
    c.loop-one.invariant
