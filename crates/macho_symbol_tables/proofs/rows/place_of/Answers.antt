-- Half of the objects that are left fall away: those before the middle, or those from it on.
use Rattle.std.proofs.Common.{◌+◌, ◌-◌, ◌/◌, arith}
use Rattle.macho_symbol_tables.proofs.Numbered.{number_at, goes_up, goes_down}
use Rattle.macho_symbol_tables.proofs.rows.place_of.Goals as goal

pub loop-low-preserved-then-objects-middle : goal.loop-low-preserved-then-objects-middle
loop-low-preserved-then-objects-middle c =
    let middle = c.loop-low.low + (c.loop-low.high - c.loop-low.low) / 2 in
    let number = number_at c.args.objects.now middle c.index-objects-middle.result
    (omega (arith, c.loop-low-test.true, c.loop-low.invariant.within)) in
    goes_up c.args.objects.now c.args.number c.loop-low.low c.loop-low.high middle c.requires.rise c.loop-low.invariant
    (omega (arith, c.loop-low-test.true)) (omega (arith, number, c.if-objects-middle.true))

pub loop-low-preserved : goal.loop-low-preserved
loop-low-preserved c =
    let middle = c.loop-low.low + (c.loop-low.high - c.loop-low.low) / 2 in
    let number = number_at c.args.objects.now middle c.index-objects-middle.result
    (omega (arith, c.loop-low-test.true, c.loop-low.invariant.within)) in
    goes_down c.args.objects.now c.args.number c.loop-low.low c.loop-low.high middle c.requires.rise c.loop-low.invariant
    (omega arith) (omega (arith, c.loop-low-test.true)) (omega (arith, number, c.if-objects-middle.false))
