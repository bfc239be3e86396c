-- Each section is one of the placement.
use Rattle.std.proofs.Common.{arith, length, sym, ◌<◌}
use Rattle.std.specs.Prelude.{Contains}
use Rattle.macho_layout.specs.Placements.{placed_of}
use Rattle.macho_contents.proofs.least.least_fault.Goals as goal

pub loop-index-preserved : goal.loop-index-preserved
loop-index-preserved g c l all met =
    let lt : c.loop-index.index < length c.args.placement.now.sections.items = omega
    (arith, c.loop-index-test.true, c.len-index-end.ensures) in
    let here : Contains c.args.placement.now.sections.items c.index.result.now = (c.loop-index.index, lt, sym c.index.ensures) in
    c.least_in-told.ensures l (placed_of c.args.placement.now) all here (c.loop-index.invariant l all met)
