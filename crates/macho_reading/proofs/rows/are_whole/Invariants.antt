use Rattle.std.proofs.Common.{take, All}
use Rattle.macho_reading.specs.steps.Rows.{IsWhole}
use Rattle.macho_reading.proofs.rows.are_whole.Given as goal

abbrev pub invariant-loop-view : goal.invariant-loop-view
invariant-loop-view l = All IsWhole (take l.view-index l.views)
