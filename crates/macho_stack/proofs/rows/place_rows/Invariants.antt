-- All segments: what holds before number k is that the first k rows were placed.
use Rattle.macho_stack.specs.Rows.{AreRows}
use Rattle.macho_stack.proofs.rows.place_rows.Given as goal

abbrev pub invariant-loop-number : goal.invariant-loop-number
invariant-loop-number l = AreRows l.names l.cells l.base l.head l.number l.segments.items l.placed.items l.address l.offset
