-- All cells: what holds before number k is that the list has those of the first k merged output sections.
use Rattle.std.proofs.Common.{◌≡◌, map}
use Rattle.std.specs.List.{range_with_len}
use Rattle.macho_stack.specs.Stacks.{extent_at}
use Rattle.macho_layout.specs.Cells.{merged_cell}
use Rattle.macho_layout.proofs.plan.Plan.cells.Given as goal

abbrev pub invariant-loop-number : goal.invariant-loop-number
invariant-loop-number l = l.cells.items ≡ map (λ number. merged_cell l.self l.names number (extent_at l.extents number))
    (range_with_len 0 l.number)
