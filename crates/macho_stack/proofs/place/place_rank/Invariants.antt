-- The cells of a rank: what holds before cell k is that those of the first k with the rank were added.
use Rattle.std.proofs.Common.{take, filter}
use Rattle.macho_stack.specs.Ranks.{AddsCells, has_rank}
use Rattle.macho_stack.proofs.place.place_rank.Given as goal

abbrev pub invariant-loop-cell : goal.invariant-loop-cell
invariant-loop-cell l = AddsCells (filter (has_rank l.rank) (take l.cell-index l.cells)) l.start l.initial.placed.items l.placed.items
    l.place
