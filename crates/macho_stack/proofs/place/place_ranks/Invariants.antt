-- The cells of so many ranks: what holds before rank number k is that those of the first k ranks were added.
use Rattle.macho_stack.specs.Ranks.{AddsCells, of_ranks}
use Rattle.macho_stack.proofs.place.place_ranks.Given as goal

abbrev pub invariant-loop-rank : goal.invariant-loop-rank
invariant-loop-rank l = AddsCells (of_ranks l.first l.rank l.cells) l.start l.initial.placed.items l.placed.items l.place
