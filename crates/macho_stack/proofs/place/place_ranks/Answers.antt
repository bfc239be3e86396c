-- The cells of so many ranks.
--
-- No rank adds nothing. What the ranks so far cost and what the next one costs is what one rank more costs, which the bound
-- counts. The row of the next rank stands behind the others.
use Rattle.std.proofs.Common.{◌+◌, filter, sum_by, ap, arith}
use Rattle.std.proofs.lemmas.List.Sums.{sum_by-append}
use Rattle.macho_stack.specs.Ranks.{has_rank, of_ranks, cell_cost}
use Rattle.macho_stack.proofs.Ranks.{of_ranks-none, of_ranks-more, fewer-cost}
use Rattle.macho_stack.proofs.Adding.{adds_none, adds_more, adds-within}
use Rattle.macho_stack.proofs.place.place_ranks.Goals as goal

pub loop-rank-init : goal.loop-rank-init
loop-rank-init c = rw (of_ranks-none c.args.first c.args.cells.now) (adds_none _ _)

pub place_rank-requires-clause-room : goal.place_rank-requires-clause-room
place_rank-requires-clause-room c =
    let cells = c.args.cells.now in
    let first = c.args.first in
    let k = c.loop-rank.rank in
    let within = adds-within (of_ranks first k cells) c.args.start c.args.placed.now.items c.loop-rank.placed.items c.loop-rank.place
    c.loop-rank.invariant in
    let next = ap (sum_by cell_cost) (of_ranks-more first k cells) in
    let sums = sum_by-append cell_cost (of_ranks first k cells) (filter (has_rank (first + k)) cells) in
    let all = fewer-cost cell_cost first (k + 1) c.args.count cells (omega arith) in
    omega (arith, within, next, sums, all, c.requires.room)

pub loop-rank-preserved : goal.loop-rank-preserved
loop-rank-preserved c =
    let cells = c.args.cells.now in
    let first = c.args.first in
    let k = c.loop-rank.rank in
    let next = adds_more (of_ranks first k cells) (filter (has_rank (first + k)) cells) c.args.start c.args.placed.now.items
    c.loop-rank.placed.items
    c.place_rank.new.placed.items c.loop-rank.place c.in_ok-place.place c.loop-rank.invariant c.in_ok-place.ensures in
    rw (of_ranks-more first k cells) next
