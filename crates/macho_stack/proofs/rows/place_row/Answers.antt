-- A row: what it needs is what its front and its cells cost, and a page.
use Rattle.std.proofs.Common.{◌+◌, ◌*◌, ◌-◌, ◌∙◌, arith}
use Rattle.macho_stack.proofs.Ranks.{fewer-cost}
use Rattle.macho_stack.specs.Ranks.{cell_cost}
use Rattle.macho_stack.proofs.RowSteps.{spans_row, room_of_zeros, paged, paged-near, adds_row}
use Rattle.macho_stack.proofs.rows.place_row.Goals as goal

pub place_ranks-requires-clause-room : goal.place_ranks-requires-clause-room
place_ranks-requires-clause-room c = omega (
  arith,
  c.requires.room,
  fewer-cost cell_cost (9 * c.args.row.number) 6 9 c.args.cells.now
      (omega arith),
)

pub place_ranks-requires-2-clause-room : goal.place_ranks-requires-2-clause-room
place_ranks-requires-2-clause-room c =
    omega (
      arith,
      c.requires.room,
      room_of_zeros c.args.cells.now (9 * c.args.row.number)
          (c.args.row.address + c.args.row.front) c.in_ok-filled.filled _ _ c.in_ok-filled.ensures,
    )

pub overflow_sub-end : goal.overflow_sub-end
overflow_sub-end c =
    let s = spans_row c.args.cells.now (9 * c.args.row.number) (c.args.row.address +
    c.args.row.front) c.in_ok-filled.filled c.in_ok-end.end _ _ _ c.in_ok-filled.ensures c.in_ok-end.ensures in
    omega (arith, s.low, s.high)

pub next_multiple_of-requires-clause-fits : goal.next_multiple_of-requires-clause-fits
next_multiple_of-requires-clause-fits c =
    let s = spans_row c.args.cells.now (9 * c.args.row.number) (c.args.row.address +
    c.args.row.front) c.in_ok-filled.filled c.in_ok-end.end _ _ _ c.in_ok-filled.ensures c.in_ok-end.ensures in
    omega (arith, s.near, c.requires.room, paged (c.in_ok-end.end - c.args.row.address), paged-near (c.in_ok-end.end - c.args.row.address))

pub overflow_sub-filled : goal.overflow_sub-filled
overflow_sub-filled c =
    let s = spans_row c.args.cells.now (9 * c.args.row.number) (c.args.row.address +
    c.args.row.front) c.in_ok-filled.filled c.in_ok-end.end _ _ _ c.in_ok-filled.ensures c.in_ok-end.ensures in
    omega (arith, s.low)

pub next_multiple_of-requires-2-clause-fits : goal.next_multiple_of-requires-2-clause-fits
next_multiple_of-requires-2-clause-fits c =
    let s = spans_row c.args.cells.now (9 * c.args.row.number) (c.args.row.address +
    c.args.row.front) c.in_ok-filled.filled c.in_ok-end.end _ _ _ c.in_ok-filled.ensures c.in_ok-end.ensures in
    omega (
      arith,
      s.near,
      s.high,
      c.requires.room,
      paged (c.in_ok-filled.filled - c.args.row.address),
      paged-near
          (c.in_ok-filled.filled - c.args.row.address),
    )

pub returns : goal.returns
returns c =
    adds_row c.args.cells.now c.args.row _ _ _ c.in_ok-filled.filled c.in_ok-end.end _ _ c.in_ok-filled.ensures c.in_ok-end.ensures
    (c.next_multiple_of.ensures.value ∙ paged (c.in_ok-end.end - c.args.row.address))
    (c.next_multiple_of-2.ensures.value ∙ paged (c.in_ok-filled.filled - c.args.row.address))
