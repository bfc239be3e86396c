-- All segments.
--
-- No row is placed at the base. The next row has room, since its cells are some of all cells and it costs a page more; what is behind it is
-- still below the bound.
use Rattle.std.proofs.Common.{length, arith}
use Rattle.macho_stack.proofs.RowSteps.{rows_none, row_room, after_row}
use Rattle.macho_stack.proofs.rows.place_rows.Goals as goal

pub loop-number-init : goal.loop-number-init
loop-number-init c = rw (c.new-segments.ensures.items, c.new-placed.ensures.items) (rows_none _ _ _ _)

pub place_row-requires-clause-room : goal.place_row-requires-clause-room
place_row-requires-clause-room c =
    omega (
      arith,
      c.front_at.ensures,
      row_room c.args.names.now c.args.cells.now c.args.base c.args.head c.loop-number.number
          (length c.args.names.now) c.loop-number.segments.items c.loop-number.placed.items
          c.loop-number.address c.loop-number.offset c.loop-number-test.true c.requires.room c.loop-number.invariant,
    )

pub overflow_add-address : goal.overflow_add-address
overflow_add-address c =
    omega (
      arith,
      (after_row c.args.names.now c.args.cells.now c.args.base c.args.head c.loop-number.number c.loop-number.segments.items
          c.loop-number.placed.items c.place_row.new.placed.items
          c.loop-number.address c.loop-number.offset _ c.front_at.result c.in_ok-segment.segment c.loop-number-test.true c.front_at.ensures
          c.requires.room c.loop-number.invariant c.in_ok-segment.ensures).address_fits,
    )

pub overflow_add-offset : goal.overflow_add-offset
overflow_add-offset c =
    omega (
      arith,
      (after_row c.args.names.now c.args.cells.now c.args.base c.args.head c.loop-number.number c.loop-number.segments.items
          c.loop-number.placed.items c.place_row.new.placed.items
          c.loop-number.address c.loop-number.offset _ c.front_at.result c.in_ok-segment.segment c.loop-number-test.true c.front_at.ensures
          c.requires.room c.loop-number.invariant c.in_ok-segment.ensures).offset_fits,
    )

pub loop-number-preserved : goal.loop-number-preserved
loop-number-preserved c =
    let more = after_row c.args.names.now c.args.cells.now c.args.base c.args.head c.loop-number.number c.loop-number.segments.items
    c.loop-number.placed.items c.place_row.new.placed.items
    c.loop-number.address c.loop-number.offset _ c.front_at.result c.in_ok-segment.segment c.loop-number-test.true c.front_at.ensures
    c.requires.room c.loop-number.invariant c.in_ok-segment.ensures in
    rw (c.in_ok-push.ensures.items) more.rows
