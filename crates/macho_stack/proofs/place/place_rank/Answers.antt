-- The cells of a rank.
--
-- The row so far passes its start by what its cells cost, and the next cell of the rank is one of those that the bound counts, so it has
-- room. It makes the row longer; a cell of another rank is passed over.
use Rattle.std.proofs.Common.{◌^◌, get_or, filter, take, arith}
use Rattle.std.proofs.lemmas.Bool.{eq-eqb, ne_eqb}
use Rattle.std.proofs.lemmas.Nat.{pow_pos}
use Rattle.macho_stack.specs.declared.place.Cell.{Cell}
use Rattle.macho_stack.specs.Ranks.{has_rank}
use Rattle.macho_stack.proofs.Adding.{adds_none, adds_one, filter_next, filter_passed, room_in_rank}
use Rattle.macho_stack.proofs.place.place_rank.Goals as goal
use Rattle.macho_stack.proofs.place.place_rank.Goals.{then-cell-rank+in_ok-push, else-cell-rank}
use Rattle.macho_bytes.proofs.Rounding.{rounded-near}

abbrev blank : Cell
blank = record { number = 0; rank = 0; exponent = 0; size = 0 }

pub aligned-start-requires-clause-room : goal.aligned-start-requires-clause-room
aligned-start-requires-clause-room c =
    omega (
      arith,
      room_in_rank c.args.cells.now c.args.rank c.args.start c.args.placed.now.items c.loop-cell.placed.items c.loop-cell.place
          c.loop-cell.cell-index blank
          c.loop-cell-test.true c.if-cell-rank.true c.loop-cell.invariant c.requires.room,
    )

pub overflow_add-place : goal.overflow_add-place
overflow_add-place c =
    let room = room_in_rank c.args.cells.now c.args.rank c.args.start c.args.placed.now.items c.loop-cell.placed.items c.loop-cell.place
    c.loop-cell.cell-index blank
    c.loop-cell-test.true c.if-cell-rank.true c.loop-cell.invariant c.requires.room in
    let e = (get_or c.args.cells.now c.loop-cell.cell-index blank).exponent in
    let near = rounded-near (2 ^ (get_or c.args.cells.now c.loop-cell.cell-index blank).exponent) c.loop-cell.place
    (pow_pos (get_or c.args.cells.now c.loop-cell.cell-index blank).exponent) in
    omega (arith, room, near, c.aligned-start.ensures)

pub loop-cell-init : goal.loop-cell-init
loop-cell-init c = adds_none _ _

pub loop-cell-preserved : goal.loop-cell-preserved
loop-cell-preserved c =
    let cells = c.args.cells.now in
    let i = c.loop-cell.cell-index in
    let low = c.loop-cell-test.true in
    elim c.if-cell-rank.branch [
      | then-cell-rank+in_ok-push w ↦
          let more = filter_next (has_rank c.args.rank) cells i blank low (eq-eqb _ _ w.if-cell-rank.true) in
          let next = adds_one (filter (has_rank c.args.rank) (take i cells)) c.args.start c.args.placed.now.items c.loop-cell.placed.items
          w.push.new.self.items c.loop-cell.place
          (record { cell = get_or cells i blank; start = w.aligned-start.result }) w.in_ok-push.ensures.items w.aligned-start.ensures
          c.loop-cell.invariant in
          rw (more, w.placed-is, w.place-is) next
      | else-cell-rank w ↦
          let same = filter_passed (has_rank c.args.rank) cells i blank low (ne_eqb _ _ w.if-cell-rank.false) in
          rw (same, w.placed-is, w.place-is) c.loop-cell.invariant
    ]
