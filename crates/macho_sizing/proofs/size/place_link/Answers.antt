-- The placement is one of the link, and it keeps the limits that the sizes alone didn't tell.
use Rattle.macho_layout.specs.Placements.{placed_of}
use Rattle.macho_sizing.proofs.Answered.{limits_hold}
use Rattle.macho_sizing.proofs.size.place_link.Goals as goal

pub returns-clause-done : goal.returns-clause-done
returns-clause-done c l exports planned =
    let answered = c.in_ok-placement.ensures.done l planned.plan planned.sizes.counted in
    record {
      counted = planned.sizes.counted;
      placed = answered.laid.placed;
      planned = answered.laid.planned;
      limits = limits_hold l exports c.args.planned.sizes (placed_of c.in_ok-placement.placement) planned.sizes answered;
      listed = planned.sizes.listed;
      reserved = planned.sizes.reserved;
      room = planned.sizes.room;
    }
