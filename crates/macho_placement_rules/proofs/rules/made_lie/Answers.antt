-- Whether what the linker makes lies in its segments: two ranges, and the tables.
use Rattle.std.proofs.Common.{sym, ◌∙◌}
use Rattle.macho_layout.specs.Placements.{placed_of}
use Rattle.macho_placement_rules.proofs.Rooms.{on_weaker}
use Rattle.macho_placement_rules.proofs.rules.made_lie.Goals as goal

pub returns-then-not-range_lies-clause-only : goal.returns-then-not-range_lies-clause-only
returns-then-not-range_lies-clause-only c = λ made.
    sym c.if-not-range_lies.true ∙ c.range_lies.ensures.only (placed_of c.args.placement.now) (sym c.as_slice-segments.ensures.value)
    made.offsets

pub returns-then-not-range_lies-2-clause-only : goal.returns-then-not-range_lies-2-clause-only
returns-then-not-range_lies-2-clause-only c = λ made.
    sym c.if-not-range_lies-2.true ∙ c.range_lies-2.ensures.only (placed_of c.args.placement.now) (sym c.as_slice-segments.ensures.value)
    made.unwind

pub returns-clause-found : goal.returns-clause-found
returns-clause-found c =
    on_weaker c.tables_lie.result
    (λ tables. record {
      offsets = c.if-not-range_lies.ensures.found (placed_of c.args.placement.now) (sym c.as_slice-segments.ensures.value);
      unwind = c.if-not-range_lies-2.ensures.found (placed_of c.args.placement.now) (sym c.as_slice-segments.ensures.value);
      tables = tables;
    })
    (c.tables_lie.ensures.found (placed_of c.args.placement.now) (sym c.as_slice-segments.ensures.value))
