-- Whether each part lies in its segment: sections, commons, slots, stubs, and what the linker makes.
use Rattle.std.proofs.Common.{◌∷◌, [], sym, refl, ◌∙◌, arith}
use Rattle.std.proofs.lemmas.Bool.{OnTrue_at}
use Rattle.std.proofs.lemmas.List.Elements.{All-cons, All-nil}
use Rattle.macho_layout.specs.Placements.{placed_of}
use Rattle.macho_placement_rules.specs.Lists.{RangeLies}
use Rattle.macho_placement_rules.proofs.Rooms.{on_weaker}
use Rattle.macho_placement_rules.proofs.rules.lie_in_segments.Goals as goal

pub returns-then-not-commons-clause-only : goal.returns-then-not-commons-clause-only
returns-then-not-commons-clause-only c = λ l are whole lie.
    sym c.if-not-commons.true ∙ c.in_ok-commons.ensures.only l _ are.plan refl whole lie.commons

pub returns-clause-found : goal.returns-clause-found
returns-clause-found c = λ l are whole.
    let p = placed_of c.args.placement.now in
    on_weaker c.made_lie.result
    (λ made. record {
      sections = c.if-not-sections_lie.ensures.found l are.plan.sections whole.sections;
      commons = OnTrue_at c.if-not-commons.false (c.in_ok-commons.ensures.found l _ are.plan refl whole);
      slots = OnTrue_at c.if-not-slots.false c.in_ok-slots.ensures.found;
      stubs = OnTrue_at c.if-not-stubs.false c.in_ok-stubs.ensures.found;
      ranges = All-cons (RangeLies p) p.init_offsets (p.unwind ∷ []) made.offsets
          (All-cons (RangeLies p) p.unwind [] made.unwind (All-nil (RangeLies p)));
      linkedit = made.tables;
    })
    c.made_lie.ensures.found

pub returns-clause-only : goal.returns-clause-only
returns-clause-only c = λ l are whole lie.
    c.made_lie.ensures.only (record {
      offsets = lie.ranges 0 c.args.placement.now.init_offsets (omega arith);
      unwind = lie.ranges 1 c.args.placement.now.unwind (omega arith);
      tables = lie.linkedit;
    })
