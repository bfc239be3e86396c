-- Whether segments are in order: whole pages, one behind the other, from the base on.
use Rattle.std.proofs.Common.{List, All, sym, ◌∙◌, subst}
use Rattle.macho_model.specs.declared.placed.PlacedSegment.{PlacedSegment}
use Rattle.macho_model.specs.Lists.{EachNext}
use Rattle.macho_model.specs.Placement.{Follows, IsPaged}
use Rattle.macho_placement_rules.proofs.Rooms.{on_weaker}
use Rattle.macho_placement_rules.proofs.rules.are_in_order.Goals as goal

pub returns-then-not-follow-clause-only : goal.returns-then-not-follow-clause-only
returns-then-not-follow-clause-only c = λ l are ordered.
    sym c.if-not-follow.true ∙ c.follow.ensures.only l are.others
    (subst (λ (gs : List PlacedSegment). EachNext (Follows l) gs) (sym c.as_slice-segments.ensures.value) ordered.follow)

pub returns-clause-found : goal.returns-clause-found
returns-clause-found c = λ l are.
    on_weaker c.begins.result
    (λ first. record {
      paged = subst (λ (gs : List PlacedSegment). All IsPaged gs) c.as_slice-segments.ensures.value c.if-not-are_paged.ensures.found;
      follow = subst (λ (gs : List PlacedSegment). EachNext (Follows l) gs) c.as_slice-segments.ensures.value
          (c.if-not-follow.ensures.found l are.others);
      begins = first;
    })
    (c.begins.ensures.found l (sym are.plan.executable))

pub returns-clause-only : goal.returns-clause-only
returns-clause-only c = λ l are ordered. c.begins.ensures.only l (sym are.plan.executable) ordered.begins
