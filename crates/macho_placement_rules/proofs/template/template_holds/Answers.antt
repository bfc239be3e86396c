-- Whether the template is told exactly where it has sections, and its range is right.
--
-- The plan has a section of the template exactly where the link has one. Where it has none, no range may be told; else the range suits all
-- sections and parts exactly where it holds the template.
use Rattle.std.proofs.Common.{sym, ◌∙◌}
use Rattle.macho_layout.specs.Placements.{placed_of}
use Rattle.macho_placement_rules.proofs.Rooms.{on_weaker}
use Rattle.macho_placement_rules.proofs.TemplateLaw.{untold, none_planned, some_planned, ranged, suited}
use Rattle.macho_placement_rules.proofs.template.template_holds.Goals as goal

pub returns-in-None-clause-found : goal.returns-in-None-clause-found
returns-in-None-clause-found c = λ l counts told ids made.
    untold l counts c.args.specs.now (placed_of c.args.placement.now) told ids c.args.parts.now made _ c.has_template-told.result
    c.in-None.is c.has_template-told.ensures

pub returns-in-None-clause-only : goal.returns-in-None-clause-only
returns-in-None-clause-only c = λ l counts told ids made holds.
    none_planned l counts c.args.specs.now (placed_of c.args.placement.now) told ids c.args.parts.now made _ c.has_template-told.result
    c.in-None.is c.has_template-told.ensures holds

pub returns-then-told-clause-found : goal.returns-then-told-clause-found
returns-then-told-clause-found c = λ l counts told ids made.
    on_weaker c.suits_all.result
    (ranged l counts c.args.specs.now (placed_of c.args.placement.now) told ids c.args.parts.now made _ c.in-Some.range
    c.as_slice.result.now c.in-Some.is c.as_slice.ensures.value (sym c.has_template-told.ensures ∙ c.if-told.true))
    c.suits_all.ensures.found

pub returns-then-told-clause-only : goal.returns-then-told-clause-only
returns-then-told-clause-only c = λ l counts told ids made holds.
    c.suits_all.ensures.only (suited l counts c.args.specs.now (placed_of c.args.placement.now) told ids c.args.parts.now made _
    c.in-Some.range c.as_slice.result.now c.in-Some.is c.as_slice.ensures.value holds)

pub returns-else-told-clause-only : goal.returns-else-told-clause-only
returns-else-told-clause-only c = λ l counts told ids made holds.
    some_planned l counts c.args.specs.now (placed_of c.args.placement.now) told ids c.args.parts.now made _ c.in-Some.range
    c.has_template-told.result c.in-Some.is c.has_template-told.ensures holds
