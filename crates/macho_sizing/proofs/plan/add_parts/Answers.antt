-- Each part that is added is the link's.
use Rattle.std.proofs.Common.{List, subst, refl}
use Rattle.std.specs.Prelude.{All, Option}
use Rattle.macho_model.specs.Needs.{imports_of}
use Rattle.macho_object.specs.Views.{FileBytes}
use Rattle.macho_promise.specs.Views.{ViewsObject}
use Rattle.macho_sizing.proofs.PlanOf.{commons_small, plan_is}
use Rattle.macho_sizing.proofs.plan.add_parts.Goals as goal

pub add_commons-requires : goal.add_commons-requires
add_commons-requires c =
    let l = c.requires.link.0 in
    commons_small l c.commons.result.now (subst (λ (vs : List (Option FileBytes)). All ViewsObject vs) c.requires.link.1 c.requires.rules)
    (c.commons.ensures l (imports_of l) c.requires.link.2)

pub returns : goal.returns
returns c l new views needs resolved =
    plan_is l c.args.plan.now c.plan_sections.new.plan c.add_commons.new.plan c.add_slots.new.plan c.add_stubs.new.plan l.executable
    c.args.views.now c.commons.result.now c.args.needs.now.tables.slots c.args.needs.now.tables.stubs refl views
    (c.commons.ensures l (imports_of l) resolved) needs.slots needs.stubs new c.in_ok-plan_sections.ensures
    c.in_ok-add_commons.ensures c.in_ok-add_slots.ensures c.in_ok-add_stubs.ensures
