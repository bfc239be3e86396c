-- What sections and commons cost.
--
-- No alignment passes that of a page. Where the sections alone don't fit, all don't; else the commons are added.
use Rattle.std.proofs.Common.{◌≤◌, List, All, sum_by, sym, ap, ◌∙◌, subst, arith}
use Rattle.macho_layout.specs.declared.spec.Planned.{Planned}
use Rattle.macho_layout.specs.declared.spec.CommonSpec.{CommonSpec}
use Rattle.macho_layout.specs.Plans.{Planning}
use Rattle.macho_layout.specs.Members.{placed_align}
use Rattle.macho_layout.specs.Sums.{fitting, section_cost, members_cost}
use Rattle.macho_layout.proofs.Costs.{fitting-none, fitting-some, aligns_small, members_split}
use Rattle.macho_layout.proofs.plan.Plan.members_cost.Goals as goal

pub sections_cost-requires : goal.sections_cost-requires
sections_cost-requires c =
    subst (λ (ss : List Planned). All (λ (s : Planned). placed_align c.template_align-template.result s.spec ≤ 14) ss)
    (sym c.deref.ensures.value)
    (aligns_small c.args.self.now c.self.inside.sections.items c.template_align-template.result
    (ap (λ (p : Planning). p.sections) (sym c.self.view_is)) c.template_align-template.ensures.value
    c.self.invariant.1.sections_small)

pub commons_cost-requires : goal.commons_cost-requires
commons_cost-requires c = subst (λ (cs : List CommonSpec). All (λ (c : CommonSpec). c.align ≤ 14) cs)
    (sym c.deref-2.ensures.value) c.self.invariant.1.commons_small

pub returns-in_err-sections : goal.returns-in_err-sections
returns-in_err-sections c =
    let split = members_split c.args.self.now c.self.inside.sections.items c.template_align-template.result
    (ap (λ (p : Planning). p.sections) (sym c.self.view_is)) c.template_align-template.ensures.value in
    let one = ap (λ (ss : List Planned). sum_by (λ (s : Planned). section_cost s.spec.size
    (placed_align c.template_align-template.result s.spec)) ss) c.deref.ensures.value in
    c.from_residual.ensures ∙ fitting-none _ (members_cost c.args.self.now) c.in_err-sections.ensures (omega (arith, split, one))

pub returns : goal.returns
returns c =
    let split = members_split c.args.self.now c.self.inside.sections.items c.template_align-template.result
    (ap (λ (p : Planning). p.sections) (sym c.self.view_is)) c.template_align-template.ensures.value in
    let one = ap (λ (ss : List Planned). sum_by (λ (s : Planned). section_cost s.spec.size
    (placed_align c.template_align-template.result s.spec)) ss) c.deref.ensures.value in
    let two = ap (λ (cs : List CommonSpec). sum_by (λ (c : CommonSpec). section_cost c.size c.align) cs)
    (c.deref-2.ensures.value ∙ ap (λ (p : Planning). p.commons) c.self.view_is) in
    let before = fitting-some _ _ c.in_ok-sections.ensures in
    c.commons_cost.ensures ∙ ap fitting (omega (arith, split, one, two, before))
