-- Sections and commons in their output sections: each member has a number that is there, no alignment passes a page's, and
-- together they cost what the sum counts.
use Rattle.std.proofs.Common.{◌≡◌, ℕ, ◌<◌, ◌≤◌, List, All, length, sum_by, sym, ap, ◌∙◌, subst, arith}
use Rattle.macho_stack.specs.declared.members.Member.{Member}
use Rattle.macho_stack.specs.Costs.{cost_of}
use Rattle.macho_layout.specs.declared.spec.SectionSpec.{SectionSpec}
use Rattle.macho_layout.specs.declared.spec.CommonSpec.{CommonSpec}
use Rattle.macho_layout.specs.Plans.{Planning}
use Rattle.macho_layout.specs.Names.{merged_count}
use Rattle.macho_layout.proofs.Costs.{members-cost-is}
use Rattle.macho_layout.proofs.Rooms.{members_there, members_small, flags_many}
use Rattle.macho_layout.proofs.plan.Plan.stacked.Goals as goal

pub stack-requires-clause-there : goal.stack-requires-clause-there
stack-requires-clause-there c =
    let p : Planning = c.args.self.now in
    let many : length c.deref.result.now ≡ merged_count c.args.self.now = ap length (c.deref.ensures.value ∙ c.in_ok-flags.ensures)
    ∙ flags_many c.args.self.now in
    let there = members_there c.args.self.now c.self.inside.sections.items c.self.inside.keys.keys c.self.inside.segments.keys
    (ap (λ (p : Planning). p.sections) (sym c.self.view_is)) c.self.invariant.0 in
    subst (λ (n : ℕ). All (λ (m : Member). m.cell < n) c.deref-2.result.now) (sym many)
    (subst (λ (ms : List Member). All (λ (m : Member). m.cell < merged_count c.args.self.now) ms)
    (sym (c.deref-2.ensures.value ∙ c.in_ok-members.ensures)) there)

pub stack-requires-clause-small : goal.stack-requires-clause-small
stack-requires-clause-small c =
    let sections = subst (λ (p : Planning). All (λ (s : SectionSpec). s.align ≤ 14) p.sections) c.self.view_is
    c.self.invariant.1.sections_small in
    let commons = subst (λ (p : Planning). All (λ (x : CommonSpec). x.align ≤ 14) p.commons) c.self.view_is
    c.self.invariant.1.commons_small in
    subst (λ (ms : List Member). All (λ (m : Member). m.exponent ≤ 14) ms) (sym (c.deref-2.ensures.value ∙ c.in_ok-members.ensures))
    (members_small c.args.self.now sections commons)

pub stack-requires-clause-room : goal.stack-requires-clause-room
stack-requires-clause-room c =
    let same = ap (sum_by cost_of) (c.deref-2.ensures.value ∙ c.in_ok-members.ensures) in
    omega (arith, same, members-cost-is c.args.self.now, c.requires.room)
