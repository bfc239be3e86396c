-- The room is the link's, for the span of its views is the link's; and no more than three personality functions have no more ids.
use Rattle.std.proofs.Common.{sym, ◌∙◌, subst, arith, inl, inr}
use Rattle.macho_consumed.specs.declared.room.RoomFault.{RoomFault}
use Rattle.macho_consumed.specs.Sizes.{IsNoRoom}
use Rattle.macho_layout.proofs.Costs.{fitting-some}
use Rattle.macho_sizing.proofs.PersonalityRows.{ids_few}
use Rattle.macho_sizing.proofs.Spans.{views_span, span_large}
use Rattle.macho_sizing.proofs.unwind.unwind_bytes.Goals as goal

pub returns-in_default : goal.returns-in_default
returns-in_default c l of_link =
    let large = span_large _ (sym c.in_default.is ∙ c.text_span.ensures) in
    inl (omega (arith, large, views_span l c.args.asked.now.views.now of_link.inputs.views c.requires.sized.rules))

pub unreachable-requires : goal.unreachable-requires
unreachable-requires c =
    let l = c.requires.few.0 in
    let of_link = c.requires.few.1 in
    let span = fitting-some _ _ c.in-Some.ensures ∙ views_span l c.args.asked.now.views.now of_link.inputs.views c.requires.sized.rules in
    let why = subst (λ (f : RoomFault). IsNoRoom l f) c.in-Err-TooManyPersonalities.field-0-is (c.in-Err-TooManyPersonalities.ensures.why l
    (record { imports = of_link.read.resolved; slots = of_link.read.needs.slots }) of_link.read.entries.1 of_link.read.entries.0 span) in
    omega (arith, why, ids_few l of_link.read.entries.1, c.requires.few.2)

pub returns-in-Ok : goal.returns-in-Ok
returns-in-Ok c l of_link =
    let span = fitting-some _ _ c.in-Some.ensures ∙ views_span l c.args.asked.now.views.now of_link.inputs.views c.requires.sized.rules in
    c.in-Ok.ensures.done l (record { imports = of_link.read.resolved; slots = of_link.read.needs.slots }) of_link.read.entries.1
    of_link.read.entries.0 span

pub returns-in-Err-TooLarge : goal.returns-in-Err-TooLarge
returns-in-Err-TooLarge c l of_link =
    let span = fitting-some _ _ c.in-Some.ensures ∙ views_span l c.args.asked.now.views.now of_link.inputs.views c.requires.sized.rules in
    inr (subst (λ (f : RoomFault). IsNoRoom l f) c.in-Err-TooLarge.field-0-is (c.in-Err-TooLarge.ensures.why l
    (record { imports = of_link.read.resolved; slots = of_link.read.needs.slots }) of_link.read.entries.1 of_link.read.entries.0 span))
