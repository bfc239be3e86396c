-- The name brings the member that the table tells, and where the table tells none it brings none.
use Rattle.std.proofs.Common.{◌≡◌, Option, Some, None, sym, ap, ◌∙◌}
use Rattle.std.specs.HashMap.{get}
use Rattle.macho_members.specs.declared.inputs.MemberPlace.{MemberPlace}
use Rattle.macho_members.specs.Views.{inputs_of, texts}
use Rattle.macho_members.specs.steps.Held.{held}
use Rattle.macho_members.specs.steps.Tables.{same_text}
use Rattle.macho_members.proofs.Search.{name_done}
use Rattle.macho_members.proofs.taking.take_brought.Goals as goal

nothing : (r : Option (Option MemberPlace)) (p : MemberPlace) → r ≡ Some None → r ≡ Some (Some p) → ⊥
nothing r p a b = cc

unknown : (r : Option (Option MemberPlace)) (p : MemberPlace) → r ≡ None → r ≡ Some (Some p) → ⊥
unknown r p a b = cc

pub returns-in-Some-Some-clause-step : goal.returns-in-Some-Some-clause-step
returns-in-Some-Some-clause-step c = λ finds was.
    c.take_member.ensures.step c.args.name.now
    (finds.brings c.args.name c.in-Some-Some.place (sym c.in-Some-Some.ensures.value ∙ ap Some c.in-Some-Some.field-0-is)) was

pub returns-in-Some-None-clause-step : goal.returns-in-Some-None-clause-step
returns-in-Some-None-clause-step c = λ finds was.
    name_done (inputs_of c.args.inputs.now) (held c.args.taken.now.keys) (held c.args.taken.now.keys) (texts c.args.pending.now.items)
    c.args.name.now (λ i m t. t) (λ i m t. t)
    (λ i m brings. let found = finds.all c.args.name i m brings in
    absurd (nothing (get same_text c.args.table.now c.args.name) found.0
    (sym c.in-Some-None.ensures.value ∙ ap Some c.in-Some-None.field-0-is) found.1)) was

pub returns-in-None-clause-step : goal.returns-in-None-clause-step
returns-in-None-clause-step c = λ finds was.
    name_done (inputs_of c.args.inputs.now) (held c.args.taken.now.keys) (held c.args.taken.now.keys) (texts c.args.pending.now.items)
    c.args.name.now (λ i m t. t) (λ i m t. t)
    (λ i m brings. let found = finds.all c.args.name i m brings in
    absurd (unknown (get same_text c.args.table.now c.args.name) found.0 (sym c.in-None.ensures.value) found.1)) was
