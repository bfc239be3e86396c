use Rattle.std.proofs.Common.{◌≡◌, ℕ, ◌≤◌, ◌^◌, ap, ◌∙◌, subst, List, Option, length, map}
use Rattle.macho_unwind_pages.specs.declared.entries.UnwindInput.{UnwindInput}
use Rattle.macho_unwind_pages.specs.declared.entries.UnwindFault.{UnwindFault}
use Rattle.macho_unwind_pages.specs.Bounds.{unwind_bound_of}
use Rattle.macho_unwind_pages.specs.Entries.{ids_of}
use Rattle.macho_unwind_pages.specs.Calls.{HasTooMany, BoundFault, TellsBound}
use Rattle.macho_consumed.specs.steps.Inputs.{input_by}
use Rattle.macho_consumed.proofs.BoundInputs.{none_told, some_told, none_few, inputs_told}
use Rattle.macho_consumed.proofs.room.unwind_room.Goals as goal

pub returns-then-is_empty-clause-done : goal.returns-then-is_empty-clause-done
returns-then-is_empty-clause-done c = λ l noted keeps are spans. none_told l _ are c.if-is_empty.ensures

pub returns-then-is_empty-clause-few : goal.returns-then-is_empty-clause-few
returns-then-is_empty-clause-few c = λ l noted keeps are. none_few l _ are c.if-is_empty.ensures

pub returns-in-Ok-Some-clause-done : goal.returns-in-Ok-Some-clause-done
returns-in-Ok-Some-clause-done c = λ l noted keeps are spans.
    let told : c.in-Ok-Some.room ≡ unwind_bound_of c.deref.result.now c.args.span =
    subst (λ (o : Option ℕ). TellsBound c.deref.result.now c.args.span o) c.in-Ok-Some.field-0-is c.in-Ok-Some.ensures.done in
    told ∙ ap (λ (xs : List UnwindInput). unwind_bound_of xs c.args.span) (c.deref.ensures.value ∙ c.in-Ok.ensures l noted)
    ∙ some_told l _ c.args.span keeps are spans c.if-is_empty.ensures

pub returns-in-Ok-Some-clause-few : goal.returns-in-Ok-Some-clause-few
returns-in-Ok-Some-clause-few c = λ l noted keeps are.
    subst (λ (xs : List UnwindInput). length (ids_of xs) ≤ 3) (c.deref.ensures.value ∙ c.in-Ok.ensures l noted
    ∙ ap (map (input_by l)) are ∙ inputs_told l keeps) c.in-Ok-Some.ensures.few

pub returns-in-Ok-None-clause-why : goal.returns-in-Ok-None-clause-why
returns-in-Ok-None-clause-why c = λ l noted keeps are spans.
    let told : 2 ^ 64 ≤ unwind_bound_of c.deref.result.now c.args.span =
    subst (λ (o : Option ℕ). TellsBound c.deref.result.now c.args.span o) c.in-Ok-None.field-0-is c.in-Ok-None.ensures.done in
    subst (λ (n : ℕ). 2 ^ 64 ≤ n) (ap (λ (xs : List UnwindInput). unwind_bound_of xs c.args.span) (c.deref.ensures.value
    ∙ c.in-Ok.ensures l noted)
    ∙ some_told l _ c.args.span keeps are spans c.if-is_empty.ensures) told

pub returns-in-Err-TooManyPersonalities-clause-why : goal.returns-in-Err-TooManyPersonalities-clause-why
returns-in-Err-TooManyPersonalities-clause-why c = λ l noted keeps are spans.
    let told : HasTooMany c.deref.result.now =
    subst (λ (f : UnwindFault). BoundFault c.deref.result.now f) c.in-Err-TooManyPersonalities.field-0-is
    c.in-Err-TooManyPersonalities.ensures.why in
    subst HasTooMany (c.deref.ensures.value ∙ c.in-Ok.ensures l noted ∙ ap (map (input_by l)) are ∙ inputs_told l keeps) told
