-- The number that is told passes its limit, the one that was counted or the one that the plan tells.
use Rattle.std.proofs.Common.{sym, subst, inl, inr, length, None}
use Rattle.std.specs.Prelude.{Option, IfSome}
use Rattle.macho_layout.specs.declared.fault.LayoutFault.TheVariants as layout
use Rattle.macho_layout.specs.Laid.{FaultStands}
use Rattle.macho_answer.specs.declared.fault.LinkError.{LinkError}
use Rattle.macho_answer.specs.declared.fault.LinkError.TheVariants.{TooMany}
use Rattle.macho_answer.specs.Standing.{Stands}
use Rattle.macho_sizing.specs.declared.numbers.Passed.{Passed}
use Rattle.macho_sizing.specs.steps.Passing.{counts_before}
use Rattle.macho_sizing.proofs.Refusals.{number_stands, plan_stands}
use Rattle.macho_sizing.proofs.refusing.check_limits.Goals as goal

pub returns-clause-why : goal.returns-clause-why
returns-clause-why c l counts of_link plan numbers symbols are =
    let a = c.args.asked.now in
    let told = c.told_first.result in
    let stands : Stands l counts (TooMany told.what told.number None) = elim c.told_first.ensures [
      | inl same ↦ subst (λ (p : Passed). Stands l counts (TooMany p.what p.number None)) (sym same)
          (number_stands l counts c.args.numbers.now c.in-Err.passed.what c.in-Err.passed.number numbers symbols are
          c.in-Err.ensures.passed)
      | inr some ↦ plan_stands l c.args.plan.now a counts told.what told.number of_link plan are
          (subst (λ (o : Option Passed). IfSome o (λ p. FaultStands c.args.plan.now
          (counts_before (length a.initializers.now) (length a.entries.now))
          (layout.TooMany p.what p.number))) some c.plan_passes-of_plan.ensures)
    ] in
    subst (λ (e : LinkError). Stands l counts e) (sym c.too_many.ensures) stands
