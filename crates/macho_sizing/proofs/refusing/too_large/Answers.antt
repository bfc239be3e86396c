-- The plan passes a limit, or the content is too large.
use Rattle.std.proofs.Common.{sym, subst}
use Rattle.macho_answer.specs.declared.fault.LinkError.{LinkError}
use Rattle.macho_answer.specs.Standing.{Stands}
use Rattle.macho_sizing.proofs.Refusals.{plan_stands, large_stands}
use Rattle.macho_sizing.proofs.refusing.too_large.Goals as goal

pub returns-in-Some : goal.returns-in-Some
returns-in-Some c l counts of_link plan are large =
    subst (λ (e : LinkError). Stands l counts e) (sym c.too_many.ensures)
    (plan_stands l c.args.plan.now c.args.asked.now counts c.in-Some.passed.what c.in-Some.passed.number of_link plan are c.in-Some.ensures)

pub returns-in-None : goal.returns-in-None
returns-in-None c l counts of_link plan are large = large_stands l counts large
