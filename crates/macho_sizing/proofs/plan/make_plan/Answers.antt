-- All parts are added to a plan of nothing.
use Rattle.std.proofs.Common.{◌≡◌, Bool, subst}
use Rattle.macho_layout.specs.Plans.{new_plan}
use Rattle.macho_sizing.proofs.plan.make_plan.Goals as goal

pub returns : goal.returns
returns c l executable views needs resolved =
    c.in_ok-add_parts.ensures l (subst (λ (e : Bool). c.new-plan.result ≡ new_plan e) executable c.new-plan.ensures) views needs resolved
