-- A placement of a plan is one of its link, and a refusal is one of its link.
use Rattle.std.proofs.Common.{subst}
use Rattle.macho_model.specs.declared.placed.Counts.{Counts}
use Rattle.macho_layout.specs.Placements.{placed_of}
use Rattle.macho_layout.specs.Laid.{FaultStands}
use Rattle.macho_sizing.specs.steps.Rooms.{IsLaid}
use Rattle.macho_sizing.proofs.Placements.{is_laid}
use Rattle.macho_sizing.proofs.placing.place_kept.Goals as goal

pub returns-in-Ok-clause-done : goal.returns-in-Ok-clause-done
returns-in-Ok-clause-done c l plan =
    subst (λ (n : Counts). IsLaid l n (placed_of c.in-Ok.placement)) c.kept_counts.ensures
    (is_laid l c.args.plan.now c.kept_counts.result
    (placed_of c.in-Ok.placement) plan c.in-Ok.ensures.found c.in-Ok.ensures.laid c.in-Ok.ensures.small)

pub returns-in-Err-clause-why : goal.returns-in-Err-clause-why
returns-in-Err-clause-why c l plan are =
    c.error_of.ensures l c.args.plan.now c.args.counts.now plan are
    (subst (λ (n : Counts). FaultStands c.args.plan.now n c.in-Err.fault) c.kept_counts.ensures c.in-Err.ensures.why)
