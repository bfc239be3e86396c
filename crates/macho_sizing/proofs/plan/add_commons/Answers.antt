-- Each common adds what one more adds.
use Rattle.std.proofs.Common.{◌<◌, [], ◌∷◌, take, length, get_or, sym, ap, ◌∙◌, arith}
use Rattle.macho_symbols.specs.declared.solved.Common.{Common}
use Rattle.macho_sizing.specs.steps.Planned.{common_spec, common_specs}
use Rattle.macho_sizing.proofs.Adding.{with_commons, commons_none, commons_both, commons_more}
use Rattle.macho_sizing.proofs.plan.add_commons.Goals as goal

pub loop-number-init : goal.loop-number-init
loop-number-init c = commons_none c.args.plan.now

pub loop-number-preserved : goal.loop-number-preserved
loop-number-preserved c =
    let commons = c.args.commons.now in
    let k = c.loop-number.number in
    let d : Common = record { file = 0; symbol = 0; size = 0; align = 0 } in
    let lt : k < length commons = omega arith in
    commons_both c.args.plan.now c.loop-number.plan c.add_common.new.self (common_specs (take k commons)) (common_spec
    (k, get_or commons k d) ∷ [])
    c.loop-number.invariant c.in_ok-add_common.ensures.done
    ∙ ap (with_commons c.args.plan.now) (sym (commons_more commons k d lt))
