use Rattle.std.proofs.Common.{sym, ◌∙◌, arith}
use Rattle.macho_symbols.specs.declared.solved.Common.{Common}
use Rattle.macho_symbols.proofs.Ascending.{at_place, no_place}
use Rattle.macho_symbols.proofs.solved.number_of_common.Goals as goal
use Rattle.macho_symbols.proofs.solved.number_of_common.Goals.{else-place-commons-via-then-place-commons+else-is_at, else-place-commons-via-else-place-commons}

pub returns-then-is_at : goal.returns-then-is_at
returns-then-is_at c =
    sym (at_place c.args.commons.now _ c.commons_before-place.result _ c.commons_before-place.ensures c.if-place-commons.true
    (sym c.is_at.ensures ∙ c.if-is_at.true))

pub returns-else-place-commons : goal.returns-else-place-commons
returns-else-place-commons c =
    let none : Common = record { file = 0; symbol = 0; size = 0; align = 0 } in
    sym (elim c.else-place-commons.branch [
      | else-place-commons-via-then-place-commons+else-is_at w ↦
          no_place c.args.commons.now _ c.commons_before-place.result _ c.requires.ascending c.commons_before-place.ensures
          (λ h. sym w.is_at.ensures ∙ w.if-is_at.false)
      | else-place-commons-via-else-place-commons w ↦
          no_place c.args.commons.now _ c.commons_before-place.result none c.requires.ascending c.commons_before-place.ensures
          (λ h. absurd (omega (arith, h, w.if-place-commons.false)))
    ])
