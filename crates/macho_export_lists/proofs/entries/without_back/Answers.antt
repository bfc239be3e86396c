use Rattle.std.proofs.Common.{◌≡◌, ◌-◌, length, take, sym, ap, ◌∙◌, arith, get_or}
use Rattle.macho_export_lists.specs.steps.Lines.{is_blank}
use Rattle.macho_export_lists.proofs.Trims.{back_is}
use Rattle.macho_export_lists.proofs.entries.without_back.Goals as goal

pub returns-then-not-is_blank : goal.returns-then-not-is_blank
returns-then-not-is_blank c =
    let text = c.args.text.now in
    let n = c.loop-skipped.skipped in
    let place : length text - n - 1 ≡ length text - 1 - n = omega arith in
    sym (back_is text n (omega arith) c.loop-skipped.invariant
    (λ h. ap (λ k. is_blank (get_or text k 0)) (sym place) ∙ sym c.is_blank.ensures ∙ c.if-not-is_blank.true))

pub returns : goal.returns
returns c =
    let text = c.args.text.now in
    let n = c.loop-skipped.skipped in
    let none : length text - n ≡ 0 = omega arith in
    sym (back_is text n (omega arith) c.loop-skipped.invariant (λ h. absurd (omega (arith, h))) ∙ ap (λ k. take k text) none)
