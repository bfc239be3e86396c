use Rattle.std.proofs.Common.{◌-◌, length, drop, sym, ◌∙◌, arith, take_all, length-drop}
use Rattle.std.proofs.lemmas.List.{drop_all}
use Rattle.macho_export_lists.proofs.Trims.{front_is}
use Rattle.macho_export_lists.proofs.entries.without_front.Goals as goal

pub returns-then-not-is_blank : goal.returns-then-not-is_blank
returns-then-not-is_blank c =
    let text = c.args.text.now in
    let at = c.loop-at.at in
    take_all (length text - at) (drop at text) (omega (arith, length-drop at text))
    ∙ sym (front_is text at (omega arith) c.loop-at.invariant (λ h. sym c.is_blank.ensures ∙ c.if-not-is_blank.true))

pub returns : goal.returns
returns c =
    let text = c.args.text.now in
    sym (front_is text c.loop-at.at (omega arith) c.loop-at.invariant (λ h. absurd (omega (arith, h)))
    ∙ drop_all c.loop-at.at text (omega arith))
