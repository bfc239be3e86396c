-- The next part is not in the way either, and behind the last none is.
use Rattle.std.proofs.Common.{◌≡◌, All, take, false, sym, subst}
use Rattle.std.proofs.lemmas.List.{take_all, take_more}
use Rattle.std.proofs.lemmas.List.Elements.{All-push}
use Rattle.macho_retool.specs.declared.parts.FilePart.{FilePart}
use Rattle.macho_retool.specs.Parts.{is_in_way}
use Rattle.macho_retool.proofs.room.first_in_way.Goals as goal

pub loop-part-preserved : goal.loop-part-preserved
loop-part-preserved c =
    let clear : FilePart → Type 0 = λ p. is_in_way c.args.end c.args.limit p ≡ false in
    let parts = c.args.parts.now in
    let i = c.loop-part.part-index in
    subst (All clear) (sym (take_more parts i _ c.loop-part-test.true))
    (All-push clear (take i parts) _ c.loop-part.invariant (subst (λ t. t ≡ false) c.is_in_way.ensures c.if-is_in_way.false))

pub returns-clause-only : goal.returns-clause-only
returns-clause-only c =
    λ none. subst (λ ps. All (λ p. is_in_way c.args.end c.args.limit p ≡ false) ps)
    (take_all c.loop-part.part-index c.args.parts.now c.loop-part-test.false) c.loop-part.invariant
