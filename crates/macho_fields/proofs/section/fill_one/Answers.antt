use Rattle.std.proofs.Common.{sym, ◌∙◌}
use Rattle.std.proofs.lemmas.Result.{on_ok_weaker, IfErr-weaker}
use Rattle.macho_fields.proofs.Nexts.{one_more, one_stopped, one_prefix}
use Rattle.macho_fields.proofs.section.fill_one.Goals as goal

pub returns-then-is_prefix-clause-done : goal.returns-then-is_prefix-clause-done
returns-then-is_prefix-clause-done g c =
    λ l p asked fill filled. one_prefix l p (g.P.Places.look c.args.places.now) c.args.source.now c.args.near.now.index c.args.out.now
    c.args.near.now asked c.args.run.now.items
    c.requires.source fill c.requires.near (sym c.is_prefix.ensures ∙ c.if-is_prefix.true) filled

pub returns-clause-done : goal.returns-clause-done
returns-clause-done g c =
    λ l p asked fill filled. on_ok_weaker c.fill_field.result
    (one_more l p (g.P.Places.look c.args.places.now) c.args.source.now c.args.near.now.index c.args.out.now c.fill_field.new.out
    c.args.near.now c.read_field-field.result
    asked c.args.run.now.items c.fill_field.new.run.items c.requires.source fill c.requires.index c.requires.near
    c.read_field-field.ensures
    (sym c.is_prefix.ensures ∙ c.if-is_prefix.false) filled)
    c.fill_field.ensures.done

pub returns-clause-why : goal.returns-clause-why
returns-clause-why g c =
    λ l p asked fill filled. IfErr-weaker c.fill_field.result _ _
    (λ fault stopped. one_stopped l p (g.P.Places.look c.args.places.now) c.args.source.now c.args.near.now.index c.args.out.now
    c.args.near.now c.read_field-field.result
    asked c.args.run.now.items fault c.requires.source fill c.requires.index c.requires.near c.read_field-field.ensures
    (sym c.is_prefix.ensures ∙ c.if-is_prefix.false) filled stopped)
    c.fill_field.ensures.why
