use Rattle.std.proofs.Common.{sym, ◌∙◌}
use Rattle.macho_fields.proofs.Judging as judging
use Rattle.macho_fields.proofs.wrong.is_wrong.Goals as goal

pub returns-then-is_prefix-clause-right : goal.returns-then-is_prefix-clause-right
returns-then-is_prefix-clause-right g c =
    λ l p fill right. judging.read_prefix l p (g.P.Places.look c.args.places.now) c.args.source.now c.args.near.now.index
    c.args.near.now c.args.bytes.now c.requires.source fill c.requires.near (sym c.is_prefix.ensures ∙ c.if-is_prefix.true)

pub returns-clause-right : goal.returns-clause-right
returns-clause-right g c =
    λ l p fill. judging.read_field l p (g.P.Places.look c.args.places.now) c.args.source.now c.args.near.now.index
    c.args.near.now c.read_field-field.result c.args.bytes.now c.is_wrong_field.result
    c.requires.source fill c.requires.index c.requires.near c.read_field-field.ensures
    (sym c.is_prefix.ensures ∙ c.if-is_prefix.false) c.requires.long c.is_wrong_field.ensures

pub returns-clause-wrong : goal.returns-clause-wrong
returns-clause-wrong g c =
    λ l p fill. judging.is_wrong l p (g.P.Places.look c.args.places.now) c.args.source.now c.args.near.now.index
    c.args.near.now c.read_field-field.result c.args.bytes.now c.is_wrong_field.result
    c.requires.source fill c.requires.index c.requires.near c.read_field-field.ensures
    (sym c.is_prefix.ensures ∙ c.if-is_prefix.false) c.requires.long c.is_wrong_field.ensures
