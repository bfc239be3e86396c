use Rattle.std.proofs.Common.{sym, ◌∙◌}
use Rattle.std.proofs.lemmas.Result.{on_ok_weaker}
use Rattle.macho_fields.proofs.Pointed.{pointed_field, pointed_prefix}
use Rattle.macho_fields.proofs.pointers.push_one.Goals as goal

pub returns-then-is_prefix : goal.returns-then-is_prefix
returns-then-is_prefix g c = record {
  done =
      λ l p asked fill pointed. pointed_prefix l p (g.P.Places.look c.args.places.now) c.args.source.now c.args.near.now.index
      c.args.near.now asked c.args.run.now.items
      c.requires.source fill c.requires.near (sym c.is_prefix.ensures ∙ c.if-is_prefix.true) pointed;
}

pub returns : goal.returns
returns g c = record {
  done =
      λ l p asked fill pointed. on_ok_weaker c.push_field.result
      (pointed_field l p (g.P.Places.look c.args.places.now) c.args.source.now c.args.near.now.index
      c.args.near.now c.read_field-field.result
      asked c.args.run.now.items c.push_field.new.run.items c.requires.source fill c.requires.index c.requires.near
      c.read_field-field.ensures
      (sym c.is_prefix.ensures ∙ c.if-is_prefix.false) pointed)
      c.push_field.ensures.done;
}
