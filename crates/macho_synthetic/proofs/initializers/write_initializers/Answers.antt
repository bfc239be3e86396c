use Rattle.std.proofs.Common.{◌∙◌}
use Rattle.std.proofs.lemmas.Result.{on_ok_weaker, IfErr-weaker}
use Rattle.macho_synthetic.proofs.OffsetTexts.{offsets_made, refused}
use Rattle.macho_synthetic.proofs.initializers.write_initializers.Goals as goal

pub returns-clause-done : goal.returns-clause-done
returns-clause-done g c = λ l counts p make tells same. on_ok_weaker c.put_offsets.result
    (offsets_made l counts p (g.P.Places.look c.args.places.now) c.args.rows.now c.put_offsets.new.out make tells same
    (c.put_offsets.ensures.length ∙ c.requires.long)) c.put_offsets.ensures.done

pub returns-clause-why : goal.returns-clause-why
returns-clause-why g c = λ l counts p make tells same. IfErr-weaker c.put_offsets.result _ _
    (λ fault. refused l counts p (g.P.Places.look c.args.places.now) c.args.rows.now fault make tells same) c.put_offsets.ensures.why
