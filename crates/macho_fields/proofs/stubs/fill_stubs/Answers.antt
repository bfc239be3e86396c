use Rattle.std.proofs.lemmas.Result.{on_ok_weaker, IfErr-weaker}
use Rattle.macho_fields.proofs.Leading.{stubs_set, none_far, stub_stands}
use Rattle.macho_fields.proofs.stubs.fill_stubs.Goals as goal

pub returns-clause-done : goal.returns-clause-done
returns-clause-done g c =
    λ p tells found same. on_ok_weaker c.put_stubs.result
    (stubs_set p (g.P.Places.look c.args.places.now) c.args.stubs.now c.put_stubs.new.out tells found same) c.put_stubs.ensures.done

pub returns-clause-only : goal.returns-clause-only
returns-clause-only g c =
    λ l p tells found same. on_ok_weaker c.put_stubs.result
    (none_far l p (g.P.Places.look c.args.places.now) c.args.stubs.now c.put_stubs.new.out tells found same) c.put_stubs.ensures.done

pub returns-clause-why : goal.returns-clause-why
returns-clause-why g c =
    λ l p tells found same. IfErr-weaker c.put_stubs.result _ _
    (λ fault. stub_stands l p (g.P.Places.look c.args.places.now) c.args.stubs.now fault tells found same) c.put_stubs.ensures.why
