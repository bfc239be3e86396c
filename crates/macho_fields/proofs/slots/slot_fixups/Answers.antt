use Rattle.std.proofs.lemmas.Result.{on_ok_weaker, IfErr-weaker}
use Rattle.macho_fields.proofs.Leading.{slots_done, slots_fit, slot_stands}
use Rattle.macho_fields.proofs.slots.slot_fixups.Goals as goal

pub returns-clause-done : goal.returns-clause-done
returns-clause-done g c =
    λ l p tells same. on_ok_weaker c.ask_slots.result
    (slots_done l p (g.P.Places.look c.args.places.now) c.args.slots.now c.args.run.now.items c.ask_slots.new.run.items tells)
    c.ask_slots.ensures.done

pub returns-clause-only : goal.returns-clause-only
returns-clause-only g c =
    λ l p tells found same. on_ok_weaker c.ask_slots.result
    (slots_fit l p (g.P.Places.look c.args.places.now) c.args.slots.now c.args.run.now.items c.ask_slots.new.run.items tells found same)
    c.ask_slots.ensures.done

pub returns-clause-why : goal.returns-clause-why
returns-clause-why g c =
    λ l p tells found same. IfErr-weaker c.ask_slots.result _ _
    (λ fault. slot_stands l p (g.P.Places.look c.args.places.now) c.args.slots.now fault tells found same) c.ask_slots.ensures.why
