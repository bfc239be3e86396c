use Rattle.macho_fields.proofs.Through.{slots_pushed}
use Rattle.macho_fields.proofs.slots.ask_slots.Goals as goal
use Rattle.macho_bytes.proofs.Comparing.{read_alike}

pub loop-index-preserved : goal.loop-index-preserved
loop-index-preserved g c =
    slots_pushed (g.P.Places.look c.args.places.now) c.args.slots.now c.loop-index.index _ c.in-Some.kind c.args.run.now.items
    c.loop-index.run.items c.push.new.self.items
    c.loop-index.invariant c.loop-index-test.true (read_alike c.args.slots.now c.loop-index.index _ _ c.loop-index-test.true)
    c.in-Some.ensures c.in_ok-push.ensures.items
