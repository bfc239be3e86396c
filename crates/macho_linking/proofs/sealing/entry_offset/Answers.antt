use Rattle.macho_linking.proofs.Headed.{entry_is}
use Rattle.macho_linking.proofs.sealing.entry_offset.Goals as goal

pub returns : goal.returns
returns g c l looked =
    entry_is l c.args.b.now (g.P.Places.look c.args.places.now) c.definition-target.result c.place_of.result
    c.saturating_sub.result c.entry.result.now looked c.entry.ensures c.definition-target.ensures c.place_of.ensures
    c.saturating_sub.ensures
