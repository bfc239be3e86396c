use Rattle.macho_promise_checks.proofs.laws.place_in_its_segment.Goals as goal

pub returns : goal.returns
returns c =
    c.places_are_in_segments.ensures c.args.segments.now c.args.segment c.args.address c.requires.order c.requires.one c.requires.holds
