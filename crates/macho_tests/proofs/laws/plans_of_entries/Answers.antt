use Rattle.macho_tests.proofs.laws.plans_of_entries.Goals as goal

pub returns : goal.returns
returns c plan is
    = (c.plans_are_short.ensures c.args.text c.args.entries.now plan c.requires.some c.requires.entries is).1 c.args.span c.requires.spans
