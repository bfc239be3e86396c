use Rattle.macho_tests.proofs.laws.ids_by_number.Goals as goal

pub returns : goal.returns
returns c = c.ids_are_named.ensures.numbers c.args.entries.now c.args.count c.requires
