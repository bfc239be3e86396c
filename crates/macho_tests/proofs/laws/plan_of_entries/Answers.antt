use Rattle.macho_tests.proofs.laws.plan_of_entries.Goals as goal

pub returns : goal.returns
returns c plan other = c.plans_are_one.ensures c.args.text c.args.entries.now plan other c.requires
