use Rattle.macho_tests.proofs.laws.bound_of_far_entries.Goals as goal

pub returns : goal.returns
returns c = c.far_page_needs_room.ensures c.args.text c.args.span c.args.entries.now c.requires.entries c.requires.far c.requires.spans
