use Rattle.macho_tests.proofs.line_laws.scalar_is_spelled.Goals as goal

pub returns : goal.returns
returns c = c.lines_are_trees.ensures.scalars.found c.args.line c.args.at c.args.value.now c.args.text.now c.requires
