use Rattle.macho_symbols.proofs.Ascending.{ascending}
use Rattle.macho_symbols.proofs.solved.own_target.Goals as goal

pub number_of_common-requires-clause-ascending : goal.number_of_common-requires-clause-ascending
number_of_common-requires-clause-ascending c = ascending c.args.files.now c.args.commons.now c.requires.commons
