-- The program's table is the table of the definition, row by row.
use Rattle.macho_args.specs.Options.{option_named}
use Rattle.macho_args.proofs.options.option_named.Goals as goal

pub returns : goal.returns
unfolding option_named
returns c = c.named.ensures
