use Rattle.std.proofs.Common.{[]}
use Rattle.macho_tests.proofs.model_laws.first_common.Goals as goal

pub returns : goal.returns
returns c l after s = c.chosen_commons_are_counted.ensures l [] after s
