-- A refusal that was met stands, so the one that is told stands.
use Rattle.std.proofs.Common.{◌∙◌}
use Rattle.macho_linking.proofs.Filling.{zeros_long}
use Rattle.macho_linking.proofs.refused.try_contents.Goals as goal

pub told_of-requires-clause-long : goal.told_of-requires-clause-long
told_of-requires-clause-long g c = c.write_contents.ensures.length ∙ zeros_long _ c.args.out.now c.requires.zeros

pub returns-in-Err-clause-why : goal.returns-in-Err-clause-why
returns-in-Err-clause-why g c l h = c.told_of.ensures.why l h (c.in-Err.ensures.why l h)
