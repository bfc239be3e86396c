-- All that is told is the link's.
use Rattle.std.proofs.Common.{refl}
use Rattle.macho_linking.proofs.Closing.{answered}
use Rattle.macho_linking.proofs.passes.answer.Goals as goal

pub returns : goal.returns
returns c l uuid h told =
    answered l uuid c.args.made.written c.args.made.sized c.args.read _ c.args.made.imports.items h told _ refl refl refl refl refl refl
