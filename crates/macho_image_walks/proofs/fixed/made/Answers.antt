-- A word that moves becomes one value, whatever the choice.
use Rattle.std.proofs.Common.{subst}
use Rattle.macho_model.specs.Loader.{is_bind}
use Rattle.macho_model.specs.Memory.{Becomes}
use Rattle.macho_image_walks.proofs.WordWalk.{some_is}
use Rattle.macho_image_walks.proofs.fixed.made.Goals as goal

pub returns-else-binds-clause-found : goal.returns-else-binds-clause-found
returns-else-binds-clause-found c v is choice gives =
    subst (λ u. Becomes c.args.bytes.now c.args.slide choice c.args.word u (is_bind c.args.word)) (some_is c.rebased.result v is)
    (c.rebased.ensures choice)
