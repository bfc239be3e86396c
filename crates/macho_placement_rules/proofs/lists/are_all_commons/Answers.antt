-- Whether the commons are so many, by number.
--
-- They are as many, and each has its number; one that hasn't shows that the lists differ.
use Rattle.std.proofs.Common.{arith}
use Rattle.macho_model.specs.declared.placed.PlacedCommon.{PlacedCommon}
use Rattle.macho_placement_rules.proofs.Same.{numbered, numbered_long, numbered_at}
use Rattle.macho_placement_rules.proofs.lists.are_all_commons.Goals as goal

-- nothing, in place of what isn't there
abbrev no_common : PlacedCommon
no_common = record { id = 0; address = 0 }

pub returns-then-commons-count-clause-only : goal.returns-then-commons-count-clause-only
returns-then-commons-count-clause-only c = λ same. absurd (omega (arith, numbered_long c.args.commons.now c.args.count same))

pub returns-then-common-number-clause-only : goal.returns-then-common-number-clause-only
returns-then-common-number-clause-only c = λ same.
    absurd (omega (arith, numbered_at c.args.commons.now c.args.count no_common c.loop-number.number same c.loop-number-test.true))

pub returns-clause-found : goal.returns-clause-found
returns-clause-found c =
    numbered c.args.commons.now c.args.count no_common (omega arith) (λ k low. c.loop-number.invariant k no_common (omega arith))
