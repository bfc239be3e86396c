-- None so far has it.
use Rattle.std.proofs.Common.{ℕ, ◌<◌, ◌-◌}
use Rattle.macho_model.specs.Chain.{OnChainOf}
use Rattle.macho_image_walks.proofs.mapped.covering.Given as goal

abbrev pub invariant-loop-back : goal.invariant-loop-back
invariant-loop-back l = (k : ℕ) → k < l.back → OnChainOf l.bytes (l.address - k) → ⊥
