-- None so far has it.
use Rattle.std.proofs.Common.{ℕ, ◌<◌}
use Rattle.macho_image_walks.specs.steps.Made.{BoundByNth}
use Rattle.macho_image_walks.proofs.fixed.bound.Given as goal

abbrev pub invariant-loop-number : goal.invariant-loop-number
invariant-loop-number l = (k v : ℕ) → k < l.number → BoundByNth l.bytes k l.addresses l.word v → ⊥
