-- None so far has it.
use Rattle.std.proofs.Common.{ℕ, ◌<◌}
use Rattle.macho_image_walks.specs.steps.Made.{NthMakesNothing}
use Rattle.macho_image_walks.proofs.fixed.fixed_value.Given as goal

abbrev pub invariant-loop-number : goal.invariant-loop-number
invariant-loop-number l = (k : ℕ) → k < l.number → NthMakesNothing l.bytes k l.slide l.addresses l.word_at
