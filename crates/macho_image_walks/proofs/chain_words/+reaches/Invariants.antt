-- The distance that is left becomes less; of the segments so far none leads on to the end.
use Rattle.std.proofs.Common.{ℕ, ◌<◌, ◌-◌, ◌+◌}
use Rattle.macho_image_walks.specs.Readings.{StepIn}
use Rattle.macho_image_walks.specs.steps.Walks.{Leads}
use Rattle.macho_image_walks.proofs.chain_words.+reaches.Given as goal

abbrev pub decreases-reaches : goal.decreases-reaches
decreases-reaches l = l.to - l.from

abbrev pub invariant-loop-number : goal.invariant-loop-number
invariant-loop-number l = (k n : ℕ) → k < l.number → StepIn l.bytes k l.from n → Leads l.bytes (l.from + n) l.to → ⊥
