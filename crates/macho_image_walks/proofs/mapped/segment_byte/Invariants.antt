-- None so far has it.
use Rattle.std.proofs.Common.{ℕ, ◌<◌}
use Rattle.macho_image_walks.specs.steps.Walks.{NthLacksByte}
use Rattle.macho_image_walks.proofs.mapped.segment_byte.Given as goal

abbrev pub invariant-loop-number : goal.invariant-loop-number
invariant-loop-number l = (k : ℕ) → k < l.number → NthLacksByte l.bytes k l.address
