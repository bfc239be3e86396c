-- The address is on the chain of none of the segments so far.
use Rattle.std.proofs.Common.{ℕ, ◌<◌}
use Rattle.macho_image_walks.specs.steps.Walks.{IsOffSegment}
use Rattle.macho_image_walks.proofs.chain_words.is_on_chain.Given as goal

abbrev pub invariant-loop-number : goal.invariant-loop-number
invariant-loop-number l = (k : ℕ) → k < l.number → IsOffSegment l.bytes k l.address
